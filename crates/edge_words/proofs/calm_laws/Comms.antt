-- The communities of a unicast route, read back.
use Rattle.std.proofs.Common.{◌≡◌, ℕ, ◌<◌, ◌^◌, ◌&&◌, suc, Bool, false, cond, inl, inr, List, [], ◌∷◌, ◌++◌, take, drop, nat_eq, Option, Some, None, refl, sym, ap, subst, ◌∙◌, arith}
use Rattle.std.specs.Prelude.{All, slice_get}
use Rattle.std.specs.Int.{w16, from_be_bytes}
use Rattle.std.specs.Cmp.Lexicographic.{pointwise}
use Rattle.std.proofs.lemmas.Nat.{from_be_bytes-to_be_bytes_2}
use Rattle.mv_base.specs.Address.{same_addr, same_addr_equiv}
use Rattle.mv_base.specs.Number.{◌>>?◌, only_if}
use Rattle.mv_base.specs.declared.addr.Addr.{Addr}
use Rattle.mv_base.specs.declared.addr.Addr.TheVariants.{V4, V6}
use Rattle.mv_base.specs.route_targets.Communities.{kind}
use Rattle.mv_base.specs.declared.route_targets.communities.ExtComm.{ExtComm}
use Rattle.mv_base.specs.declared.route_targets.communities.Target.{Target}
use Rattle.scenario_defs.specs.Rules.{Rules, IsIpv4, IsTarget}
use Rattle.scenario_defs.specs.declared.scenario.Node.{Node}
use Rattle.scenario_defs.specs.declared.scenario.Scenario.{Scenario}
use Rattle.scenario_defs.specs.declared.scenario.Vrf.{Vrf}
use Rattle.scenario_defs.proofs.RuleLemmas.{all_at}
use Rattle.selective_defs.specs.Selective.{Among}
use Rattle.edge_defs.specs.Edge.{Import}
use Rattle.edge_defs.specs.Imported.{import_in, source_as_in, found_in, only_one, JoinBy, join_by}
use Rattle.edge_defs.specs.Originated.{target_comms, import_comm, source_as_comm, own_import, unicast_value}
use Rattle.edge_defs.specs.Place.{EdgePlace, OwnVrf, addr_of, own_addr, own_vrfs}
use Rattle.edge_words.proofs.calm_laws.Lists.{passes, map_among, found_step, found_after, among_either}
use Rattle.edge_words.proofs.calm_laws.Targets.{among_comms}
use Rattle.edge_words.proofs.calm_laws.Vrfs.{own_edge, own_rules}

pub all_of : {X : Type 0} (P : X → Type 0) (x : X) (xs : List X) → All P xs → Among x xs → P x
all_of P x [] h a = absurd a
all_of P x (y ∷ ys) h (inl e) = subst P (sym e) (h 0 y (omega arith))
all_of P x (y ∷ ys) h (inr a) = all_of P x ys (λ k d less. h (suc k) d (omega (arith, less))) a

-- ---- imports

import_back : (addr : Addr) (number : ℕ) → IsIpv4 addr → number < 2 ^ 16
    → import_in (import_comm (record { addr = addr; number = number })) ≡ Some (record { addr = addr; number = number })
import_back (V6 octets) number is less = absurd is
import_back (V4 []) number is less = absurd (omega (arith, is))
import_back (V4 (a ∷ [])) number is less = absurd (omega (arith, is))
import_back (V4 (a ∷ b ∷ [])) number is less = absurd (omega (arith, is))
import_back (V4 (a ∷ b ∷ c ∷ [])) number is less = absurd (omega (arith, is))
import_back (V4 (a ∷ b ∷ c ∷ d ∷ [])) number is less =
    ap (λ (n : ℕ). Some (record { addr = V4 (a ∷ b ∷ c ∷ d ∷ []); number = n })) (from_be_bytes-to_be_bytes_2 number less)
import_back (V4 (a ∷ b ∷ c ∷ d ∷ e ∷ more)) number is less = absurd (omega (arith, is))

import_by_kind : (comm : ExtComm) (front : List ℕ) → kind comm ≡ front → pointwise nat_eq front (0x01 ∷ 0x0B ∷ []) ≡ false → import_in comm ≡ None
import_by_kind comm front e h =
    ap (λ (b : Bool). cond b (Some (record { addr = V4 (take 4 (drop 2 comm.0)); number = from_be_bytes w16 (drop 6 comm.0) })) None)
    (ap (λ (xs : List ℕ). pointwise nat_eq xs (0x01 ∷ 0x0B ∷ [])) e ∙ h)

no_import : (target : Target) → IsTarget target → import_in target.0 ≡ None
no_import target is = elim is.1 [
  | inl e ↦ import_by_kind target.0 (0 ∷ 2 ∷ []) e refl
  | inr e ↦ import_by_kind target.0 (1 ∷ 2 ∷ []) e refl
]

-- ---- Source ASs

source_as_back : (number : ℕ) → number < 2 ^ 16 → source_as_in (source_as_comm number) ≡ Some number
source_as_back number less = ap (λ (n : ℕ). Some n) (from_be_bytes-to_be_bytes_2 number less)

source_as_by_kind : (comm : ExtComm) (front : List ℕ) → kind comm ≡ front → pointwise nat_eq front (0x00 ∷ 0x09 ∷ []) ≡ false
    → source_as_in comm ≡ None
source_as_by_kind comm front e h =
    ap (λ (b : Bool). cond (b && pointwise nat_eq (drop 4 comm.0) (0 ∷ 0 ∷ 0 ∷ 0 ∷ [])) (Some (from_be_bytes w16 (take 2 (drop 2 comm.0)))) None)
    (ap (λ (xs : List ℕ). pointwise nat_eq xs (0x00 ∷ 0x09 ∷ [])) e ∙ h)

no_source_as : (target : Target) → IsTarget target → source_as_in target.0 ≡ None
no_source_as target is = elim is.1 [
  | inl e ↦ source_as_by_kind target.0 (0 ∷ 2 ∷ []) e refl
  | inr e ↦ source_as_by_kind target.0 (1 ∷ 2 ∷ []) e refl
]

-- ---- all communities of a unicast route

none_of : {B : Type 0} (f : ExtComm → Option B) (vrf : Vrf) → All IsTarget vrf.targets → ((target : Target) → IsTarget target → f target.0 ≡ None)
    → (comm : ExtComm) → Among comm (target_comms vrf) → f comm ≡ None
none_of f vrf each none comm a =
    let by = map_among (λ (t : Target). t.0) comm vrf.targets a in
    ap f by.2 ∙ none by.0 (all_of IsTarget by.0 vrf.targets each by.1)

imports_found : (vrf : Vrf) (import : Import) (number : ℕ) → All IsTarget vrf.targets → IsIpv4 import.addr → import.number < 2 ^ 16
    → found_in import_in (target_comms vrf ++ (import_comm import ∷ source_as_comm number ∷ [])) ≡ import ∷ []
imports_found vrf import number each is less =
    found_after import_in (target_comms vrf) (import_comm import ∷ source_as_comm number ∷ []) (none_of import_in vrf each no_import)
    ∙ found_step import_in (import_comm import) (source_as_comm number ∷ []) (Some import) (import_back import.addr import.number is less)

source_ass_found : (vrf : Vrf) (import : Import) (number : ℕ) → All IsTarget vrf.targets → number < 2 ^ 16
    → found_in source_as_in (target_comms vrf ++ (import_comm import ∷ source_as_comm number ∷ [])) ≡ number ∷ []
source_ass_found vrf import number each less =
    found_after source_as_in (target_comms vrf) (import_comm import ∷ source_as_comm number ∷ []) (none_of source_as_in vrf each no_source_as)
    ∙ found_step source_as_in (source_as_comm number) [] (Some number) (source_as_back number less)

-- ---- the address of an edge

addr_at : (scenario : Scenario) (number : ℕ) (node : Node) → slice_get scenario.nodes number ≡ Some node
    → addr_of scenario (record { 0 = number }) ≡ node.addr
addr_at scenario number node e = ap (λ (o : Option Node). elim o [ None ↦ V4 [] | Some found ↦ found.addr ]) e

pub own_ipv4 : (place : EdgePlace) (own : OwnVrf) → Rules place.scenario → Among own (own_vrfs place) → IsIpv4 (own_addr place)
own_ipv4 place own rules a =
    let edge = (own_rules place own rules a).edge in
    let at : slice_get place.scenario.nodes place.me.0 ≡ Some edge.node =
    ap (slice_get place.scenario.nodes) (sym (own_edge place own a)) ∙ edge.at in
    subst IsIpv4 (sym (addr_at place.scenario place.me.0 edge.node at))
    (all_at (λ node. IsIpv4 node.addr) place.scenario.nodes rules.core.ipv4 place.me.0 edge.node at)

-- ---- a unicast route of an edge

-- what it says for a Source Tree Join
pub joins_by : (place : EdgePlace) (own : OwnVrf) → Rules place.scenario → Among own (own_vrfs place)
    → join_by (own_addr place) (unicast_value place own.vrf) ≡ Some (record { import = own_import place own.vrf; source_as = place.scenario.system })
joins_by place own rules a =
    let is = own_rules place own rules a in
    let number = is.number.1 in
    let system = rules.settings.system.1 in
    let peer = own_addr place in
    let by : JoinBy = record { import = own_import place own.vrf; source_as = place.scenario.system } in
    let comms : List ExtComm = target_comms own.vrf ++ (import_comm (own_import place own.vrf) ∷ source_as_comm place.scenario.system ∷ []) in
    ap (λ (found : List Import). only_one found >>? λ import. only_one (found_in source_as_in comms) >>? λ source_as. only_if
    (same_addr import.addr peer && same_addr peer peer) (record { import = import; source_as = source_as }))
    (imports_found own.vrf (own_import place own.vrf) place.scenario.system is.each (own_ipv4 place own rules a) (omega (arith, number)))
    ∙ ap (λ (found : List ℕ). only_one found >>? λ source_as. only_if (same_addr peer peer && same_addr peer peer)
    (record { import = own_import place own.vrf; source_as = source_as }))
    (source_ass_found own.vrf (own_import place own.vrf) place.scenario.system is.each (omega (arith, system)))
    ∙ passes (same_addr peer peer && same_addr peer peer) by (ap (λ (b : Bool). b && b) (same_addr_equiv.refl peer))

not_kind : (target : Target) (comm : ExtComm) → IsTarget target → target.0 ≡ comm → (kind comm ≡ 0 ∷ 2 ∷ [] → ⊥) → (kind comm ≡ 1 ∷ 2 ∷ [] → ⊥) → ⊥
not_kind target comm is e h k = elim is.1 [
  | inl own ↦ h (ap kind (sym e) ∙ own)
  | inr own ↦ k (ap kind (sym e) ∙ own)
]

abbrev second : List ℕ → ℕ
second (a ∷ b ∷ more) = b
second (a ∷ []) = 0
second [] = 0

-- a target of a VRF that is among them is a target of the VRF whose route it is
pub unicast_target : (place : EdgePlace) (own : OwnVrf) (target : Target) → IsTarget target → Among target.0 (unicast_value place own.vrf).comms
    → Among target own.vrf.targets
unicast_target place own target is a =
    elim (among_either target.0 (target_comms own.vrf) (import_comm (own_import place own.vrf) ∷ source_as_comm place.scenario.system ∷ []) a) [
      | inl b ↦ among_comms own.vrf target b
      | inr b ↦ elim b [
        | inl e ↦ absurd (not_kind target (import_comm (own_import place own.vrf)) is e (λ k. let bad : 11 ≡ 2 = ap second k in omega (arith, bad))
            (λ k. let bad : 11 ≡ 2 = ap second k in omega (arith, bad)))
        | inr c ↦ elim c [
          | inl e ↦ absurd (not_kind target (source_as_comm place.scenario.system) is e (λ k. let bad : 9 ≡ 2 = ap second k in omega (arith, bad))
              (λ k. let bad : 9 ≡ 2 = ap second k in omega (arith, bad)))
          | inr d ↦ absurd d
        ]
      ]
    ]
