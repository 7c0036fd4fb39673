-- The VRFs of an edge, and which of those of two edges are of one VPN.
use Rattle.std.proofs.Common.{◌≡◌, ℕ, ◌+◌, ◌==◌, true, false, cond, inl, inr, List, [], ◌∷◌, Some, refl, sym, ap, subst, ◌∙◌, arith, zero, suc}
use Rattle.std.specs.Prelude.{slice_get}
use Rattle.std.proofs.lemmas.Bool.{cases_lt, eqb-true}
use Rattle.mv_base.specs.declared.ids.NodeId.{NodeId}
use Rattle.mv_base.specs.route_targets.Targets.{shares, same}
use Rattle.scenario_defs.specs.declared.scenario.Vrf.{Vrf}
use Rattle.scenario_defs.specs.declared.scenario.Scenario.{Scenario}
use Rattle.scenario_defs.specs.Rules.{Rules, IsVrf, AreApart}
use Rattle.scenario_defs.proofs.RuleLemmas.{vrf_rules_at, apart_at}
use Rattle.selective_defs.specs.Selective.{Among}
use Rattle.edge_defs.specs.Place.{EdgePlace, OwnVrf, vrfs_from, own_vrfs}
use Rattle.edge_words.proofs.calm_laws.Lists.{not_both}
use Rattle.edge_words.proofs.calm_laws.Targets.{same_itself, same_back, same_through, shares_back}

-- a VRF that is numbered from that number on is one of the list, and of the edge
record IsFrom (me : NodeId) (number : ℕ) (vrfs : List Vrf) (own : OwnVrf) : Type 0 where
  place : ℕ
  at : slice_get vrfs place ≡ Some own.vrf
  id : own.id.0 ≡ number + place
  edge : own.vrf.edge.0 ≡ me.0

one_later : (me : NodeId) (number : ℕ) (vrf : Vrf) (vrfs : List Vrf) (own : OwnVrf) → IsFrom me (number + 1) vrfs own
    → IsFrom me number (vrf ∷ vrfs) own
one_later me number vrf vrfs own h = record { place = suc h.place; at = h.at; id = (let e = h.id in omega (arith, e)); edge = h.edge }

is_from : (me : NodeId) (number : ℕ) (vrfs : List Vrf) (own : OwnVrf) → Among own (vrfs_from me number vrfs) → IsFrom me number vrfs own
is_from me number [] own a = absurd a
is_from me number (vrf ∷ vrfs) own a =
    elim (vrf.edge.0 == me.0) as (λ b. (vrf.edge.0 == me.0) ≡ b
    → Among own (cond b (record { id = record { 0 = number }; vrf = vrf } ∷ vrfs_from me (number + 1) vrfs) (vrfs_from me (number + 1) vrfs))
    → IsFrom me number (vrf ∷ vrfs) own) [
      | true ↦ λ e b. elim b [
        | inl same ↦ record {
          place = zero;
          at = ap (λ (o : OwnVrf). Some o.vrf) (sym same);
          id = ap (λ (o : OwnVrf). o.id.0) same ∙ omega arith;
          edge = ap (λ (o : OwnVrf). o.vrf.edge.0) same ∙ eqb-true vrf.edge.0 me.0 e;
        }
        | inr c ↦ one_later me number vrf vrfs own (is_from me (number + 1) vrfs own c)
      ]
      | false ↦ λ e b. one_later me number vrf vrfs own (is_from me (number + 1) vrfs own b)
    ] refl a

-- ---- a VRF of an edge

pub own_at : (place : EdgePlace) (own : OwnVrf) → Among own (own_vrfs place) → slice_get place.scenario.vrfs own.id.0 ≡ Some own.vrf
own_at place own a =
    let from = is_from place.me 0 place.scenario.vrfs own a in
    ap (slice_get place.scenario.vrfs) (from.id ∙ omega arith) ∙ from.at

pub own_edge : (place : EdgePlace) (own : OwnVrf) → Among own (own_vrfs place) → own.vrf.edge.0 ≡ place.me.0
own_edge place own a = (is_from place.me 0 place.scenario.vrfs own a).edge

pub own_rules : (place : EdgePlace) (own : OwnVrf) → Rules place.scenario → Among own (own_vrfs place) → IsVrf place.scenario own.vrf
own_rules place own rules a = vrf_rules_at place.scenario rules own.id.0 own.vrf (own_at place own a)

one_id : (own other : OwnVrf) → own.id.0 ≡ other.id.0 → own.vrf ≡ other.vrf → own ≡ other
one_id own other h k = λ i. record { id = record { 0 = h i }; vrf = k i }

-- VRFs of one number are one
pub one_number : (place : EdgePlace) (own other : OwnVrf) → Among own (own_vrfs place) → Among other (own_vrfs place) → own.id.0 ≡ other.id.0
    → own ≡ other
one_number place own other a b e =
    let both : Some own.vrf ≡ Some other.vrf = sym (own_at place own a) ∙ ap (slice_get place.scenario.vrfs) e ∙ own_at place other b in
    one_id own other e cc

-- VRFs of one edge that are not apart are one
one_of : (place : EdgePlace) (own other : OwnVrf) → Rules place.scenario → Among own (own_vrfs place) → Among other (own_vrfs place)
    → (AreApart own.vrf other.vrf → own.vrf.edge.0 ≡ other.vrf.edge.0 → ⊥) → (AreApart other.vrf own.vrf → other.vrf.edge.0 ≡ own.vrf.edge.0 → ⊥)
    → own ≡ other
one_of place own other rules a b h k =
    let edges : own.vrf.edge.0 ≡ other.vrf.edge.0 = own_edge place own a ∙ sym (own_edge place other b) in
    elim (cases_lt own.id.0 other.id.0) [
      | inl less ↦ absurd (h (apart_at place.scenario rules own.id.0 other.id.0 own.vrf other.vrf less (own_at place own a) (own_at place other b))
          edges)
      | inr rest ↦ elim (cases_lt other.id.0 own.id.0) [
        | inl less ↦ absurd (k (apart_at place.scenario rules other.id.0 own.id.0 other.vrf own.vrf less (own_at place other b) (own_at place own a))
            (sym edges))
        | inr more ↦ one_number place own other a b (omega (arith, rest, more))
      ]
    ]

pub one_rd : (place : EdgePlace) (own other : OwnVrf) → Rules place.scenario → Among own (own_vrfs place) → Among other (own_vrfs place)
    → own.vrf.rd ≡ other.vrf.rd → own ≡ other
one_rd place own other rules a b e = one_of place own other rules a b (λ apart edges. apart.rds edges e) (λ apart edges. apart.rds edges (sym e))

pub one_vpn : (place : EdgePlace) (own other : OwnVrf) → Rules place.scenario → Among own (own_vrfs place) → Among other (own_vrfs place)
    → same own.vrf.targets other.vrf.targets ≡ true → own ≡ other
one_vpn place own other rules a b e = one_of place own other rules a b
    (λ apart edges. not_both (same own.vrf.targets other.vrf.targets) e (apart.vpn edges))
    (λ apart edges. not_both (same other.vrf.targets own.vrf.targets) (same_back own.vrf.targets other.vrf.targets e) (apart.vpn edges))

-- ---- VRFs of two edges

pub not_apart : (a b : Vrf) → AreApart a b → shares a.targets b.targets ≡ true → same a.targets b.targets ≡ true
not_apart a b apart h = elim apart.overlap [
  | inl e ↦ e
  | inr e ↦ absurd (not_both (shares a.targets b.targets) h e)
]

-- VRFs that share a target are of one VPN
pub shared_vpn : (place at : EdgePlace) (own other : OwnVrf) → Rules place.scenario → at.scenario ≡ place.scenario → Among own (own_vrfs place)
    → Among other (own_vrfs at)
    → shares own.vrf.targets other.vrf.targets ≡ true → same own.vrf.targets other.vrf.targets ≡ true
shared_vpn place at own other rules e a b h =
    let here = own_at place own a in
    let there : slice_get place.scenario.vrfs other.id.0 ≡ Some other.vrf =
    ap (λ (s : Scenario). slice_get s.vrfs other.id.0) (sym e) ∙ own_at at other b in
    elim (cases_lt own.id.0 other.id.0) [
      | inl less ↦ not_apart own.vrf other.vrf (apart_at place.scenario rules own.id.0 other.id.0 own.vrf other.vrf less here there) h
      | inr rest ↦ elim (cases_lt other.id.0 own.id.0) [
        | inl less ↦ same_back other.vrf.targets own.vrf.targets
            (not_apart other.vrf own.vrf (apart_at place.scenario rules other.id.0 own.id.0 other.vrf own.vrf less there here)
            (shares_back own.vrf.targets other.vrf.targets h))
        | inr more ↦
            let both : Some own.vrf ≡ Some other.vrf = sym here ∙ ap (slice_get place.scenario.vrfs) (omega (arith, rest, more)) ∙ there in
            let one : own.vrf ≡ other.vrf = cc in
            subst (λ (v : Vrf). same own.vrf.targets v.targets ≡ true) one (same_itself own.vrf.targets)
      ]
    ]

-- of the VRFs of an edge one alone is of a VPN
pub one_in_vpn : (place : EdgePlace) (own other : OwnVrf) (vrf : Vrf) → Rules place.scenario → Among own (own_vrfs place)
    → Among other (own_vrfs place) → same own.vrf.targets vrf.targets ≡ true → same other.vrf.targets vrf.targets ≡ true → own ≡ other
one_in_vpn place own other vrf rules a b h k =
    one_vpn place own other rules a b (same_through own.vrf.targets vrf.targets other.vrf.targets h (same_back other.vrf.targets vrf.targets k))
