-- Members of sets, maps and scenarios, as tests find them.
use Rattle.std.proofs.Common.{◌≡◌, ℕ, zero, suc, ◌+◌, Bool, true, false, cond, inl, inr, List, [], ◌∷◌, slice_get, Option, Some, None, refl, sym, ap, subst, ◌∙◌, arith}
use Rattle.std.specs.Ordering.{is_eq, eq_by_cmp}
use Rattle.std.specs.declared.cmp.Ordering.{Ordering}
use Rattle.std.specs.Cmp.{IsTotalOrder, tied_itself, Equal-is}
use Rattle.std.specs.FinMap as maps
use Rattle.std.specs.FinMap.{IsAntisymmetric, get-empty}
use Rattle.std.specs.FinSet as sets
use Rattle.std.specs.FinSet.{FinSet}
use Rattle.std.proofs.lemmas.Bool.{and_parts, eq-eqb, eqb-true}
use Rattle.mv_base.specs.Address.{same_addr, same_addr_equal}
use Rattle.mv_base.specs.declared.addr.Addr.{Addr}
use Rattle.mv_base.specs.declared.ids.IfaceId.{IfaceId}
use Rattle.mv_base.specs.declared.ids.NodeId.{NodeId}
use Rattle.mv_base.specs.declared.ids.VrfId.{VrfId}
use Rattle.bgp_messages.specs.declared.bgp_attributes.key.Key.{Key}
use Rattle.scenario_defs.specs.Vpn.{is_of_vrf, ifaces_where}
use Rattle.scenario_defs.specs.declared.scenario.Iface.{Iface}
use Rattle.scenario_defs.specs.declared.scenario.Scenario.{Scenario}
use Rattle.label_defs.specs.Members.{in_order}
use Rattle.label_defs.proofs.MemberLemmas.{contains_in_order}
use Rattle.label_defs.proofs.KeyLemmas.{node_cmp_total, node_cmp_exact}
use Rattle.selective_defs.specs.Selective.{Among}
use Rattle.edge_defs.specs.Edge.{TakenRoute, Taken, Control}
use Rattle.edge_defs.specs.Flows.{same_flow}
use Rattle.edge_defs.specs.Imported.{FlowRoute, taken_from}
use Rattle.edge_defs.specs.Keys.{key_cmp}
use Rattle.edge_defs.specs.Originated.{is_iface_of}
use Rattle.edge_defs.proofs.KeyLemmas.{key_total, key_exact}
use Rattle.edge_words.proofs.calm_laws.Lists.{any_from, any_among}
use Rattle.edge_words.proofs.calm_laws.Maps.{entry_get, get_entry}
use Rattle.edge_words.proofs.calm_laws.Tables.{taken_is}
use Rattle.edge_words.specs.Asked.{IsIfaceOf}

pub either : (a b : Bool) → (a ≡ true → b ≡ true) → (b ≡ true → a ≡ true) → a ≡ b
either true true there back = refl
either true false there back = sym (there refl)
either false true there back = back refl
either false false there back = refl

-- ---- sets

module _ {K : Type 0} {R : K → K → Ordering} (total : IsTotalOrder R) (exact : IsAntisymmetric R) where
  pub listed : (s : FinSet R) (k : K) → sets.contains s k ≡ true → Among k (in_order s)
  listed s k h =
      let found = any_among (eq_by_cmp R k) (in_order s) (sym (contains_in_order total s k) ∙ h) in
      subst (λ (x : K). Among x (in_order s)) (sym (exact k found.0 ((Equal-is (R k found.0)).0 found.2))) found.1

  pub contained : (s : FinSet R) (k : K) → Among k (in_order s) → sets.contains s k ≡ true
  contained s k a = contains_in_order total s k ∙ any_from (eq_by_cmp R k) k (in_order s) a (ap is_eq (tied_itself total k))

  -- a set that was made of a list
  pub from_list : (xs : List K) (k : K) → sets.contains (sets.from_list {R = R} xs) k ≡ true → Among k xs
  from_list xs k h =
      let found = any_among (eq_by_cmp R k) xs (sym (sets.contains-from_list total xs k) ∙ h) in
      subst (λ (x : K). Among x xs) (sym (exact k found.0 ((Equal-is (R k found.0)).0 found.2))) found.1

  pub to_list : (xs : List K) (k : K) → Among k xs → sets.contains (sets.from_list {R = R} xs) k ≡ true
  to_list xs k a = sets.contains-from_list total xs k ∙ any_from (eq_by_cmp R k) k xs a (ap is_eq (tied_itself total k))

-- ---- tables of peers

-- what a table of the peers has was taken from its peer
pub taken_of : (control : Control) (peer : NodeId) (table : Taken) (key : Key) (route : TakenRoute) → Among (peer, table) (maps.entries control.peers)
    → Among (key, route) (maps.entries table) → maps.get (taken_from control peer) key ≡ Some route
taken_of control peer table key route a b =
    ap (λ (t : Taken). maps.get t key) (taken_is control peer table (entry_get node_cmp_total control.peers peer table a))
    ∙ entry_get key_total table key route b

nothing_there : {A : Type 0} (key : Key) (route : TakenRoute) → maps.get {R = key_cmp} maps.empty key ≡ Some route → A
nothing_there key route h = absurd (let bad : None ≡ Some route = sym (get-empty key_cmp key) ∙ h in cc)

abbrev or_nothing : Option Taken → Taken
or_nothing o = elim o [ None ↦ maps.empty | Some taken ↦ taken ]

pub record TableOf (control : Control) (peer : NodeId) (key : Key) (route : TakenRoute) : Type 0 where
  pub table : Taken
  pub of_peer : Among (peer, table) (maps.entries control.peers)
  pub among : Among (key, route) (maps.entries table)

pub table_of : (control : Control) (peer : NodeId) (key : Key) (route : TakenRoute) → maps.get (taken_from control peer) key ≡ Some route
    → TableOf control peer key route
table_of control peer key route h = by (maps.get control.peers peer) refl
  where
    by : (o : Option Taken) → maps.get control.peers peer ≡ o → TableOf control peer key route
    by None e =
        nothing_there key route (ap (λ (o : Option Taken). maps.get (or_nothing o) key) (sym e) ∙ h)
    by (Some table) e = record {
      table = table;
      of_peer = get_entry node_cmp_exact control.peers peer table e;
      among = get_entry key_exact table key route (ap (λ (t : Taken). maps.get t key) (sym (taken_is control peer table e)) ∙ h);
    }

-- ---- interfaces

iface_by : (vrf : VrfId) (o : Option Iface) → elim o [ None ↦ false | Some found ↦ is_of_vrf vrf found ] ≡ true
    → (found : Iface) × (o ≡ Some found) × (found.vrf.0 ≡ vrf.0)
iface_by vrf None h = absurd cc
iface_by vrf (Some found) h = (found, refl, eqb-true found.vrf.0 vrf.0 h)

pub iface_of : (scenario : Scenario) (vrf : VrfId) (iface : IfaceId) → is_iface_of scenario vrf iface ≡ true → IsIfaceOf scenario vrf iface
iface_of scenario vrf iface h = let found = iface_by vrf (slice_get scenario.ifaces iface.0) h in
    record { found = found.0; at = found.1; of_vrf = found.2 }

pub of_iface : (scenario : Scenario) (vrf : VrfId) (iface : IfaceId) → IsIfaceOf scenario vrf iface → is_iface_of scenario vrf iface ≡ true
of_iface scenario vrf iface is =
    ap (λ (o : Option Iface). elim o [ None ↦ false | Some found ↦ is_of_vrf vrf found ]) is.at ∙ eq-eqb is.found.vrf.0 vrf.0 is.of_vrf

-- the interfaces that pass a test, with their places
record Placed (test : IfaceId → Iface → Bool) (number : ℕ) (ifaces : List Iface) (id : IfaceId) : Type 0 where
  place : ℕ
  found : Iface
  at : slice_get ifaces place ≡ Some found
  is : id.0 ≡ number + place
  passed : test id found ≡ true

same_id : (a b : IfaceId) → a.0 ≡ b.0 → a ≡ b
same_id a b h = λ i. record { 0 = h i }

placed : (test : IfaceId → Iface → Bool) (number : ℕ) (ifaces : List Iface) (id : IfaceId) → Among id (ifaces_where test number ifaces)
    → Placed test number ifaces id
placed test number [] id a = absurd a
placed test number (iface ∷ more) id a = by (test (record { 0 = number }) iface) refl a (placed test (number + 1) more id)
  where
    further : Placed test (number + 1) more id → Placed test number (iface ∷ more) id
    further p = let same = p.is in record { place = suc p.place; found = p.found; at = p.at; is = omega (arith, same); passed = p.passed }

    by : (b : Bool) → test (record { 0 = number }) iface ≡ b
        → Among id (cond b (record { 0 = number } ∷ ifaces_where test (number + 1) more) (ifaces_where test (number + 1) more))
        → (Among id (ifaces_where test (number + 1) more) → Placed test (number + 1) more id) → Placed test number (iface ∷ more) id
    by true h (inl e) rest = record {
      place = 0;
      found = iface;
      at = refl;
      is = (let same : id.0 ≡ number = ap (λ (x : IfaceId). x.0) e in omega (arith, same));
      passed = ap (λ (x : IfaceId). test x iface) e ∙ h;
    }
    by true h (inr b) rest = further (rest b)
    by false h b rest = further (rest b)

same_some : {A : Type 0} (a b : A) → Some a ≡ Some b → a ≡ b
same_some a b h = cc

place_listed : (test : IfaceId → Iface → Bool) (number place : ℕ) (ifaces : List Iface) (found : Iface) (id : IfaceId)
    → slice_get ifaces place ≡ Some found → id.0 ≡ number + place
    → test id found ≡ true → Among id (ifaces_where test number ifaces)
place_listed test number place [] found id h e t = absurd cc
place_listed test number zero (iface ∷ more) found id h e t =
    let here : id ≡ record { 0 = number } = same_id id (record { 0 = number }) (omega (arith, e)) in
    let passed : test (record { 0 = number }) iface ≡ true = (λ i. test (sym here i) (same_some iface found h i)) ∙ t in
    subst (λ (b : Bool). Among id (cond b (record { 0 = number } ∷ ifaces_where test (number + 1) more) (ifaces_where test (number + 1) more)))
    (sym passed) (inl here)
place_listed test number (suc place) (iface ∷ more) found id h e t =
    let rest = place_listed test (number + 1) place more found id h (omega (arith, e)) t in
    elim (test (record { 0 = number }) iface) as
    (λ (b : Bool). Among id (cond b (record { 0 = number } ∷ ifaces_where test (number + 1) more) (ifaces_where test (number + 1) more))) [
      | true ↦ inr rest
      | false ↦ rest
    ]

abbrev vrf_test : VrfId → IfaceId → Iface → Bool
vrf_test vrf number iface = is_of_vrf vrf iface

pub ifaces_from : (scenario : Scenario) (vrf : VrfId) (iface : IfaceId) → Among iface (ifaces_where (vrf_test vrf) 0 scenario.ifaces)
    → IsIfaceOf scenario vrf iface
ifaces_from scenario vrf iface a =
    let p = placed (vrf_test vrf) 0 scenario.ifaces iface a in
    let placed_at = p.is in
    let is : iface.0 ≡ p.place = omega (arith, placed_at) in
    record { found = p.found; at = ap (slice_get scenario.ifaces) is ∙ p.at; of_vrf = eqb-true p.found.vrf.0 vrf.0 p.passed }

pub ifaces_to : (scenario : Scenario) (vrf : VrfId) (iface : IfaceId) → IsIfaceOf scenario vrf iface
    → Among iface (ifaces_where (vrf_test vrf) 0 scenario.ifaces)
ifaces_to scenario vrf iface is =
    place_listed (vrf_test vrf) 0 iface.0 scenario.ifaces is.found iface is.at (omega arith) (eq-eqb is.found.vrf.0 vrf.0 is.of_vrf)

-- ---- flows

pub one_flow : (source group : Addr) (flow : FlowRoute) → same_flow source group flow ≡ true → flow ≡ record { source = source; group = group }
one_flow source group flow h =
    let parts = and_parts (same_addr flow.source source) (same_addr flow.group group) h in
    let sources = same_addr_equal flow.source source parts.0 in
    let groups = same_addr_equal flow.group group parts.1 in
    λ i. record { source = sources i; group = groups i }
