-- The orders of flows, notes, Source Active routes and joins of other edges are total, and what ties in them is equal.
use Rattle.std.proofs.Common.{◌≡◌, ℕ, ◌==◌, ◌&&◌, Bool, true, nat_eq, arith, List, [], ◌∷◌, Option, None, Some, refl, ap, subst}
use Rattle.std.specs.declared.cmp.Ordering.{Ordering}
use Rattle.std.proofs.lemmas.Bool.{and_parts, and_from}
use Rattle.std.specs.Ordering.{is_eq, eq_by_cmp}
use Rattle.std.specs.Cmp.{IsTotalOrder, tied_itself, both_ways, Equal-is}
use Rattle.std.specs.Cmp.Lexicographic.{nat_list_cmp_total, pointwise, bytes_decides}
use Rattle.std.proofs.lemmas.Bool.Decides.{nat_tests}
use Rattle.std.specs.FinMap.{IsAntisymmetric, nat_cmp-IsAntisymmetric, slice_cmp-IsAntisymmetric}
use Rattle.std.proofs.lemmas.Cmp.{on_total, lists_total}
use Rattle.mv_base.specs.Address.{same_addr, same_addr_equal, same_addr_equiv}
use Rattle.selective_defs.specs.Parts.{addr_key}
use Rattle.selective_defs.proofs.PartLemmas.{one_addr}
use Rattle.vrf_words.specs.declared.tree_defs.flow.Flow.{Flow}
use Rattle.vrf_words.specs.declared.tree_defs.flow.Note.{Note}
use Rattle.vrf_words.specs.declared.tree_defs.flow.ActiveRoute.{ActiveRoute}
use Rattle.vrf_words.specs.declared.tree_defs.flow.TakenJoin.{TakenJoin}
use Rattle.vrf_words.specs.contracts.tree_defs.flow.NotePartialEq.TheImpl as notes_equal
use Rattle.vrf_words.specs.contracts.tree_defs.flow.ActiveRoutePartialEq.TheImpl as actives_equal
use Rattle.vrf_words.specs.contracts.tree_defs.flow.TakenJoinPartialEq.TheImpl as joins_equal
use Rattle.vrf_words.specs.declared.tree_defs.flow.Upstream.{Upstream}
use Rattle.vrf_words.specs.tree_defs.Flows.{same_upstream}
use Rattle.vrf_words.specs.tree_defs.Trees.{join_cmp}
use Rattle.vrf_words.specs.tree_defs.Keys.{same_flow, parts_cmp, flow_parts, flow_cmp, note_parts, note_cmp, active_parts, active_cmp}

parts_total : IsTotalOrder parts_cmp
parts_total = lists_total nat_list_cmp_total

parts_exact : IsAntisymmetric parts_cmp
parts_exact = slice_cmp-IsAntisymmetric (slice_cmp-IsAntisymmetric nat_cmp-IsAntisymmetric)

numbers_equal : (x y : ℕ) → (x == y) ≡ true → x ≡ y
numbers_equal x y h = grind (arith, nat_tests)

pub flow_total : IsTotalOrder flow_cmp
flow_total = on_total flow_parts parts_total

pub note_total : IsTotalOrder note_cmp
note_total = on_total note_parts parts_total

pub active_total : IsTotalOrder active_cmp
active_total = on_total active_parts parts_total

abbrev join_parts : TakenJoin → List (List ℕ)
join_parts join = (join.peer.0 ∷ []) ∷ flow_parts join.flow

pub join_total : IsTotalOrder join_cmp
join_total = on_total join_parts parts_total

one_flow : (a b : Flow) → addr_key a.source ≡ addr_key b.source → addr_key a.group ≡ addr_key b.group → a ≡ b
one_flow a b from to =
    let source = one_addr a.source b.source from in
    let group = one_addr a.group b.group to in
    λ i. record { source = source i; group = group i }

pub flow_exact : IsAntisymmetric flow_cmp
flow_exact a b e = by (parts_exact (flow_parts a) (flow_parts b) e)
  where
    by : flow_parts a ≡ flow_parts b → a ≡ b
    by e =
        let from : addr_key a.source ≡ addr_key b.source = cc in
        let to : addr_key a.group ≡ addr_key b.group = cc in
        one_flow a b from to

pub note_exact : IsAntisymmetric note_cmp
note_exact a b e = by (parts_exact (note_parts a) (note_parts b) e)
  where
    by : note_parts a ≡ note_parts b → a ≡ b
    by e =
        let iface : a.iface.0 ≡ b.iface.0 = cc in
        let from : addr_key a.flow.source ≡ addr_key b.flow.source = cc in
        let to : addr_key a.flow.group ≡ addr_key b.flow.group = cc in
        let flow = one_flow a.flow b.flow from to in
        λ i. record { iface = record { 0 = iface i }; flow = flow i }

pub active_exact : IsAntisymmetric active_cmp
active_exact a b e = by (parts_exact (active_parts a) (active_parts b) e)
  where
    by : active_parts a ≡ active_parts b → a ≡ b
    by e =
        let peer : a.peer.0 ≡ b.peer.0 = cc in
        let rd : a.rd ≡ b.rd = cc in
        let from : addr_key a.flow.source ≡ addr_key b.flow.source = cc in
        let to : addr_key a.flow.group ≡ addr_key b.flow.group = cc in
        let flow = one_flow a.flow b.flow from to in
        λ i. record { peer = record { 0 = peer i }; rd = rd i; flow = flow i }

pub join_exact : IsAntisymmetric join_cmp
join_exact a b e = by (parts_exact (join_parts a) (join_parts b) e)
  where
    by : join_parts a ≡ join_parts b → a ≡ b
    by e =
        let peer : a.peer.0 ≡ b.peer.0 = cc in
        let from : addr_key a.flow.source ≡ addr_key b.flow.source = cc in
        let to : addr_key a.flow.group ≡ addr_key b.flow.group = cc in
        let flow = one_flow a.flow b.flow from to in
        λ i. record { peer = record { 0 = peer i }; flow = flow i }

-- ---- what `==` tells is what ties

pub same_flow_equal : (a b : Flow) → same_flow a b ≡ true → a ≡ b
same_flow_equal a b h =
    let both = and_parts (same_addr a.source b.source) (same_addr a.group b.group) h in
    let source = same_addr_equal a.source b.source both.0 in
    let group = same_addr_equal a.group b.group both.1 in
    λ i. record { source = source i; group = group i }

pub same_flow_itself : (a : Flow) → same_flow a a ≡ true
same_flow_itself a = and_from _ _ (same_addr_equiv.refl a.source) (same_addr_equiv.refl a.group)

pub same_flow_symmetric : (a b : Flow) → same_flow a b ≡ same_flow b a
same_flow_symmetric a b = λ i. same_addr_equiv.symm a.source b.source i && same_addr_equiv.symm a.group b.group i

-- A test that is true of equal keys alone, and of each key with itself, is what ties.
pub tied : {K : Type 0} (cmp : K → K → Ordering) (same : K → K → Bool) → IsTotalOrder cmp → IsAntisymmetric cmp →
    ((a b : K) → same a b ≡ true → a ≡ b) → ((a : K) → same a a ≡ true) → (a b : K) → same a b ≡ eq_by_cmp cmp a b
tied {K} cmp same total exact equal itself a b = both_ways (same a b) (eq_by_cmp cmp a b)
    (λ h. subst (λ (x : K). eq_by_cmp cmp a x ≡ true) (equal a b h) (ap is_eq (tied_itself total a)))
    (λ h. subst (λ (x : K). same a x ≡ true) (exact a b ((Equal-is (cmp a b)).0 h)) (itself a))

pub flow_ties : (a b : Flow) → same_flow a b ≡ eq_by_cmp flow_cmp a b
flow_ties = tied flow_cmp same_flow flow_total flow_exact same_flow_equal same_flow_itself

-- whether both are one note, one route, and one join, as `==` tells it
abbrev pub same_note : Note → Note → Bool
same_note = notes_equal.ghosts.eq

abbrev pub same_active : ActiveRoute → ActiveRoute → Bool
same_active = actives_equal.ghosts.eq

abbrev pub same_join : TakenJoin → TakenJoin → Bool
same_join = joins_equal.ghosts.eq

note_equal : (a b : Note) → same_note a b ≡ true → a ≡ b
note_equal a b h =
    let both = and_parts (a.iface.0 == b.iface.0) (same_flow a.flow b.flow) h in
    let iface = numbers_equal a.iface.0 b.iface.0 both.0 in
    let flow = same_flow_equal a.flow b.flow both.1 in
    λ i. record { iface = record { 0 = iface i }; flow = flow i }

note_itself : (a : Note) → same_note a a ≡ true
note_itself a =
    let iface : (a.iface.0 == a.iface.0) ≡ true = grind (arith, nat_tests) in
    and_from _ _ iface (same_flow_itself a.flow)

pub note_ties : (a b : Note) → same_note a b ≡ eq_by_cmp note_cmp a b
note_ties = tied note_cmp same_note note_total note_exact note_equal note_itself

active_equal : (a b : ActiveRoute) → same_active a b ≡ true → a ≡ b
active_equal a b h =
    let both = and_parts (a.peer.0 == b.peer.0) (pointwise nat_eq a.rd b.rd && same_flow a.flow b.flow) h in
    let peer = numbers_equal a.peer.0 b.peer.0 both.0 in
    let rest = and_parts (pointwise nat_eq a.rd b.rd) (same_flow a.flow b.flow) both.1 in
    let rd = (bytes_decides a.rd b.rd).0 rest.0 in
    let flow = same_flow_equal a.flow b.flow rest.1 in
    λ i. record { peer = record { 0 = peer i }; rd = rd i; flow = flow i }

active_itself : (a : ActiveRoute) → same_active a a ≡ true
active_itself a =
    let peer : (a.peer.0 == a.peer.0) ≡ true = grind (arith, nat_tests) in
    and_from _ _ peer (and_from _ _ ((bytes_decides a.rd a.rd).1 refl) (same_flow_itself a.flow))

pub active_ties : (a b : ActiveRoute) → same_active a b ≡ eq_by_cmp active_cmp a b
active_ties = tied active_cmp same_active active_total active_exact active_equal active_itself

join_equal : (a b : TakenJoin) → same_join a b ≡ true → a ≡ b
join_equal a b h =
    let both = and_parts (a.peer.0 == b.peer.0) (same_flow a.flow b.flow) h in
    let peer = numbers_equal a.peer.0 b.peer.0 both.0 in
    let flow = same_flow_equal a.flow b.flow both.1 in
    λ i. record { peer = record { 0 = peer i }; flow = flow i }

join_itself : (a : TakenJoin) → same_join a a ≡ true
join_itself a =
    let peer : (a.peer.0 == a.peer.0) ≡ true = grind (arith, nat_tests) in
    and_from _ _ peer (same_flow_itself a.flow)

pub join_ties : (a b : TakenJoin) → same_join a b ≡ eq_by_cmp join_cmp a b
join_ties = tied join_cmp same_join join_total join_exact join_equal join_itself

-- ---- upstreams

pub same_upstream_itself : (o : Option Upstream) → same_upstream o o ≡ true
same_upstream_itself None = refl
same_upstream_itself (Some own) =
    let edge : (own.edge.0 == own.edge.0) ≡ true = grind (arith, nat_tests) in
    let number : (own.import.1 == own.import.1) ≡ true = grind (arith, nat_tests) in
    let source_as : (own.source_as == own.source_as) ≡ true = grind (arith, nat_tests) in
    and_from _ _ edge (and_from _ _ ((bytes_decides own.rd.0 own.rd.0).1 refl)
    (and_from _ _ (and_from _ _ (same_addr_equiv.refl own.import.0) number) source_as))

pub same_upstream_equal : (own other : Upstream) → same_upstream (Some own) (Some other) ≡ true → own ≡ other
same_upstream_equal own other h =
    let one = and_parts (own.edge.0 == other.edge.0) _ h in
    let two = and_parts (pointwise nat_eq own.rd.0 other.rd.0) _ one.1 in
    let three = and_parts (same_addr own.import.0 other.import.0 && (own.import.1 == other.import.1)) (own.source_as == other.source_as) two.1 in
    let four = and_parts (same_addr own.import.0 other.import.0) (own.import.1 == other.import.1) three.0 in
    let edge = numbers_equal own.edge.0 other.edge.0 one.0 in
    let rd = (bytes_decides own.rd.0 other.rd.0).0 two.0 in
    let addr = same_addr_equal own.import.0 other.import.0 four.0 in
    let number = numbers_equal own.import.1 other.import.1 four.1 in
    let source_as = numbers_equal own.source_as other.source_as three.1 in
    λ i. record { edge = record { 0 = edge i }; rd = record { 0 = rd i }; import = (addr i, number i); source_as = source_as i }
