-- The octets in transit, by direction as they are kept and by direction of the scenario.
use Rattle.std.specs.Prelude.{sum_by}
use Rattle.std.proofs.Common.{◌≡◌, ◌∙◌, refl, sym, ap, subst, arith, ℕ, ◌+◌, ◌⊎◌, inl, inr, Bool, true, false, cond, T, List, [], ◌∷◌, length, Option, Some, None}
use Rattle.std.proofs.lemmas.List.Sums.{sum_by-cons}
use Rattle.std.specs.FinMap.{entries, entries_sorted, find, get-entries}
use Rattle.std.specs.FinMap.Entries.{below_all, is_sorted}
use Rattle.std.specs.Ordering.{eq_by_cmp, is_eq, is_lt}
use Rattle.std.specs.declared.cmp.Ordering.{Ordering}
use Rattle.std.specs.declared.cmp.Ordering.TheVariants.{Less, Equal, Greater}
use Rattle.mv_base.specs.Lists.{Among}
use Rattle.label_defs.proofs.MemberLemmas.{back_of, front_of}
use Rattle.network_defs.specs.session_defs.Refined.{IsLine}
use Rattle.network_defs.specs.declared.session_defs.direction.Direction.{Direction}
use Rattle.net_sessions.specs.session_transit.TransitData.{TransitData, direction_cmp, octets_at, total_of}
use Rattle.net_sessions.proofs.session_transit.DirectionOrder.{same_equal, same_itself, ties_same}
use Rattle.net_sessions.proofs.session_transit.Directions.{octets_in}
use Rattle.network_defs.specs.Counts.{directions, octets_in_transit}
use Rattle.network_nodes.proofs.wire_laws.AmongLemmas.{Once}
use Rattle.network_nodes.proofs.wire_laws.WayLemmas.{directions_once}
use Rattle.network_acts.specs.control_plane.Acted.{IsIn, Standing}
use Rattle.network_acts.specs.control_plane.PlaneView.{PlaneView}
use Rattle.network_acts.specs.control_plane.Queries.{without_copies}

-- ---- sums over directions

sum_alike : (f g : Direction → ℕ) (ds : List Direction) → ((d : Direction) → f d ≡ g d) → sum_by f ds ≡ sum_by g ds
sum_alike f g ds alike = ap (λ (h : Direction → ℕ). sum_by h ds) (λ i d. alike d i)

at_itself : (k : Direction) → eq_by_cmp direction_cmp k k ≡ true
at_itself k = ties_same k k ∙ same_itself k

tied_same : (d k : Direction) → eq_by_cmp direction_cmp d k ≡ true → d ≡ k
tied_same d k tie = same_equal d k (sym (ties_same d k) ∙ tie)

-- one number stands at a direction, and another function of directions elsewhere
module _ (k : Direction) (size : ℕ) (g : Direction → ℕ) where
  abbrev either : Direction → ℕ
  either d = cond (eq_by_cmp direction_cmp d k) size (g d)

  at_other : (d : Direction) → (k ≡ d → ⊥) → either d ≡ g d
  at_other d apart = by (eq_by_cmp direction_cmp d k) refl
    where
      by : (b : Bool) → eq_by_cmp direction_cmp d k ≡ b → cond b size (g d) ≡ g d
      by true tie = absurd (apart (sym (tied_same d k tie)))
      by false tie = refl

  -- where the direction is none of them
  sum_apart : (ds : List Direction) → (Among k ds → ⊥) → sum_by either ds ≡ sum_by g ds
  sum_apart [] none = refl
  sum_apart (d ∷ ds) none =
      let here = at_other d (λ e. none (inl e)) in
      let rest = sum_apart ds (λ a. none (inr a)) in
      sum_by-cons either d ds ∙ ((λ i. here i + rest i) ∙ sym (sum_by-cons g d ds))

  -- where it is one of them
  sum_among : (ds : List Direction) → g k ≡ 0 → Once ds → Among k ds → sum_by either ds ≡ size + sum_by g ds
  sum_among [] zero once a = absurd a
  sum_among (d ∷ ds) zero once (inl same) =
      let here : either d ≡ size =
      ap (λ (b : Bool). cond b size (g d)) (ap (λ (x : Direction). eq_by_cmp direction_cmp x k) (sym same) ∙ at_itself k) in
      let none : g d ≡ 0 = ap g (sym same) ∙ zero in
      let rest = sum_apart ds (λ a. once.0 (subst (λ (x : Direction). Among x ds) same a)) in
      sum_by-cons either d ds ∙ (let more = sum_by-cons g d ds in omega (arith, here, none, rest, more))
  sum_among (d ∷ ds) zero once (inr later) =
      let here = at_other d (λ e. once.0 (subst (λ (x : Direction). Among x ds) e later)) in
      let rest = sum_among ds zero once.1 later in
      sum_by-cons either d ds ∙ (let more = sum_by-cons g d ds in omega (arith, here, rest, more))

  sum_either : (ds : List Direction) → g k ≡ 0 → Once ds → Among k ds ⊎ (size ≡ 0) → sum_by either ds ≡ size + sum_by g ds
  sum_either ds zero once (inl a) = sum_among ds zero once a
  sum_either ds zero once (inr none) =
      sum_alike either g ds (λ d. by d (eq_by_cmp direction_cmp d k) refl) ∙ (let total = sum_by g ds in omega (arith, none))
    where
      by : (d : Direction) (b : Bool) → eq_by_cmp direction_cmp d k ≡ b → cond b size (g d) ≡ g d
      by d true tie = none ∙ (sym zero ∙ ap g (sym (tied_same d k tie)))
      by d false tie = refl

-- ---- entries of a map

abbrev Entries : Type 0
Entries = List (Direction × List ℕ)

-- what stands at the direction
abbrev size_at : Entries → Direction → ℕ
size_at es over = length (octets_in (find direction_cmp over es))

above : (k : Direction) (es : Entries) → T (below_all direction_cmp k es) → find direction_cmp k es ≡ None
above k [] below = refl
above k (e ∷ es) below =
    by (direction_cmp k e.0) (front_of (is_lt (direction_cmp k e.0)) (below_all direction_cmp k es) below)
    (above k es (back_of (is_lt (direction_cmp k e.0)) (below_all direction_cmp k es) below))
  where
    by : (o : Ordering) → T (is_lt o) → find direction_cmp k es ≡ None → cond (is_eq o) (Some e.1) (find direction_cmp k es) ≡ None
    by Less less rest = rest
    by Equal less rest = absurd less
    by Greater less rest = absurd less

nothing_there : (ds : List Direction) → sum_by (size_at []) ds ≡ 0
nothing_there [] = refl
nothing_there (d ∷ ds) =
    sum_by-cons (size_at []) d ds ∙ (let none : size_at [] d ≡ 0 = refl in let rest = nothing_there ds in omega (arith, none, rest))

-- The sizes of all entries are those of what stands at directions, where each that has octets is one of them, once.
entries_total : (es : Entries) (ds : List Direction) → T (is_sorted direction_cmp es) → Once ds
    → ((over : Direction) → Among over ds ⊎ (size_at es over ≡ 0))
    → sum_by (λ e. length e.1) es ≡ sum_by (size_at es) ds
entries_total [] ds sorted once has = sym (nothing_there ds)
entries_total (e ∷ es) ds sorted once has =
    sum_by-cons (λ (x : Direction × List ℕ). length x.1) e es
    ∙ (ap (λ (n : ℕ). length e.1 + n) (entries_total es ds (back_of (below_all direction_cmp e.0 es) (is_sorted direction_cmp es) sorted) once later)
    ∙ (sym (sum_either e.0 (length e.1) (size_at es) ds none once first)
    ∙ sym (sum_alike (size_at (e ∷ es)) (either e.0 (length e.1) (size_at es)) ds (λ d. split (eq_by_cmp direction_cmp d e.0) d))))
  where
    gone : find direction_cmp e.0 es ≡ None
    gone = above e.0 es (front_of (below_all direction_cmp e.0 es) (is_sorted direction_cmp es) sorted)

    none : size_at es e.0 ≡ 0
    none = ap (λ (o : Option (List ℕ)). length (octets_in o)) gone

    split : (b : Bool) (d : Direction) → length (octets_in (cond b (Some e.1) (find direction_cmp d es))) ≡ cond b (length e.1) (size_at es d)
    split true d = refl
    split false d = refl

    first : Among e.0 ds ⊎ (length e.1 ≡ 0)
    first = elim (has e.0) [
      | inl a ↦ inl a
      | inr zero ↦ inr (sym (ap (λ (b : Bool). length (octets_in (cond b (Some e.1) (find direction_cmp e.0 es)))) (at_itself e.0)) ∙ zero)
    ]

    later : (over : Direction) → Among over ds ⊎ (size_at es over ≡ 0)
    later over = by (eq_by_cmp direction_cmp over e.0) refl (has over)
      where
        by : (b : Bool) → eq_by_cmp direction_cmp over e.0 ≡ b
            → Among over ds ⊎ (length (octets_in (cond b (Some e.1) (find direction_cmp over es))) ≡ 0) → Among over ds ⊎ (size_at es over ≡ 0)
        by true tie has = inr (ap (size_at es) (tied_same over e.0 tie) ∙ none)
        by false tie has = has

octets_total : (transit : TransitData) (ds : List Direction) → Once ds → ((over : Direction) → Among over ds ⊎ (octets_at transit over ≡ []))
    → total_of transit ≡ sum_by (λ over. length (octets_at transit over)) ds
octets_total transit ds once has =
    entries_total (entries transit.octets) ds (entries_sorted transit.octets) once
    (λ over. elim (has over) [ inl a ↦ inl a | inr e ↦ inr (sym (same over) ∙ ap (λ (l : List ℕ). length l) e) ])
    ∙ sym (sum_alike (λ over. length (octets_at transit over)) (size_at (entries transit.octets)) ds same)
  where
    same : (over : Direction) → length (octets_at transit over) ≡ size_at (entries transit.octets) over
    same over = ap (λ (o : Option (List ℕ)). length (octets_in o)) (get-entries transit.octets over)

-- ---- the plane

-- The octets that the plane holds are those in transit in the network: octets are on joined directions alone, and these are of the scenario.
pub in_transit : (at : Standing) (plane : PlaneView) → IsIn at plane → total_of plane.transit ≡ octets_in_transit (without_copies at.network)
in_transit at plane is =
    octets_total plane.transit (directions at.network.state.scenario) (directions_once at.network.state.scenario is.around.steady.sound.lines.rules)
    (λ over. by over (at.network.joined over) refl)
    ∙ sum_alike (λ over. length (octets_at plane.transit over)) (λ over. length (at.network.transit over)) (directions at.network.state.scenario)
    (λ over. ap (λ (l : List ℕ). length l) (sym (is.transit over)))
  where
    by : (over : Direction) (b : Bool) → at.network.joined over ≡ b
        → Among over (directions at.network.state.scenario) ⊎ (octets_at plane.transit over ≡ [])
    by over true e = inl (is.around.steady.whose over e)
    by over false e = inr (sym (is.transit over)
        ∙ (subst (λ (b : Bool). IsLine over.kind b (at.network.stream over) (at.network.transit over) (is.around.steady.pending over)) e
        (is.around.steady.lines over)).0)
