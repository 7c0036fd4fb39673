-- The order of learned routes tells each from every other one, and what a range of it has.
use Rattle.std.proofs.Common.{◌≡◌, ℕ, ◌==◌, ◌&&◌, Bool, true, false, cond, not, List, [], ◌∷◌, refl, sym, ap, subst, ◌∙◌, eq-eqb}
use Rattle.std.specs.List.{filter}
use Rattle.std.specs.List.Sorted.{IsStrictlySortedBy}
use Rattle.std.specs.BTreeMap.Range.{range_contains, entries_between}
use Rattle.std.specs.Map.{keys_of}
use Rattle.std.specs.FinMap.{IsAntisymmetric, nat_cmp-IsAntisymmetric, slice_cmp-IsAntisymmetric}
use Rattle.std.specs.Ordering.{nat_cmp, is_eq, is_gt, is_le, is_lt, ordering_then}
use Rattle.std.specs.declared.cmp.Ordering.{Ordering}
use Rattle.std.specs.declared.cmp.Ordering.TheVariants.{Equal}
use Rattle.std.specs.declared.ops.Bound.TheVariants.{Included}
use Rattle.std.specs.Cmp.{Equal-is, nat_cmp_total, tied_itself}
use Rattle.std.specs.Cmp.Lexicographic.{slice_cmp, nat_list_cmp_total}
use Rattle.std.proofs.lemmas.Bool.{and_parts, eqb-true}
use Rattle.mv_base.specs.Pattern.{rank}
use Rattle.mv_base.specs.declared.ids.NodeId.{NodeId}
use Rattle.mv_base.specs.declared.pattern.Pattern.{Pattern}
use Rattle.mv_base.proofs.SortedMaps.{level, same_bool, then_equal, through, tied_numbers}
use Rattle.selective_defs.specs.Parts.{word_part}
use Rattle.selective_defs.proofs.PartLemmas.{first, thereafter, one_word}
use Rattle.selective_defs.proofs.PatternLemmas.{both_true}
use Rattle.selective.specs.declared.route_key.Learned.{Learned}
use Rattle.selective.specs.declared.route_key.Place.{Place}
use Rattle.selective.specs.declared.route_key.Place.TheVariants.{First, Of, Last}
use Rattle.selective.specs.declared.route_key.RouteKey.{RouteKey}
use Rattle.selective.specs.Order.{place_part, route_cmp}
use Rattle.selective.specs.Patterns.{same_pattern}
use Rattle.selective.specs.Leaves.{is_of_peer, routes_at}
use Rattle.selective.proofs.RootLemmas.{one_pattern, pattern_itself}

-- ---- what ties is equal

abbrev place_back : List ℕ → Place
place_back part = cond (first part == 0) First (cond (first part == 1) (Of (record { 0 = thereafter part })) Last)

place_again : (place : Place) → place_back (place_part place) ≡ place
place_again First = refl
place_again (Of rd) = refl
place_again Last = refl

one_place : (a b : Place) → place_part a ≡ place_part b → a ≡ b
one_place a b e = sym (place_again a) ∙ (ap place_back e ∙ place_again b)

numbers_exact : IsAntisymmetric (slice_cmp nat_cmp)
numbers_exact = slice_cmp-IsAntisymmetric nat_cmp-IsAntisymmetric

abbrev pub by_place : RouteKey → RouteKey → Ordering
by_place a b = slice_cmp nat_cmp (place_part a.place) (place_part b.place)

abbrev pub by_group : RouteKey → RouteKey → Ordering
by_group a b = ordering_then (slice_cmp nat_cmp (word_part a.pattern.group) (word_part b.pattern.group)) (by_place a b)

abbrev pub by_source : RouteKey → RouteKey → Ordering
by_source a b = ordering_then (slice_cmp nat_cmp (word_part a.pattern.source) (word_part b.pattern.source)) (by_group a b)

abbrev pub by_rank : RouteKey → RouteKey → Ordering
by_rank a b = ordering_then (nat_cmp (rank b.pattern) (rank a.pattern)) (by_source a b)

pub route_exact : IsAntisymmetric route_cmp
route_exact a b e =
    let peers = then_equal (nat_cmp a.peer.0 b.peer.0) (by_rank a b) e in
    let ranks = then_equal (nat_cmp (rank b.pattern) (rank a.pattern)) (by_source a b) peers.1 in
    let sources = then_equal (slice_cmp nat_cmp (word_part a.pattern.source) (word_part b.pattern.source)) (by_group a b) ranks.1 in
    let groups = then_equal (slice_cmp nat_cmp (word_part a.pattern.group) (word_part b.pattern.group)) (by_place a b) sources.1 in
    let peer = nat_cmp-IsAntisymmetric a.peer.0 b.peer.0 peers.0 in
    let source = one_word a.pattern.source b.pattern.source (numbers_exact (word_part a.pattern.source) (word_part b.pattern.source) sources.0) in
    let group = one_word a.pattern.group b.pattern.group (numbers_exact (word_part a.pattern.group) (word_part b.pattern.group) groups.0) in
    let place = one_place a.place b.place (numbers_exact (place_part a.place) (place_part b.place) groups.1) in
    λ i. record { peer = record { 0 = peer i }; pattern = record { source = source i; group = group i }; place = place i }

abbrev pub Sorted : List (RouteKey × Learned) → Type 0
Sorted es = IsStrictlySortedBy route_cmp (keys_of es)

-- ---- the range of a peer and a pattern

ends : (place : Place) → (is_le (slice_cmp nat_cmp (place_part First) (place_part place))
    && not (is_lt (slice_cmp nat_cmp (place_part Last) (place_part place)))) ≡ true
ends First = refl
ends (Of rd) = refl
ends Last = refl

tied : (a b : List ℕ) → a ≡ b → is_eq (slice_cmp nat_cmp a b) ≡ true
tied a b e = ap is_eq (subst (λ (x : List ℕ). slice_cmp nat_cmp a x ≡ Equal) e (tied_itself nat_list_cmp_total a))

abbrev pub low_end : NodeId → Pattern → RouteKey
low_end peer pattern = record { peer = peer; pattern = pattern; place = First }

abbrev pub high_end : NodeId → Pattern → RouteKey
high_end peer pattern = record { peer = peer; pattern = pattern; place = Last }

-- the ends are in order
pub forward : (peer : NodeId) (pattern : Pattern) → is_gt (route_cmp (low_end peer pattern) (high_end peer pattern)) ≡ false
forward peer pattern =
    let low = low_end peer pattern in
    let high = high_end peer pattern in
    through (nat_cmp peer.0 peer.0) (by_rank low high) (tied_itself nat_cmp_total peer.0)
    (through (nat_cmp (rank pattern) (rank pattern)) (by_source low high) (tied_itself nat_cmp_total (rank pattern))
    (through (slice_cmp nat_cmp (word_part pattern.source) (word_part pattern.source)) (by_group low high)
    (tied_itself nat_list_cmp_total (word_part pattern.source))
    (through (slice_cmp nat_cmp (word_part pattern.group) (word_part pattern.group)) (by_place low high)
    (tied_itself nat_list_cmp_total (word_part pattern.group)) refl)))

module _ (peer : NodeId) (pattern : Pattern) (q : RouteKey) where
  abbrev lower : RouteKey
  lower = low_end peer pattern

  abbrev upper : RouteKey
  upper = high_end peer pattern

  abbrev peers : Ordering
  peers = nat_cmp peer.0 q.peer.0

  abbrev ranks : Ordering
  ranks = nat_cmp (rank q.pattern) (rank pattern)

  abbrev sources : Ordering
  sources = slice_cmp nat_cmp (word_part pattern.source) (word_part q.pattern.source)

  abbrev groups : Ordering
  groups = slice_cmp nat_cmp (word_part pattern.group) (word_part q.pattern.group)

  in_levels : range_contains route_cmp (Included lower) (Included upper) q
      ≡ (is_eq peers && (is_eq ranks && (is_eq sources && (is_eq groups && true))))
  in_levels =
      level peers (by_rank lower q) (by_rank upper q) _
      (level ranks (by_source lower q) (by_source upper q) _
      (level sources (by_group lower q) (by_group upper q) _
      (level groups (by_place lower q) (by_place upper q) true (ends q.place))))

  to : (is_eq peers && (is_eq ranks && (is_eq sources && (is_eq groups && true)))) ≡ true
      → ((q.peer.0 == peer.0) && same_pattern q.pattern pattern) ≡ true
  to h =
      let a = and_parts (is_eq peers) (is_eq ranks && (is_eq sources && (is_eq groups && true))) h in
      let b = and_parts (is_eq ranks) (is_eq sources && (is_eq groups && true)) a.1 in
      let c = and_parts (is_eq sources) (is_eq groups && true) b.1 in
      let d = and_parts (is_eq groups) true c.1 in
      let one = nat_cmp-IsAntisymmetric peer.0 q.peer.0 ((Equal-is peers).0 a.0) in
      let source =
      one_word pattern.source q.pattern.source (numbers_exact (word_part pattern.source) (word_part q.pattern.source) ((Equal-is sources).0 c.0))
      in
      let group =
      one_word pattern.group q.pattern.group (numbers_exact (word_part pattern.group) (word_part q.pattern.group) ((Equal-is groups).0 d.0)) in
      let same : pattern ≡ q.pattern = λ i. record { source = source i; group = group i } in
      both_true (q.peer.0 == peer.0) (same_pattern q.pattern pattern) (eq-eqb q.peer.0 peer.0 (sym one))
      (subst (λ (p : Pattern). same_pattern q.pattern p ≡ true) (sym same) (pattern_itself q.pattern))

  from : ((q.peer.0 == peer.0) && same_pattern q.pattern pattern) ≡ true
      → (is_eq peers && (is_eq ranks && (is_eq sources && (is_eq groups && true)))) ≡ true
  from h =
      let both = and_parts (q.peer.0 == peer.0) (same_pattern q.pattern pattern) h in
      let same = one_pattern q.pattern pattern both.1 in
      both_true (is_eq peers) (is_eq ranks && (is_eq sources && (is_eq groups && true)))
      (tied_numbers peer.0 q.peer.0 (sym (eqb-true q.peer.0 peer.0 both.0)))
      (both_true (is_eq ranks) (is_eq sources && (is_eq groups && true)) (tied_numbers (rank q.pattern) (rank pattern) (ap rank same))
      (both_true (is_eq sources) (is_eq groups && true)
      (tied (word_part pattern.source) (word_part q.pattern.source) (ap (λ (p : Pattern). word_part p.source) (sym same)))
      (both_true (is_eq groups) true (tied (word_part pattern.group) (word_part q.pattern.group) (ap (λ (p : Pattern). word_part p.group) (sym same)))
      refl)))

  pub in_range : range_contains route_cmp (Included lower) (Included upper) q ≡ ((q.peer.0 == peer.0) && same_pattern q.pattern pattern)
  in_range =
      in_levels ∙ same_bool (is_eq peers && (is_eq ranks && (is_eq sources && (is_eq groups && true))))
      ((q.peer.0 == peer.0) && same_pattern q.pattern pattern) to from

pub filter_alike : {X : Type 0} (p q : X → Bool) → ((x : X) → p x ≡ q x) → (xs : List X) → filter p xs ≡ filter q xs
filter_alike p q h [] = refl
filter_alike p q h (x ∷ xs) = λ i. cond (h x i) (x ∷ filter_alike p q h xs i) (filter_alike p q h xs i)

pub range_at : (peer : NodeId) (pattern : Pattern) (es : List (RouteKey × Learned))
    → entries_between route_cmp (Included (low_end peer pattern)) (Included (high_end peer pattern)) es ≡ routes_at peer pattern es
range_at peer pattern es =
    filter_alike (λ (e : RouteKey × Learned). range_contains route_cmp (Included (low_end peer pattern)) (Included (high_end peer pattern)) e.0)
    (λ (e : RouteKey × Learned). is_of_peer peer e && same_pattern e.0.pattern pattern) (λ e. in_range peer pattern e.0) es
