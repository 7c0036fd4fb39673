-- The order of routes tells each from every other one, and what a range of it has.
use Rattle.std.proofs.Common.{◌≡◌, ℕ, ◌==◌, ◌&&◌, Bool, true, false, cond, not, inl, inr, List, [], ◌∷◌, Option, Some, None, refl, sym, ap, subst, ◌∙◌, eq-eqb}
use Rattle.std.specs.List.{AllByRecursion, filter}
use Rattle.std.specs.List.Sorted.{IsStrictlySortedBy}
use Rattle.std.specs.BTreeMap.{is_at}
use Rattle.std.specs.BTreeMap.Range.{range_contains, entries_between}
use Rattle.std.specs.Map.{keys_of, lookup}
use Rattle.std.specs.FinMap.{FinMap, IsAntisymmetric, nat_cmp-IsAntisymmetric, slice_cmp-IsAntisymmetric, entries, get, get-entries}
use Rattle.std.specs.Ordering.{nat_cmp, is_eq, is_gt, is_le, is_lt, ordering_then}
use Rattle.std.specs.declared.cmp.Ordering.{Ordering}
use Rattle.std.specs.declared.cmp.Ordering.TheVariants.{Less}
use Rattle.std.specs.declared.ops.Bound.TheVariants.{Included}
use Rattle.std.specs.Cmp.{Equal-is, nat_cmp_total, tied_itself}
use Rattle.std.specs.Cmp.Lexicographic.{slice_cmp}
use Rattle.std.proofs.lemmas.Bool.{and_parts, eqb-true}
use Rattle.mv_base.specs.Prefix.{covers, same_front}
use Rattle.mv_base.specs.declared.addr.Addr.{Addr}
use Rattle.mv_base.specs.declared.addr.Addr.TheVariants.{V4, V6}
use Rattle.mv_base.proofs.SortedMaps.{Changes, find-lookup, level, map_sorted, same_bool, then_equal, through, tied_numbers}
use Rattle.choice_defs.specs.Choice.{Among, addr_cmp}
use Rattle.choice_defs.proofs.OrderLemmas.{one_addr, not_itself}
use Rattle.umh_select.specs.declared.key.Place.{Place}
use Rattle.umh_select.specs.declared.key.Place.TheVariants.{First, Here, From, Last}
use Rattle.umh_select.specs.declared.key.RouteKey.{RouteKey}
use Rattle.umh_select.specs.Order.{family, front, key_cmp, key_total, place_part}
use Rattle.umh_select.specs.Routes.{at_length}

-- ---- what ties is equal

abbrev first : List ℕ → ℕ
first [] = 0
first (number ∷ rest) = number

abbrev thereafter : List ℕ → List ℕ
thereafter [] = []
thereafter (number ∷ rest) = rest

abbrev place_back : List ℕ → Place
place_back part =
    cond (first part == 0) First (cond (first part == 1) Here
    (cond (first part == 2) (From (record { 0 = first (thereafter part) }) (record { 0 = thereafter (thereafter part) })) Last))

place_again : (place : Place) → place_back (place_part place) ≡ place
place_again First = refl
place_again Here = refl
place_again (From peer rd) = refl
place_again Last = refl

one_place : (a b : Place) → place_part a ≡ place_part b → a ≡ b
one_place a b e = sym (place_again a) ∙ (ap place_back e ∙ place_again b)

numbers_exact : IsAntisymmetric (slice_cmp nat_cmp)
numbers_exact = slice_cmp-IsAntisymmetric nat_cmp-IsAntisymmetric

abbrev by_place : RouteKey → RouteKey → Ordering
by_place a b = ordering_then (slice_cmp nat_cmp (place_part a.place) (place_part b.place)) (addr_cmp a.prefix.addr b.prefix.addr)

abbrev by_front : RouteKey → RouteKey → Ordering
by_front a b = ordering_then (nat_cmp (front a.prefix.addr a.prefix.bits) (front b.prefix.addr b.prefix.bits)) (by_place a b)

abbrev by_family : RouteKey → RouteKey → Ordering
by_family a b = ordering_then (nat_cmp (family a.prefix.addr) (family b.prefix.addr)) (by_front a b)

pub key_exact : IsAntisymmetric key_cmp
key_exact a b e =
    let lengths = then_equal (nat_cmp a.prefix.bits b.prefix.bits) (by_family a b) e in
    let families = then_equal (nat_cmp (family a.prefix.addr) (family b.prefix.addr)) (by_front a b) lengths.1 in
    let fronts = then_equal (nat_cmp (front a.prefix.addr a.prefix.bits) (front b.prefix.addr b.prefix.bits)) (by_place a b) families.1 in
    let places = then_equal (slice_cmp nat_cmp (place_part a.place) (place_part b.place)) (addr_cmp a.prefix.addr b.prefix.addr) fronts.1 in
    let bits = nat_cmp-IsAntisymmetric a.prefix.bits b.prefix.bits lengths.0 in
    let place = one_place a.place b.place (numbers_exact (place_part a.place) (place_part b.place) places.0) in
    let addr = one_addr a.prefix.addr b.prefix.addr places.1 in
    λ i. record { prefix = record { addr = addr i; bits = bits i }; place = place i }

pub same_key : (k q : RouteKey) → is_at (key_cmp k) q ≡ true → k ≡ q
same_key k q h = key_exact k q ((Equal-is (key_cmp k q)).0 h)

-- ---- what is absent, and what is found

module _ {X : Type 0} where
  abbrev pub Sorted : List (RouteKey × X) → Type 0
  Sorted es = IsStrictlySortedBy key_cmp (keys_of es)

  -- ---- a change keeps what is absent absent

  absent_by : (t : Bool) (w o : Option X) → (t ≡ true → w ≡ None) → o ≡ None → cond t w o ≡ None
  absent_by true w o h k = h refl
  absent_by false w o h k = k

  pub still_absent : (es fs : List (RouteKey × X)) (k : RouteKey) (w : Option X) → Changes key_cmp es fs k w → (q : RouteKey) → (k ≡ q → w ≡ None)
      → lookup (is_at (key_cmp q)) es ≡ None → lookup (is_at (key_cmp q)) fs ≡ None
  still_absent es fs k w u q h n = u q ∙ absent_by (is_at (key_cmp k) q) w (lookup (is_at (key_cmp q)) es) (λ e. h (same_key k q e)) n

  pub absent_filter : (p : RouteKey × X → Bool) (q : RouteKey) (es : List (RouteKey × X)) → lookup (is_at (key_cmp q)) es ≡ None
      → lookup (is_at (key_cmp q)) (filter p es) ≡ None
  absent_filter p q [] h = refl
  absent_filter p q (e ∷ es) h = by (is_at (key_cmp q) e.0) (p e) refl h (absent_filter p q es)
    where
      by : (b c : Bool) → is_at (key_cmp q) e.0 ≡ b → cond b (Some e.1) (lookup (is_at (key_cmp q)) es) ≡ None
          → (lookup (is_at (key_cmp q)) es ≡ None → lookup (is_at (key_cmp q)) (filter p es) ≡ None)
          → lookup (is_at (key_cmp q)) (cond c (e ∷ filter p es) (filter p es)) ≡ None
      by true c a h k = absurd cc
      by false true a h k = ap (λ (t : Bool). cond t (Some e.1) (lookup (is_at (key_cmp q)) (filter p es))) a ∙ k h
      by false false a h k = k h

  some_there : (t : Bool) (x : X) (o : Option X) → t ≡ true → cond t (Some x) o ≡ None → ⊥
  some_there true x o e h = absurd cc
  some_there false x o e h = absurd cc

  other_there : (t : Bool) (x : X) (o : Option X) → cond t (Some x) o ≡ None → o ≡ None
  other_there true x o h = absurd cc
  other_there false x o h = h

  at_itself : (e f : RouteKey × X) → e ≡ f → is_at (key_cmp e.0) f.0 ≡ true
  at_itself e f s = subst (λ (g : RouteKey × X). is_at (key_cmp e.0) g.0 ≡ true) s (ap is_eq (tied_itself key_total e.0))

  -- what is there is not absent
  pub there : (e : RouteKey × X) (es : List (RouteKey × X)) → Among e es → lookup (is_at (key_cmp e.0)) es ≡ None → ⊥
  there e [] m h = m
  there e (f ∷ es) (inl same) h = some_there (is_at (key_cmp e.0) f.0) f.1 (lookup (is_at (key_cmp e.0)) es) (at_itself e f same) h
  there e (f ∷ es) (inr m) h = there e es m (other_there (is_at (key_cmp e.0) f.0) f.1 (lookup (is_at (key_cmp e.0)) es) h)

  above : (x : RouteKey) (e : RouteKey × X) (es : List (RouteKey × X)) → Among e es → AllByRecursion (λ y. key_cmp x y ≡ Less) (keys_of es)
      → key_cmp x e.0 ≡ Less
  above x e [] m h = absurd m
  above x e (f ∷ es) (inl same) h = ap (λ (g : RouteKey × X). key_cmp x g.0) same ∙ h.0
  above x e (f ∷ es) (inr m) h = above x e es m h.1

  not_first : (e f : RouteKey × X) → key_cmp f.0 e.0 ≡ Less → (t : Bool) → is_at (key_cmp e.0) f.0 ≡ t → (o : Option X) → cond t (Some f.1) o ≡ o
  not_first e f h true k o = absurd (not_itself key_total f.0 (subst (λ (q : RouteKey). key_cmp f.0 q ≡ Less) (same_key e.0 f.0 k) h))
  not_first e f h false k o = refl

  -- an entry is what is found at its key
  pub entry_found : (e : RouteKey × X) (es : List (RouteKey × X)) → Sorted es → Among e es → lookup (is_at (key_cmp e.0)) es ≡ Some e.1
  unfolding IsStrictlySortedBy
  entry_found e [] a m = absurd m
  entry_found e (f ∷ es) a (inl same) =
      ap (λ (t : Bool). cond t (Some f.1) (lookup (is_at (key_cmp e.0)) es)) (at_itself e f same) ∙ ap (λ (g : RouteKey × X). Some g.1) (sym same)
  entry_found e (f ∷ es) a (inr m) =
      not_first e f (above f.0 e es m a.0) (is_at (key_cmp e.0) f.0) refl (lookup (is_at (key_cmp e.0)) es) ∙ entry_found e es a.1 m

  -- an entry of a map is what the map has at its key
  pub entry_get : (m : FinMap key_cmp X) (e : RouteKey × X) → Among e (entries m) → get m e.0 ≡ Some e.1
  entry_get m e a = get-entries m e.0 ∙ (find-lookup key_cmp e.0 (entries m) ∙ entry_found e (entries m) (map_sorted key_cmp m) a)

  pub filter_among : (p q : RouteKey × X → Bool) (es : List (RouteKey × X)) → ((e : RouteKey × X) → Among e es → p e ≡ q e)
      → filter p es ≡ filter q es
  filter_among p q [] h = refl
  filter_among p q (e ∷ es) h =
      λ i. cond (h e (inl refl) i) (e ∷ filter_among p q es (λ f m. h f (inr m)) i) (filter_among p q es (λ f m. h f (inr m)) i)

-- ---- the range of a length and first bits

abbrev pub low_end : Addr → ℕ → RouteKey
low_end source bits = record { prefix = record { addr = source; bits = bits }; place = First }

abbrev pub high_end : Addr → ℕ → RouteKey
high_end source bits = record { prefix = record { addr = source; bits = bits }; place = Last }

-- the ends are in order
pub forward : (source : Addr) (bits : ℕ) → is_gt (key_cmp (low_end source bits) (high_end source bits)) ≡ false
forward source bits =
    let low = low_end source bits in
    let high = high_end source bits in
    through (nat_cmp bits bits) (by_family low high) (tied_itself nat_cmp_total bits)
    (through (nat_cmp (family source) (family source)) (by_front low high) (tied_itself nat_cmp_total (family source))
    (through (nat_cmp (front source bits) (front source bits)) (by_place low high) (tied_itself nat_cmp_total (front source bits)) refl))

-- neither end
abbrev pub IsInner : Place → Type 0
IsInner First = ⊥
IsInner Last = ⊥
IsInner other = Unit {0}

fronts_cover : (a b : Addr) (bits : ℕ) → family a ≡ family b → front a bits ≡ front b bits → same_front a b bits ≡ true
fronts_cover (V4 xs) (V4 ys) bits e h = eq-eqb _ _ h
fronts_cover (V6 xs) (V6 ys) bits e h = eq-eqb _ _ h
fronts_cover (V4 xs) (V6 ys) bits e h = absurd cc
fronts_cover (V6 xs) (V4 ys) bits e h = absurd cc

covers_fronts : (a b : Addr) (bits : ℕ) → same_front a b bits ≡ true → (family a ≡ family b) × (front a bits ≡ front b bits)
covers_fronts (V4 xs) (V4 ys) bits h = (refl, eqb-true _ _ h)
covers_fronts (V6 xs) (V6 ys) bits h = (refl, eqb-true _ _ h)
covers_fronts (V4 xs) (V6 ys) bits h = absurd cc
covers_fronts (V6 xs) (V4 ys) bits h = absurd cc

both_true : (a b : Bool) → a ≡ true → b ≡ true → (a && b) ≡ true
both_true true b h k = k
both_true false b h k = absurd cc

module _ (source : Addr) (bits : ℕ) (q : RouteKey) where
  abbrev lengths : Ordering
  lengths = nat_cmp bits q.prefix.bits

  abbrev families : Ordering
  families = nat_cmp (family source) (family q.prefix.addr)

  abbrev fronts : Ordering
  fronts = nat_cmp (front source bits) (front q.prefix.addr q.prefix.bits)

  ends : (place : Place) → IsInner place → (x y : Ordering)
      → (is_le (ordering_then (slice_cmp nat_cmp (place_part First) (place_part place)) x)
      && not (is_lt (ordering_then (slice_cmp nat_cmp (place_part Last) (place_part place)) y))) ≡ true
  ends First h x y = absurd h
  ends Here h x y = refl
  ends (From peer rd) h x y = refl
  ends Last h x y = absurd h

  in_levels : IsInner q.place → range_contains key_cmp (Included (low_end source bits)) (Included (high_end source bits)) q
      ≡ (is_eq lengths && (is_eq families && (is_eq fronts && true)))
  in_levels h =
      level lengths (by_family (low_end source bits) q) (by_family (high_end source bits) q) _
      (level families (by_front (low_end source bits) q) (by_front (high_end source bits) q) _
      (level fronts (by_place (low_end source bits) q) (by_place (high_end source bits) q) true
      (ends q.place h (addr_cmp source q.prefix.addr) (addr_cmp source q.prefix.addr))))

  to : (is_eq lengths && (is_eq families && (is_eq fronts && true))) ≡ true → (covers q.prefix source && q.prefix.bits == bits) ≡ true
  to h =
      let a = and_parts (is_eq lengths) (is_eq families && (is_eq fronts && true)) h in
      let b = and_parts (is_eq families) (is_eq fronts && true) a.1 in
      let c = and_parts (is_eq fronts) true b.1 in
      let long = nat_cmp-IsAntisymmetric bits q.prefix.bits ((Equal-is lengths).0 a.0) in
      let kind = nat_cmp-IsAntisymmetric (family source) (family q.prefix.addr) ((Equal-is families).0 b.0) in
      let same = nat_cmp-IsAntisymmetric (front source bits) (front q.prefix.addr q.prefix.bits) ((Equal-is fronts).0 c.0) in
      both_true (covers q.prefix source) (q.prefix.bits == bits)
      (fronts_cover q.prefix.addr source q.prefix.bits (sym kind) (sym same ∙ ap (front source) long)) (eq-eqb q.prefix.bits bits (sym long))

  from : (covers q.prefix source && q.prefix.bits == bits) ≡ true → (is_eq lengths && (is_eq families && (is_eq fronts && true))) ≡ true
  from h =
      let both = and_parts (covers q.prefix source) (q.prefix.bits == bits) h in
      let long : q.prefix.bits ≡ bits = eqb-true q.prefix.bits bits both.1 in
      let fits = covers_fronts q.prefix.addr source q.prefix.bits both.0 in
      both_true (is_eq lengths) (is_eq families && (is_eq fronts && true)) (tied_numbers bits q.prefix.bits (sym long))
      (both_true (is_eq families) (is_eq fronts && true) (tied_numbers (family source) (family q.prefix.addr) (sym fits.0))
      (both_true (is_eq fronts) true (tied_numbers (front source bits) (front q.prefix.addr q.prefix.bits) (sym (fits.1 ∙ ap (front source) long)))
      refl))

  pub in_range : IsInner q.place → range_contains key_cmp (Included (low_end source bits)) (Included (high_end source bits)) q
      ≡ (covers q.prefix source && q.prefix.bits == bits)
  in_range h =
      in_levels h ∙ same_bool (is_eq lengths && (is_eq families && (is_eq fronts && true))) (covers q.prefix source && q.prefix.bits == bits) to from

module _ {X : Type 0} where
  pub range_at : (source : Addr) (bits : ℕ) (es : List (RouteKey × X)) → ((e : RouteKey × X) → Among e es → IsInner e.0.place)
      → entries_between key_cmp (Included (low_end source bits)) (Included (high_end source bits)) es ≡ at_length source bits es
  range_at source bits es h =
      filter_among (λ (e : RouteKey × X). range_contains key_cmp (Included (low_end source bits)) (Included (high_end source bits)) e.0)
      (λ (e : RouteKey × X). covers e.0.prefix source && e.0.prefix.bits == bits) es
      (λ e m. in_range source bits e.0 (h e m))
