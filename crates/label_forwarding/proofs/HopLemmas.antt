-- The branches of one tree: their order, and lists of them in it.
use Rattle.std.proofs.Common.{◌≡◌, ℕ, zero, suc, ◌<◌, ◌≤◌, ◌&&◌, Bool, true, false, not, cond, T, List, [], ◌∷◌, map, filter, length, slice_get, get_or, Option, Some, None, Result, Ok, Err, refl, sym, ap, subst, ◌∙◌, arith}
use Rattle.std.specs.Prelude.{OnOk, OnErr}
use Rattle.std.specs.List.{insert}
use Rattle.std.specs.List.Sorted.{IsPartitionPoint, IsPartitionedBy}
use Rattle.std.specs.Ordering.{nat_cmp, ordering_then, ordering_reverse, eq_by_cmp, is_eq, is_lt}
use Rattle.std.specs.declared.cmp.Ordering.{Ordering}
use Rattle.std.specs.declared.cmp.Ordering.TheVariants.{Less, Equal, Greater}
use Rattle.std.specs.Cmp.{IsTotalOrder, tied_itself, both_ways, Equal-is, eq_by_cmp_equiv}
use Rattle.std.specs.Cmp.Lexicographic.{nat_list_cmp_total}
use Rattle.std.specs.FinMap as maps
use Rattle.std.specs.FinMap.{IsAntisymmetric, nat_cmp-IsAntisymmetric, slice_cmp-IsAntisymmetric, put, find, is_sorted}
use Rattle.std.specs.FinMap.Entries.{below_all, where_key, is_sorted-put, is_sorted-where_key, find-where_key}
use Rattle.std.proofs.lemmas.Cmp.{on_total}
use Rattle.std.proofs.lemmas.Bool.Decides.{nat_tests}
use Rattle.label_forwarding.specs.declared.branch.Branch.{Branch}
use Rattle.label_forwarding.specs.Hops.{hop_key, hop_cmp, Hops, marked, is_before, is_hop}

-- ---- the order

then_nothing : (o : Ordering) → ordering_then o Equal ≡ o
then_nothing Less = refl
then_nothing Equal = refl
then_nothing Greater = refl

pub orders : (own other : Branch) → ordering_then (nat_cmp own.node.0 other.node.0) (nat_cmp own.label other.label) ≡ hop_cmp own other
orders own other = ap (ordering_then (nat_cmp own.node.0 other.node.0)) (sym (then_nothing (nat_cmp own.label other.label)))

pub hop_cmp_total : IsTotalOrder hop_cmp
hop_cmp_total = on_total hop_key nat_list_cmp_total

one_hop : (a b : Branch) → hop_key a ≡ hop_key b → a ≡ b
one_hop a b e =
    let node : a.node.0 ≡ b.node.0 = cc in
    let label : a.label ≡ b.label = cc in
    λ i. record { node = record { 0 = node i }; label = label i }

pub hop_cmp_exact : IsAntisymmetric hop_cmp
hop_cmp_exact a b h = one_hop a b (slice_cmp-IsAntisymmetric nat_cmp-IsAntisymmetric (hop_key a) (hop_key b) h)

hop_equal : (a b : Branch) → is_hop a b ≡ true → a ≡ b
hop_equal a b h =
    let node : a.node.0 ≡ b.node.0 = grind (arith, nat_tests) in
    let label : a.label ≡ b.label = grind (arith, nat_tests) in
    λ i. record { node = record { 0 = node i }; label = label i }

hop_itself : (a : Branch) → is_hop a a ≡ true
hop_itself a = grind (arith, nat_tests)

-- `==` and the order tell the same.
pub hop-ties : (a b : Branch) → is_hop a b ≡ eq_by_cmp hop_cmp a b
hop-ties a b = both_ways (is_hop a b) (eq_by_cmp hop_cmp a b)
    (λ h. subst (λ (x : Branch). eq_by_cmp hop_cmp a x ≡ true) (hop_equal a b h) (ap is_eq (tied_itself hop_cmp_total a)))
    (λ h. subst (λ (x : Branch). is_hop a x ≡ true) (hop_cmp_exact a b ((Equal-is (hop_cmp a b)).0 h)) (hop_itself a))

-- ---- places

first : (a b : Bool) → T (a && b) → T a
first true b p = tt
first false b p = p

second : (a b : Bool) → T (a && b) → T b
second true b p = p
second false b p = absurd p

less : (o : Ordering) → T (is_lt o) → o ≡ Less
less Less p = refl
less Equal p = absurd p
less Greater p = absurd p

below : (o : Ordering) → is_lt o ≡ true → o ≡ Less
below Less p = refl
below Equal p = absurd cc
below Greater p = absurd cc

below_at : (x : Branch) (xs : List Branch) → T (below_all hop_cmp x (marked xs)) → (j : ℕ) (d : Branch) → j < length xs
    → hop_cmp x (get_or xs j d) ≡ Less
below_at x [] h j d lt = absurd (omega arith)
below_at x (y ∷ xs) h zero d lt = less _ (first _ _ h)
below_at x (y ∷ xs) h (suc j) d lt = below_at x xs (second _ _ h) j d (omega arith)

-- In order, those before a branch stand before the others.
pub partitioned : (k : Branch) (xs : List Branch) → T (is_sorted hop_cmp (marked xs)) → IsPartitionedBy (is_before k) xs
partitioned k [] h i j d le lt e = absurd (omega arith)
partitioned k (x ∷ xs) h zero zero d le lt e = e
partitioned k (x ∷ xs) h zero (suc j) d le lt e =
    ap is_lt (hop_cmp_total.trans x (get_or xs j d) k (below_at x xs (first _ _ h) j d (omega arith)) (below _ e))
partitioned k (x ∷ xs) h (suc i) zero d le lt e = absurd (omega arith)
partitioned k (x ∷ xs) h (suc i) (suc j) d le lt e = partitioned k xs (second _ _ h) i j d (omega arith) (omega arith) e

-- those before the place are before the branch, and no others are
abbrev pub Point : Branch → List Branch → ℕ → Type 0
Point k xs i = IsPartitionPoint (λ item. is_before k item ≡ true) (λ item. is_before k item ≡ false) xs i

after_point : (k x : Branch) (xs : List Branch) (i : ℕ) → Point k (x ∷ xs) (suc i) → Point k xs i
after_point k x xs i p = (λ j d le lt. p.0 (suc j) d (omega arith) (omega arith), λ j d le lt. p.1 (suc j) d (omega arith) (omega arith))

ahead : (k x : Branch) (xs : List Branch) (i : ℕ) → Point k (x ∷ xs) (suc i) → hop_cmp k x ≡ Greater
ahead k x xs i p = hop_cmp_total.antisymm k x ∙ ap ordering_reverse (below (hop_cmp x k) (p.0 0 x (omega arith) (omega arith)))

not_ahead : (k x : Branch) (xs : List Branch) → Point k (x ∷ xs) 0 → hop_cmp k x ≡ Greater → ⊥
not_ahead k x xs p e =
    let less : hop_cmp x k ≡ Less = hop_cmp_total.antisymm x k ∙ ap ordering_reverse e in
    let not_less : is_lt (hop_cmp x k) ≡ false = p.1 0 x (omega arith) (omega arith) in
    let clash : true ≡ false = sym (ap is_lt less) ∙ not_less in cc

-- Where the branch stands at its place, the list is as it would be with it.
pub put_there : (k : Branch) (xs : List Branch) (i : ℕ) → Point k xs i → slice_get xs i ≡ Some k → marked xs ≡ put hop_cmp k tt (marked xs)
put_there k [] i p e = absurd cc
put_there k (x ∷ xs) zero p e =
    let same : x ≡ k = cc in
    let tie : hop_cmp k x ≡ Equal = subst (λ (y : Branch). hop_cmp k y ≡ Equal) (sym same) (tied_itself hop_cmp_total k) in
    rw tie refl
put_there k (x ∷ xs) (suc i) p e =
    rw (ahead k x xs i p) (ap (λ (es : List (Branch × Unit {0})). (x, tt) ∷ es) (put_there k xs i (after_point k x xs i p) e))

-- Where it does not, the list with it there is in order.
pub put_here : (k : Branch) (xs : List Branch) (i : ℕ) → Point k xs i → i ≤ length xs → (slice_get xs i ≡ Some k → ⊥)
    → marked (insert xs i k) ≡ put hop_cmp k tt (marked xs)
put_here k [] zero p le ne = refl
put_here k [] (suc i) p le ne = absurd (omega arith)
put_here k (x ∷ xs) zero p le ne =
    elim (hop_cmp k x) as (λ o. hop_cmp k x ≡ o → (k, tt) ∷ (x, tt) ∷ marked xs
    ≡ maps.Entries.by_order o ((k, tt) ∷ (x, tt) ∷ marked xs) ((x, tt) ∷ marked xs) ((x, tt) ∷ put hop_cmp k tt (marked xs))) [
      | Less ↦ λ e. refl
      | Equal ↦ λ e. absurd (ne (ap (λ (y : Branch). Some y) (sym (hop_cmp_exact k x e))))
      | Greater ↦ λ e. absurd (not_ahead k x xs p e)
    ] refl
put_here k (x ∷ xs) (suc i) p le ne =
    rw (ahead k x xs i p) (ap (λ (es : List (Branch × Unit {0})). (x, tt) ∷ es) (put_here k xs i (after_point k x xs i p) (omega arith) ne))

-- ---- the set of a list

-- the set of these
abbrev pub set_of : List Branch → Hops
set_of xs = maps.from_sorted {R = hop_cmp} (marked xs)

pub keys-marked : (xs : List Branch) → map (λ e. e.0) (marked xs) ≡ xs
keys-marked [] = refl
keys-marked (x ∷ xs) = ap (λ (ys : List Branch). x ∷ ys) (keys-marked xs)

pub keys-set : (xs : List Branch) → T (is_sorted hop_cmp (marked xs)) → maps.keys (set_of xs) ≡ xs
keys-set xs h = ap (λ (es : List (Branch × Unit {0})). map (λ e. e.0) es) (maps.entries-from_sorted hop_cmp (marked xs) h) ∙ keys-marked xs

get-set : (xs : List Branch) → T (is_sorted hop_cmp (marked xs)) → (q : Branch) → maps.get (set_of xs) q ≡ find hop_cmp q (marked xs)
get-set xs h q = maps.get-from_sorted hop_cmp (marked xs) q h

pub set-none : set_of [] ≡ maps.empty
set-none = maps.same_map hop_cmp_total hop_cmp_exact _ _ (λ q. get-set [] tt q ∙ sym (maps.get-empty hop_cmp q))

-- A list that is in order with one more.
pub sorted_with : (xs ys : List Branch) (k : Branch) → T (is_sorted hop_cmp (marked xs)) → marked ys ≡ put hop_cmp k tt (marked xs)
    → T (is_sorted hop_cmp (marked ys))
sorted_with xs ys k h e =
    subst (λ (es : List (Branch × Unit {0})). T (is_sorted hop_cmp es)) (sym e) (is_sorted-put hop_cmp hop_cmp_total k tt (marked xs) h)

pub set_with : (xs ys : List Branch) (k : Branch) → T (is_sorted hop_cmp (marked xs)) → marked ys ≡ put hop_cmp k tt (marked xs)
    → set_of ys ≡ maps.insert (set_of xs) k tt
set_with xs ys k h e = maps.same_entries_map _ _
    (maps.entries-from_sorted hop_cmp (marked ys) (sorted_with xs ys k h e)
    ∙ (e ∙ (ap (put hop_cmp k tt) (sym (maps.entries-from_sorted hop_cmp (marked xs) h))
    ∙ sym (maps.entries-insert hop_cmp_total (set_of xs) k tt))))

-- the entries without a branch
left : Branch → List Branch → List (Branch × Unit {0})
left k xs = where_key hop_cmp (λ x. not (eq_by_cmp hop_cmp k x)) (marked xs)

filtered : (k : Branch) (xs : List Branch) → marked (filter (λ item. not (is_hop item k)) xs) ≡ left k xs
unfolding left
filtered k [] = refl
filtered k (x ∷ xs) = by (is_hop x k) refl (hop-ties x k ∙ (eq_by_cmp_equiv hop_cmp_total).symm x k) (filtered k xs)
  where
    by : (b : Bool) → is_hop x k ≡ b → is_hop x k ≡ eq_by_cmp hop_cmp k x
        → marked (filter (λ item. not (is_hop item k)) xs) ≡ where_key hop_cmp (λ y. not (eq_by_cmp hop_cmp k y)) (marked xs)
        → marked (cond (not (is_hop x k)) (x ∷ filter (λ item. not (is_hop item k)) xs) (filter (λ item. not (is_hop item k)) xs))
        ≡ cond (not (eq_by_cmp hop_cmp k x)) ((x, tt) ∷ where_key hop_cmp (λ y. not (eq_by_cmp hop_cmp k y)) (marked xs))
        (where_key hop_cmp (λ y. not (eq_by_cmp hop_cmp k y)) (marked xs))
    by true e tie rest = rw (e, sym tie ∙ e) rest
    by false e tie rest = rw (e, sym tie ∙ e) (ap (λ (es : List (Branch × Unit {0})). (x, tt) ∷ es) rest)

pub sorted_without : (k : Branch) (xs : List Branch) → T (is_sorted hop_cmp (marked xs))
    → T (is_sorted hop_cmp (marked (filter (λ item. not (is_hop item k)) xs)))
unfolding left
sorted_without k xs h =
    subst (λ (es : List (Branch × Unit {0})). T (is_sorted hop_cmp es)) (sym (filtered k xs))
    (is_sorted-where_key hop_cmp (λ x. not (eq_by_cmp hop_cmp k x)) (marked xs) h)

turned : {A : Type 0} (b : Bool) (x y : A) → cond (not b) x y ≡ cond b y x
turned true x y = refl
turned false x y = refl

pub set_without : (k : Branch) (xs : List Branch) → T (is_sorted hop_cmp (marked xs))
    → set_of (filter (λ item. not (is_hop item k)) xs) ≡ maps.remove (set_of xs) k
unfolding left
set_without k xs h = maps.same_map hop_cmp_total hop_cmp_exact _ _ (λ q.
    get-set (filter (λ item. not (is_hop item k)) xs) (sorted_without k xs h) q
    ∙ (ap (find hop_cmp q) (filtered k xs)
    ∙ (find-where_key hop_cmp (λ x. not (eq_by_cmp hop_cmp k x)) q
    (λ x t. ap (λ (y : Branch). not (eq_by_cmp hop_cmp k y)) (sym (hop_cmp_exact q x t))) (marked xs)
    ∙ (turned (eq_by_cmp hop_cmp k q) (find hop_cmp q (marked xs)) None
    ∙ (ap (λ (b : Bool). cond b None (find hop_cmp q (marked xs))) ((eq_by_cmp_equiv hop_cmp_total).symm k q)
    ∙ (ap (λ (o : Option (Unit {0})). cond (eq_by_cmp hop_cmp q k) None o) (sym (get-set xs h q))
    ∙ sym (maps.get-remove hop_cmp_total (set_of xs) k q)))))))

-- ---- what a call left

pub sorted_then : {E : Type 0} (r : Result (Unit {0}) E) (xs ys : List Branch) (k : Branch) → T (is_sorted hop_cmp (marked xs))
    → OnOk r (marked ys ≡ put hop_cmp k tt (marked xs)) → OnErr r (ys ≡ xs) → T (is_sorted hop_cmp (marked ys))
sorted_then (Ok u) xs ys k h ok err = sorted_with xs ys k h ok
sorted_then (Err e) xs ys k h ok err = subst (λ (zs : List Branch). T (is_sorted hop_cmp (marked zs))) (sym err) h

pub set_then : {E : Type 0} (r : Result (Unit {0}) E) (xs ys : List Branch) (k : Branch) (old : Hops) → set_of xs ≡ old
    → T (is_sorted hop_cmp (marked xs)) → OnOk r (marked ys ≡ put hop_cmp k tt (marked xs)) → OnOk r (set_of ys ≡ maps.insert old k tt)
set_then (Ok u) xs ys k old view h ok = set_with xs ys k h ok ∙ ap (λ (m : Hops). maps.insert m k tt) view
set_then (Err e) xs ys k old view h ok = tt

pub set_stays : {E : Type 0} (r : Result (Unit {0}) E) (xs ys : List Branch) (old : Hops) → set_of xs ≡ old → OnErr r (ys ≡ xs)
    → OnErr r (set_of ys ≡ old)
set_stays (Ok u) xs ys old view err = tt
set_stays (Err e) xs ys old view err = ap set_of err ∙ view

-- ---- a branch that is added

pub was_there : (k : Branch) (xs ds es : List Branch) (i : ℕ) → ds ≡ xs → es ≡ xs → T (is_sorted hop_cmp (marked xs))
    → (IsPartitionedBy (is_before k) ds → Point k ds i) → slice_get es i ≡ Some k
    → marked xs ≡ put hop_cmp k tt (marked xs)
was_there k xs ds es i d e h point there =
    let at : Point k xs i =
    subst (λ (zs : List Branch). Point k zs i) d
    (point (subst (λ (zs : List Branch). IsPartitionedBy (is_before k) zs) (sym d) (partitioned k xs h))) in
    put_there k xs i at (subst (λ (zs : List Branch). slice_get zs i ≡ Some k) e there)

pub is_added : (k : Branch) (xs ds es ys : List Branch) (i : ℕ) → ds ≡ xs → es ≡ xs → T (is_sorted hop_cmp (marked xs))
    → (IsPartitionedBy (is_before k) ds → Point k ds i) → i ≤ length ds
    → (slice_get es i ≡ Some k → ⊥) → ys ≡ insert xs i k → marked ys ≡ put hop_cmp k tt (marked xs)
is_added k xs ds es ys i d e h point le ne is =
    let at : Point k xs i =
    subst (λ (zs : List Branch). Point k zs i) d
    (point (subst (λ (zs : List Branch). IsPartitionedBy (is_before k) zs) (sym d) (partitioned k xs h))) in
    ap marked is ∙ put_here k xs i at (subst (λ (zs : List Branch). i ≤ length zs) d le)
    (λ there. ne (subst (λ (zs : List Branch). slice_get zs i ≡ Some k) (sym e) there))
