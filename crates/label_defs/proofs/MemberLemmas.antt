-- The members of a set in order: a member is listed once, and nothing else is listed.
use Rattle.std.proofs.Common.{◌≡◌, ◌+◌, ℕ, Bool, true, false, cond, T, ◌&&◌, ◌||◌, List, [], ◌∷◌, map, Option, is_some, refl, sym, ap, inl, inr, ◌∙◌, arith}
use Rattle.std.specs.Prelude.{count_by}
use Rattle.std.specs.List.{list_any, AllByRecursion}
use Rattle.std.specs.Ordering.{eq_by_cmp, is_eq, is_lt}
use Rattle.std.specs.declared.cmp.Ordering.{Ordering}
use Rattle.std.specs.declared.cmp.Ordering.TheVariants.{Less, Equal, Greater}
use Rattle.std.specs.Cmp.{IsTotalOrder, Equal-is, tied_itself}
use Rattle.std.specs.FinMap as maps
use Rattle.std.specs.FinMap.{FinMap, is_sorted}
use Rattle.std.specs.FinMap.Entries.{below_all, is_some-find}
use Rattle.std.specs.FinSet as sets
use Rattle.std.specs.FinSet.{FinSet}
use Rattle.std.proofs.lemmas.Bool.{cases_Bool, cond-true, cond-false, or_left, or_right}
use Rattle.std.proofs.lemmas.List.Sums.{sum_by-cons}
use Rattle.label_defs.specs.Members.{in_order}

-- ---- keys that rise

pub count-cons : {X : Type 0} (test : X → Bool) (x : X) (xs : List X) → count_by test (x ∷ xs) ≡ cond (test x) 1 0 + count_by test xs
count-cons test x xs = sum_by-cons (λ y. cond (test y) 1 0) x xs

pub front_of : (a b : Bool) → T (a && b) → T a
front_of true b h = tt
front_of false b h = h

pub back_of : (a b : Bool) → T (a && b) → T b
back_of true b h = h
back_of false b h = absurd h

pub not_tied : (r : Ordering) → T (is_lt r) → is_eq r ≡ false
not_tied Less h = refl
not_tied Equal h = absurd h
not_tied Greater h = absurd h

module _ {K X : Type 0} {R : K → K → Ordering} (total : IsTotalOrder R) where
  none_above : (k a : K) → eq_by_cmp R k a ≡ true → (es : List (K × X)) → T (below_all R a es) → (count_by (eq_by_cmp R k) (map (λ e. e.0) es) ≡ 0)
  none_above k a e [] h = refl
  none_above k a e (x ∷ es) h =
      let alike : R k x.0 ≡ R a x.0 = total.congr k a x.0 ((Equal-is (R k a)).0 e) in
      let other : eq_by_cmp R k x.0 ≡ false = ap is_eq alike ∙ not_tied (R a x.0) (front_of (is_lt (R a x.0)) (below_all R a es) h) in
      let none : cond {A = ℕ} (eq_by_cmp R k x.0) 1 0 ≡ 0 = cond-false (eq_by_cmp R k x.0) 1 0 other in
      let rest = none_above k a e es (back_of (is_lt (R a x.0)) (below_all R a es) h) in
      omega (arith, count-cons (eq_by_cmp R k) x.0 (map (λ (y : K × X). y.0) es), none, rest)

  once_sorted : (k : K) (es : List (K × X)) → T (is_sorted R es)
      → count_by (eq_by_cmp R k) (map (λ e. e.0) es) ≡ cond (list_any (eq_by_cmp R k) (map (λ e. e.0) es)) 1 0
  once_sorted k [] h = refl
  once_sorted k (x ∷ es) h = elim (cases_Bool (eq_by_cmp R k x.0)) [
    | inl t ↦
        let one : cond {A = ℕ} (eq_by_cmp R k x.0) 1 0 ≡ 1 = cond-true (eq_by_cmp R k x.0) 1 0 t in
        let rest = none_above k x.0 t es (front_of (below_all R x.0 es) (is_sorted R es) h) in
        let there : cond {A = ℕ} (eq_by_cmp R k x.0 || list_any (eq_by_cmp R k) (map (λ (y : K × X). y.0) es)) 1 0 ≡ 1 =
        ap (λ b. cond (b || list_any (eq_by_cmp R k) (map (λ (y : K × X). y.0) es)) 1 0) t in
        omega (arith, count-cons (eq_by_cmp R k) x.0 (map (λ (y : K × X). y.0) es), one, rest, there)
    | inr f ↦
        let none : cond {A = ℕ} (eq_by_cmp R k x.0) 1 0 ≡ 0 = cond-false (eq_by_cmp R k x.0) 1 0 f in
        let rest = once_sorted k es (back_of (below_all R x.0 es) (is_sorted R es) h) in
        let there : cond {A = ℕ} (eq_by_cmp R k x.0 || list_any (eq_by_cmp R k) (map (λ (y : K × X). y.0) es)) 1 0
        ≡ cond (list_any (eq_by_cmp R k) (map (λ (y : K × X). y.0) es)) 1 0 =
        ap (λ b. cond (b || list_any (eq_by_cmp R k) (map (λ (y : K × X). y.0) es)) 1 0) f in
        omega (arith, count-cons (eq_by_cmp R k) x.0 (map (λ (y : K × X). y.0) es), none, rest, there)
  ]

  -- A key is listed once, or not at all
  pub once_among_keys : (m : FinMap R X) (k : K) → count_by (eq_by_cmp R k) (maps.keys m) ≡ cond (maps.contains_key m k) 1 0
  once_among_keys m k = once_sorted k (maps.entries m) (maps.entries_sorted m) ∙ ap (λ b. cond b 1 0) (sym (maps.contains_key-keys m k))

-- ---- members

module _ {K : Type 0} {R : K → K → Ordering} (total : IsTotalOrder R) where
  as_entries : (xs : List K) (k : K) → list_any (eq_by_cmp R k) (map (λ (e : K × Unit {0}). e.0) (map (λ x. (x, tt {0})) xs))
      ≡ list_any (eq_by_cmp R k) xs
  as_entries [] k = refl
  as_entries (x ∷ xs) k = ap (λ b. eq_by_cmp R k x || b) (as_entries xs k)

  pub contains_in_order : (s : FinSet R) (k : K) → sets.contains s k ≡ list_any (eq_by_cmp R k) (in_order s)
  contains_in_order s k =
      let es : List (K × Unit {0}) = map (λ x. (x, tt {0})) (sets.items s) in
      sets.contains-items s k
      ∙ sym (as_entries (sets.items s) k)
      ∙ sym (is_some-find R k es)
      ∙ sym (ap (λ (o : Option (Unit {0})). is_some o) (maps.get-from_entries total es k))
      ∙ maps.contains_key-keys (maps.from_entries {R = R} es) k

  -- a member is listed once, and nothing else is listed
  pub once_in_order : (s : FinSet R) (k : K) → count_by (eq_by_cmp R k) (in_order s) ≡ cond (sets.contains s k) 1 0
  once_in_order s k =
      let es : List (K × Unit {0}) = map (λ x. (x, tt {0})) (sets.items s) in
      once_among_keys total (maps.from_entries {R = R} es) k
      ∙ ap (λ b. cond b 1 0) (maps.contains_key-keys (maps.from_entries {R = R} es) k ∙ sym (contains_in_order s k))

  listed : (P : K → Type 0) (xs : List K) → ((k : K) → list_any (eq_by_cmp R k) xs ≡ true → P k) → AllByRecursion P xs
  listed P [] each = tt
  listed P (x ∷ xs) each = (
    each x (or_left (eq_by_cmp R x x) (list_any (eq_by_cmp R x) xs) (ap is_eq (tied_itself total x))),
    listed P xs (λ k h. each k (or_right (eq_by_cmp R k x) (list_any (eq_by_cmp R k) xs) h)),
  )

  -- what holds of each member holds along the list
  pub each_in_order : (P : K → Type 0) (s : FinSet R) → ((k : K) → sets.contains s k ≡ true → P k) → AllByRecursion P (in_order s)
  each_in_order P s each = listed P (in_order s) (λ k h. each k (contains_in_order s k ∙ h))

  none_listed : (xs : List K) → ((k : K) → list_any (eq_by_cmp R k) xs ≡ false) → xs ≡ []
  none_listed [] none = refl
  none_listed (x ∷ xs) none =
      let here = or_left (eq_by_cmp R x x) (list_any (eq_by_cmp R x) xs) (ap is_eq (tied_itself total x)) in
      let nowhere : true ≡ false = sym here ∙ none x in
      absurd cc

  -- the empty set lists nothing
  pub none_in_order : in_order (sets.empty {R = R}) ≡ []
  none_in_order = none_listed (in_order sets.empty) (λ k. sym (contains_in_order sets.empty k) ∙ sets.contains-empty R k)
