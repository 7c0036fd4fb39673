-- Facts about lists that the laws share.
use Rattle.std.proofs.Common.{◌≡◌, ℕ, List, [], ◌∷◌, ◌++◌, true, false, Bool, cond, zero, suc, refl, sym, ap, ◌∙◌, inl, inr}
use Rattle.std.specs.Prelude.{◌&&◌, ◌||◌, None, Some, slice_get, find}
use Rattle.std.specs.List.{filter, list_any, list_all, AllByRecursion}
use Rattle.std.proofs.Math.Bool.{and-false, and-true}
use Rattle.std.proofs.lemmas.Bool.{cases_Bool, or_cases, or_left, or_right, or_from, and_from, false_from_ne_true}

-- Each element of two lists that are joined passes.
pub all-append : {X : Type 0} (P : X → Type 0) (xs ys : List X) → AllByRecursion P xs → AllByRecursion P ys → AllByRecursion P (xs ++ ys)
all-append P [] ys h k = k
all-append P (x ∷ xs) ys h k = (h.0, all-append P xs ys h.1 k)

-- an element of a list that passes a test
pub record Passes {X : Type 0} (test : X → Bool) (xs : List X) : Type 0 where
  pub place : ℕ
  pub value : X
  pub at : slice_get xs place ≡ Some value
  pub passes : test value ≡ true

-- Some element passes where the test of any says so.
pub passes-from_any : {X : Type 0} (test : X → Bool) (xs : List X) → list_any test xs ≡ true → Passes test xs
passes-from_any test [] h = absurd cc
passes-from_any test (x ∷ xs) h = elim (or_cases (test x) (list_any test xs) h) [
  | inl here ↦ record { place = 0; value = x; at = refl; passes = here }
  | inr there ↦
      let p = passes-from_any test xs there in
      record { place = suc p.place; value = p.value; at = p.at; passes = p.passes }
]

-- The test of any says so where an element passes.
pub any-from_at : {X : Type 0} (test : X → Bool) (xs : List X) (place : ℕ) (value : X) → slice_get xs place ≡ Some value → test value ≡ true
    → list_any test xs ≡ true
any-from_at test [] place value e h = absurd cc
any-from_at test (x ∷ xs) zero value e h = let same : x ≡ value = cc in or_left (test x) (list_any test xs) (rw same h)
any-from_at test (x ∷ xs) (suc place) value e h = or_right (test x) (list_any test xs) (any-from_at test xs place value e h)

-- The first element that passes stands somewhere in the list.
pub passes-from_find : {X : Type 0} (test : X → Bool) (xs : List X) (value : X) → find test xs ≡ Some value →
    (place : ℕ) × (slice_get xs place ≡ Some value) × (test value ≡ true)
passes-from_find test [] value h = absurd cc
passes-from_find test (x ∷ xs) value h = elim (cases_Bool (test x)) [
  | inl t ↦
      let same : Some x ≡ Some value = rw t at h in
      let equal : x ≡ value = cc in
      (0, same, rw (sym equal) t)
  | inr f ↦
      let later : find test xs ≡ Some value = rw f at h in
      let p = passes-from_find test xs value later in
      (suc p.0, p.1, p.2)
]

-- Where there is no first element that passes, none does.
pub none-from_find : {X : Type 0} (test : X → Bool) (xs : List X) → find test xs ≡ None → list_any test xs ≡ false
none-from_find test [] h = refl
none-from_find test (x ∷ xs) h = elim (cases_Bool (test x)) [
  | inl t ↦ let same : Some x ≡ None = rw t at h in absurd cc
  | inr f ↦
      let later : find test xs ≡ None = rw f at h in
      or_from (test x) (list_any test xs) f (none-from_find test xs later)
]

-- No element passes where each one fails.
pub none-from_each : {X : Type 0} (test : X → Bool) (xs : List X) →
    ((place : ℕ) (value : X) → slice_get xs place ≡ Some value → test value ≡ true → ⊥) → list_any test xs ≡ false
none-from_each test xs h = false_from_ne_true (list_any test xs) (λ t. let p = passes-from_any test xs t in h p.place p.value p.at p.passes)

-- Two tests that agree at each element pass one or both none.
pub any-same : {X : Type 0} (p q : X → Bool) (xs : List X) →
    ((place : ℕ) (value : X) → slice_get xs place ≡ Some value → p value ≡ q value) → list_any p xs ≡ list_any q xs
any-same p q [] h = refl
any-same p q (x ∷ xs) h =
    ap (λ b. b || list_any p xs) (h 0 x refl) ∙ ap (λ b. q x || b) (any-same p q xs (λ place. h (suc place)))

-- All elements pass where each one does.
pub every-from_each : {X : Type 0} (test : X → Bool) (xs : List X) →
    ((place : ℕ) (value : X) → slice_get xs place ≡ Some value → test value ≡ true) → list_all test xs ≡ true
every-from_each test [] h = refl
every-from_each test (x ∷ xs) h = and_from (test x) (list_all test xs) (h 0 x refl) (every-from_each test xs (λ place. h (suc place)))

-- The order of a test of both does not matter.
pub and_swap : (a b : Bool) → (a && b) ≡ (b && a)
and_swap true true = refl
and_swap true false = refl
and_swap false true = refl
and_swap false false = refl

-- A choice of nothing and nothing is nothing.
pub none_either_way : {X : Type 0} (b : Bool) → cond {A = List X} b [] [] ≡ []
none_either_way true = refl
none_either_way false = refl

-- One of those that pass a test passes another one where one of all passes both.
pub any-filtered : {A : Type 0} (test keep : A → Bool) (xs : List A) → list_any test (filter keep xs) ≡ list_any (λ x. test x && keep x) xs
any-filtered test keep [] = refl
any-filtered {A} test keep (x ∷ xs) = by (keep x) (any-filtered test keep xs)
  where
    both : A → Bool
    both x = test x && keep x

    by : (b : Bool) → list_any test (filter keep xs) ≡ list_any both xs
        → list_any test (cond b (x ∷ filter keep xs) (filter keep xs)) ≡ ((test x && b) || list_any both xs)
    by true rest = ap (λ (r : Bool). test x || r) rest ∙ ap (λ (a : Bool). a || list_any both xs) (sym (and-true (test x)))
    by false rest = rest ∙ ap (λ (a : Bool). a || list_any both xs) (sym (and-false (test x)))
