-- Lists with one more element at the end.
use Rattle.std.proofs.Common.{◌≡◌, ℕ, ◌+◌, ◌<◌, ◌≤◌, ◌⊎◌, inl, inr, Bool, true, false, List, [], ◌∷◌, ◌++◌, length, refl, cond, arith, suc, zero, slice_get, Some, None, length-append}
use Rattle.std.specs.Prelude.{All, AllPairs, count_by, option_map}
use Rattle.std.specs.Map.{lookup}
use Rattle.std.proofs.lemmas.List.Quantifiers.{all_pairs_push}
use Rattle.std.proofs.lemmas.List.Sums.{sum_by-append}

pub longer : {X : Type 0} (xs : List X) (y : X) → length (xs ++ y ∷ []) ≡ length xs + 1
longer xs y = length-append xs (y ∷ [])

-- Each place keeps what it has.
pub kept_get : {X : Type 0} (xs : List X) (y : X) (k : ℕ) → k < length xs → slice_get (xs ++ y ∷ []) k ≡ slice_get xs k
kept_get [] y k h = absurd (omega arith)
kept_get (x ∷ xs) y zero h = refl
kept_get (x ∷ xs) y (suc k) h = kept_get xs y k (omega arith)

pub still_get : {X : Type 0} (xs : List X) (y : X) (k : ℕ) (z : X) → slice_get xs k ≡ Some z → slice_get (xs ++ y ∷ []) k ≡ Some z
still_get [] y k z h = absurd cc
still_get (x ∷ xs) y zero z h = h
still_get (x ∷ xs) y (suc k) z h = still_get xs y k z h

-- What is told of a place was told of it before, or is told of the new element.
pub told_get : {X A : Type 0} (f : X → A) (xs : List X) (y : X) (k : ℕ) (a : A) → option_map f (slice_get (xs ++ y ∷ []) k) ≡ Some a
    → (option_map f (slice_get xs k) ≡ Some a) ⊎ ((k ≡ length xs) × (f y ≡ a))
told_get f [] y zero a h = inr (refl, cc)
told_get f [] y (suc k) a h = absurd cc
told_get f (x ∷ xs) y zero a h = inl h
told_get f (x ∷ xs) y (suc k) a h = elim (told_get f xs y k a h) [ inl old ↦ inl old | inr new ↦ inr (omega (arith, new.0), new.1) ]

-- Each pair is one of the pairs there were, or ends with the new element.
pub one_more_pair : {X : Type 0} (R : X → X → Type 0) (xs : List X) (y : X) → AllPairs R xs → All (λ x. R x y) xs → AllPairs R (xs ++ y ∷ [])
one_more_pair R xs y h new = all_pairs_push R xs y h new

-- Pairs of elements that have a property.
pub pairs_with : {X : Type 0} (P : X → Type 0) (R S : X → X → Type 0) (xs : List X) → ((x y : X) → P x → P y → R x y → S x y) → All P xs
    → AllPairs R xs → AllPairs S xs
pairs_with P R S xs f all h = λ i j d lt within. f _ _ (all i d (omega arith)) (all j d within) (h i j d lt within)

-- One more that passes a test only where there is room.
pub one_more_counted : {X : Type 0} (p : X → Bool) (most : ℕ) (xs : List X) (y : X) → count_by p xs ≤ most → (p y ≡ true → count_by p xs < most)
    → count_by p (xs ++ y ∷ []) ≤ most
one_more_counted p most xs y few room =
    let sum : count_by p (xs ++ y ∷ []) ≡ count_by p xs + count_by p (y ∷ []) = sum_by-append _ xs (y ∷ []) in
    by (p y) refl sum
  where
    by : (b : Bool) → p y ≡ b → count_by p (xs ++ y ∷ []) ≡ count_by p xs + count_by p (y ∷ []) → count_by p (xs ++ y ∷ []) ≤ most
    by true e sum = let one : count_by p (y ∷ []) ≡ 1 = rw e refl in omega (arith, room e)
    by false e sum = let none : count_by p (y ∷ []) ≡ 0 = rw e refl in omega arith

-- A key that is found is found still.
pub still_found : {K X : Type 0} (test : K → Bool) (es : List (K × X)) (e : K × X) (v : X) → lookup test es ≡ Some v
    → lookup test (es ++ e ∷ []) ≡ Some v
still_found test [] e v h = absurd cc
still_found test (x ∷ es) e v h = by (test x.0) (still_found test es e v) h
  where
    by : (b : Bool) → (lookup test es ≡ Some v → lookup test (es ++ e ∷ []) ≡ Some v) → cond b (Some x.1) (lookup test es) ≡ Some v
        → cond b (Some x.1) (lookup test (es ++ e ∷ [])) ≡ Some v
    by true more h = h
    by false more h = more h

-- The new key is found, where none passed before.
pub new_found : {K X : Type 0} (test : K → Bool) (es : List (K × X)) (key : K) (v : X) → lookup test es ≡ None → test key ≡ true
    → lookup test (es ++ (key, v) ∷ []) ≡ Some v
new_found test [] key v none passes = rw passes refl
new_found test (x ∷ es) key v none passes = by (test x.0) (λ rest. new_found test es key v rest passes) none
  where
    by : (b : Bool) → (lookup test es ≡ None → lookup test (es ++ (key, v) ∷ []) ≡ Some v) → cond b (Some x.1) (lookup test es) ≡ None
        → cond b (Some x.1) (lookup test (es ++ (key, v) ∷ [])) ≡ Some v
    by true more h = absurd cc
    by false more h = more h
