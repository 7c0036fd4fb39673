-- Slots that are changed one after another.
use Rattle.std.proofs.Common.{◌≡◌, ℕ, zero, suc, ◌+◌, ◌<◌, ◌≤◌, List, [], ◌∷◌, length, get_or, set, Result, Ok, Err, OnErr, refl, subst, arith}
use Rattle.std.specs.Prelude.{⊤}
use Rattle.std.specs.List.{AllZip}

-- the first so many are changed, and the others are as before
abbrev pub OnWay : {A : Type 0} → (A → A → Type 0) → ℕ → List A → List A → Type 0
OnWay Is zero old new = new ≡ old
OnWay Is (suc n) [] [] = ⊤
OnWay Is (suc n) [] (y ∷ ys) = ⊥
OnWay Is (suc n) (x ∷ xs) [] = ⊥
OnWay Is (suc n) (x ∷ xs) (y ∷ ys) = Is x y × OnWay Is n xs ys

module _ {A : Type 0} (Is : A → A → Type 0) where
  one_more : (n : ℕ) (xs ys : List A) (d s : A) → n < length ys → OnWay Is n xs ys → Is (get_or ys n d) s → OnWay Is (suc n) xs (set ys n s)
  one_more zero xs [] d s lt h k = absurd (omega (arith, lt))
  one_more zero xs (y ∷ ys) d s lt h k = subst (λ (zs : List A). OnWay Is (suc zero) zs (s ∷ ys)) h (k, refl)
  one_more (suc n) [] [] d s lt h k = absurd (omega (arith, lt))
  one_more (suc n) [] (y ∷ ys) d s lt h k = absurd h
  one_more (suc n) (x ∷ xs) [] d s lt h k = absurd h
  one_more (suc n) (x ∷ xs) (y ∷ ys) d s lt h k = (h.0, one_more n xs ys d s (omega (arith, lt)) h.1 k)

  pub way_more : (n : ℕ) (xs ys : List A) (d s : A) → n < length ys → OnWay Is n xs ys → Is (get_or ys n d) s → OnWay Is (n + 1) xs (set ys n s)
  way_more n xs ys d s lt h k =
      let next : suc n ≡ n + 1 = omega arith in
      subst (λ (m : ℕ). OnWay Is m xs (set ys n s)) next (one_more n xs ys d s lt h k)

  pub way_end : (n : ℕ) (xs ys : List A) → length ys ≤ n → OnWay Is n xs ys → AllZip Is xs ys
  way_end zero xs [] le h = subst (λ (zs : List A). AllZip Is zs []) h tt
  way_end zero xs (y ∷ ys) le h = absurd (omega (arith, le))
  way_end (suc n) [] [] le h = tt
  way_end (suc n) [] (y ∷ ys) le h = absurd h
  way_end (suc n) (x ∷ xs) [] le h = absurd h
  way_end (suc n) (x ∷ xs) (y ∷ ys) le h = (h.0, way_end n xs ys (omega (arith, le)) h.1)

module _ {A : Type 0} (Is May : A → A → Type 0) (weaker : (x y : A) → Is x y → May x y) (itself : (x : A) → May x x) where
  all_same : (xs : List A) → AllZip May xs xs
  all_same [] = tt
  all_same (x ∷ xs) = (itself x, all_same xs)

  -- where one more is changed or not, and no other one
  pub way_cut : (n : ℕ) (xs ys : List A) (d s : A) → n < length ys → OnWay Is n xs ys → May (get_or ys n d) s → AllZip May xs (set ys n s)
  way_cut zero xs [] d s lt h k = absurd (omega (arith, lt))
  way_cut zero xs (y ∷ ys) d s lt h k = subst (λ (zs : List A). AllZip May zs (s ∷ ys)) h (k, all_same ys)
  way_cut (suc n) [] [] d s lt h k = absurd (omega (arith, lt))
  way_cut (suc n) [] (y ∷ ys) d s lt h k = absurd h
  way_cut (suc n) (x ∷ xs) [] d s lt h k = absurd h
  way_cut (suc n) (x ∷ xs) (y ∷ ys) d s lt h k = (weaker x y h.0, way_cut n xs ys d s (omega (arith, lt)) h.1 k)

pub on_err : {X E : Type 0} (r : Result X E) (P : Type 0) → P → OnErr r P
on_err (Ok x) P p = tt
on_err (Err e) P p = p
