-- What is among the elements of a list, and lists in which each is there once.
use Rattle.std.proofs.Common.{◌≡◌, ◌⊎◌, inl, inr, zero, suc, Bool, true, false, cond, List, [], ◌∷◌, ◌++◌, map, Some, refl, sym, ap, subst, arith}
use Rattle.std.specs.Prelude.{find}
use Rattle.std.specs.List.{Contains}
use Rattle.mv_base.specs.Lists.{Among}

-- ---- what is among them

pub among_either : {X : Type 0} (x : X) (xs ys : List X) → Among x (xs ++ ys) → Among x xs ⊎ Among x ys
among_either x [] ys a = inr a
among_either x (y ∷ xs) ys (inl e) = inl (inl e)
among_either x (y ∷ xs) ys (inr a) = elim (among_either x xs ys a) [ inl h ↦ inl (inr h) | inr h ↦ inr h ]

pub among_front : {X : Type 0} (x : X) (xs ys : List X) → Among x xs → Among x (xs ++ ys)
among_front x [] ys a = absurd a
among_front x (y ∷ xs) ys (inl e) = inl e
among_front x (y ∷ xs) ys (inr a) = inr (among_front x xs ys a)

pub among_back : {X : Type 0} (x : X) (xs ys : List X) → Among x ys → Among x (xs ++ ys)
among_back x [] ys a = a
among_back x (y ∷ xs) ys a = inr (among_back x xs ys a)

pub among_map : {X Y : Type 0} (f : X → Y) (x : X) (xs : List X) → Among x xs → Among (f x) (map f xs)
among_map f x [] a = absurd a
among_map f x (y ∷ xs) (inl e) = inl (ap f e)
among_map f x (y ∷ xs) (inr a) = inr (among_map f x xs a)

pub mapped : {X Y : Type 0} (f : X → Y) (y : Y) (xs : List X) → Among y (map f xs) → (x : X) × Among x xs × (y ≡ f x)
mapped f y [] a = absurd a
mapped f y (x ∷ xs) (inl e) = (x, inl refl, e)
mapped f y (x ∷ xs) (inr a) = (let found = mapped f y xs a in (found.0, inr found.1, found.2))

pub among_contained : {X : Type 0} (xs : List X) (x : X) → Contains xs x → Among x xs
among_contained [] x (k, lt, e) = absurd (omega (arith, lt))
among_contained (y ∷ xs) x (zero, lt, e) = inl (sym e)
among_contained (y ∷ xs) x (suc k, lt, e) = inr (among_contained xs x (k, omega (arith, lt), e))

pub contained : {X : Type 0} (xs : List X) (x : X) → Among x xs → Contains xs x
contained [] x a = absurd a
contained (y ∷ xs) x (inl e) = (zero, omega arith, sym e)
contained (y ∷ xs) x (inr a) = (let found = contained xs x a in let lt = found.1 in (suc found.0, omega (arith, lt), found.2))

-- one that passes a test is found, if not an earlier one
pub one_found : {X : Type 0} (test : X → Bool) (x : X) (xs : List X) → Among x xs → test x ≡ true
    → (y : X) × (find test xs ≡ Some y) × (test y ≡ true)
one_found test x [] a passes = absurd a
one_found {X} test x (y ∷ xs) a passes = by (test y) refl (λ h. one_found test x xs h passes) a
  where
    by : (b : Bool) → test y ≡ b → (Among x xs → (z : X) × (find test xs ≡ Some z) × (test z ≡ true)) → Among x (y ∷ xs)
        → (z : X) × (cond b (Some y) (find test xs) ≡ Some z) × (test z ≡ true)
    by true e rest h = (y, refl, e)
    by false e rest (inl same) = absurd (let t = ap test same in cc)
    by false e rest (inr h) = rest h

-- ---- each is there once

abbrev pub Once : {X : Type 0} → List X → Type 0
Once [] = Unit {0}
Once (x ∷ xs) = (Among x xs → ⊥) × Once xs

-- lists of which none is among the other
pub once_both : {X : Type 0} (xs ys : List X) → Once xs → Once ys → ((x : X) → Among x xs → Among x ys → ⊥) → Once (xs ++ ys)
once_both [] ys p q h = q
once_both (x ∷ xs) ys p q h = (
  (λ a. elim (among_either x xs ys a) [ inl own ↦ p.0 own | inr other ↦ h x (inl refl) other ]),
  once_both xs ys p.1 q (λ y own other. h y (inr own) other),
)

-- none of what comes before it is the same
pub not_before : {X : Type 0} (before after : List X) (x : X) → Once (before ++ x ∷ after) → Among x before → ⊥
not_before [] after x once a = a
not_before (y ∷ before) after x once (inl e) = once.0 (subst (λ z. Among z (before ++ x ∷ after)) e (among_back x before (x ∷ after) (inl refl)))
not_before (y ∷ before) after x once (inr a) = not_before before after x once.1 a
