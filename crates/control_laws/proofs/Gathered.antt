-- What is gathered along a list of which each element has its own part.
use Rattle.std.proofs.Common.{◌≡◌, Bool, true, false, cond, ◌||◌, inl, inr, List, [], ◌∷◌, ◌++◌, map, flat_map, Option, Some, None, refl, ap, ◌∙◌}
use Rattle.std.specs.List.{list_any}
use Rattle.std.specs.Ordering.{eq_by_cmp}
use Rattle.std.specs.declared.cmp.Ordering.{Ordering}
use Rattle.std.specs.Cmp.{IsTotalOrder}
use Rattle.std.specs.FinMap as maps
use Rattle.std.specs.Option.{option_or}
use Rattle.std.specs.FinMap.{find}
use Rattle.std.specs.FinSet as sets
use Rattle.std.proofs.lemmas.List.Folds.{list_any-append}
use Rattle.mv_base.specs.Lists.{Among}

-- the parts, one after another
abbrev pub gathered : {A X : Type 0} → X → (X → X → X) → (A → X) → List A → X
gathered none or part [] = none
gathered none or part (x ∷ xs) = or (part x) (gathered none or part xs)

-- nothing changes what it is put beside
pub record HasNone {X : Type 0} (none : X) (or : X → X → X) : Type 0 where
  pub left : (x : X) → or none x ≡ x
  pub right : (x : X) → or x none ≡ x

-- ---- of options and of truth values

pub options : {X : Type 0} → HasNone {X = Option X} None option_or
options {X} = record { left = λ x. refl; right = right }
  where
    right : (x : Option X) → option_or x None ≡ x
    right None = refl
    right (Some x) = refl

pub truths : HasNone false (λ a b. a || b)
truths = record { left = λ x. refl; right = right }
  where
    right : (x : Bool) → (x || false) ≡ x
    right true = refl
    right false = refl

-- ---- elements that have something

module _ {A X : Type 0} {none : X} {or : X → X → X} (laws : HasNone none or) where
  abbrev all : (A → X) → List A → X
  all part xs = gathered none or part xs

  pub gathered_none : (part : A → X) (xs : List A) → ((x : A) → Among x xs → part x ≡ none) → all part xs ≡ none
  gathered_none part [] h = refl
  gathered_none part (x ∷ xs) h =
      ap (λ (y : X). or y (all part xs)) (h x (inl refl)) ∙ laws.left (all part xs) ∙ gathered_none part xs (λ y a. h y (inr a))

  -- where one alone has something
  pub gathered_one : (part : A → X) (before : List A) (x : A) (after : List A) → ((y : A) → Among y before → part y ≡ none)
      → ((y : A) → Among y after → part y ≡ none)
      → all part (before ++ x ∷ after) ≡ part x
  gathered_one part [] x after h k = ap (or (part x)) (gathered_none part after k) ∙ laws.right (part x)
  gathered_one part (y ∷ before) x after h k =
      ap (λ (z : X). or z (all part (before ++ x ∷ after))) (h y (inl refl)) ∙ laws.left (all part (before ++ x ∷ after))
      ∙ gathered_one part before x after (λ z a. h z (inr a)) k

module _ {A X : Type 0} (none : X) (or : X → X → X) where
  -- where one is changed whose part is as before
  pub gathered_same : (part : A → X) (before : List A) (x y : A) (after : List A) → part x ≡ part y
      → gathered none or part (before ++ x ∷ after) ≡ gathered none or part (before ++ y ∷ after)
  gathered_same part [] x y after e = ap (λ (z : X). or z (gathered none or part after)) e
  gathered_same part (z ∷ before) x y after e = ap (or (part z)) (gathered_same part before x y after e)

  pub gathered_alike : (one other : A → X) (xs : List A) → ((x : A) → Among x xs → one x ≡ other x)
      → gathered none or one xs ≡ gathered none or other xs
  gathered_alike one other [] h = refl
  gathered_alike one other (x ∷ xs) h =
      ap (λ (y : X). or y (gathered none or one xs)) (h x (inl refl)) ∙ ap (or (other x)) (gathered_alike one other xs (λ y a. h y (inr a)))

  pub gathered_map : {B : Type 0} (part : A → X) (f : B → A) (xs : List B) → gathered none or part (map f xs) ≡ gathered none or (λ x. part (f x)) xs
  gathered_map part f [] = refl
  gathered_map part f (x ∷ xs) = ap (or (part (f x))) (gathered_map part f xs)

-- ---- maps and sets

module _ {K V : Type 0} (R : K → K → Ordering) where
  head_else : (b : Bool) (v : V) (o p : Option V) → cond b (Some v) (option_or o p) ≡ option_or (cond b (Some v) o) p
  head_else true v o p = refl
  head_else false v o p = refl

  pub find-append : (q : K) (xs ys : List (K × V)) → find R q (xs ++ ys) ≡ option_or (find R q xs) (find R q ys)
  find-append q [] ys = refl
  find-append q (e ∷ xs) ys =
      ap (cond (eq_by_cmp R q e.0) (Some e.1)) (find-append q xs ys) ∙ head_else (eq_by_cmp R q e.0) e.1 (find R q xs) (find R q ys)

  pub find-gathered : {A : Type 0} (list : A → List (K × V)) (q : K) (xs : List A)
      → find R q (flat_map list xs) ≡ gathered None option_or (λ x. find R q (list x)) xs
  find-gathered list q [] = refl
  find-gathered list q (x ∷ xs) = find-append q (list x) (flat_map list xs) ∙ ap (option_or (find R q (list x))) (find-gathered list q xs)

pub get-gathered : {K V A : Type 0} {R : K → K → Ordering} → IsTotalOrder R → (list : A → List (K × V)) (q : K) (xs : List A)
    → maps.get (maps.from_entries {R = R} (flat_map list xs)) q ≡ gathered None option_or (λ x. find R q (list x)) xs
get-gathered {R = R} total list q xs = maps.get-from_entries total (flat_map list xs) q ∙ find-gathered R list q xs

pub any-gathered : {K A : Type 0} (p : K → Bool) (list : A → List K) (xs : List A)
    → list_any p (flat_map list xs) ≡ gathered false (λ a b. a || b) (λ x. list_any p (list x)) xs
any-gathered p list [] = refl
any-gathered p list (x ∷ xs) = list_any-append p (list x) (flat_map list xs) ∙ ap (λ (b : Bool). list_any p (list x) || b) (any-gathered p list xs)

pub contains-gathered : {K A : Type 0} {R : K → K → Ordering} → IsTotalOrder R → (list : A → List K) (q : K) (xs : List A)
    → sets.contains (sets.from_list {R = R} (flat_map list xs)) q ≡ gathered false (λ a b. a || b) (λ x. list_any (eq_by_cmp R q) (list x)) xs
contains-gathered {R = R} total list q xs = sets.contains-from_list total (flat_map list xs) q ∙ any-gathered (eq_by_cmp R q) list xs
