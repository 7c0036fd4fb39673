-- What is among the lists that definitions make.
use Rattle.std.proofs.Common.{◌≡◌, Bool, true, false, cond, ◌⊎◌, inl, inr, List, [], ◌∷◌, ◌++◌, map, Option, Some, None, refl, sym, ap, subst, ◌∙◌}
use Rattle.std.specs.List.{filter, flat_map, list_any}
use Rattle.std.proofs.lemmas.Bool.{or_cases, or_left, or_right}
use Rattle.mv_base.specs.Number.{only_if}
use Rattle.edge_defs.specs.choice_defs.Choice as choice
use Rattle.selective_defs.specs.Selective.{Among}
use Rattle.edge_defs.specs.Imported.{found_in}

pub not_both : (b : Bool) → b ≡ true → b ≡ false → ⊥
not_both b h k = absurd (let bad : true ≡ false = sym h ∙ k in cc)

-- a value that passes a test goes on
pub passes : {A : Type 0} (b : Bool) (x : A) → b ≡ true → only_if b x ≡ Some x
passes true x h = refl
passes false x h = absurd (let bad : false ≡ true = h in cc)

pub among_choice : {X : Type 0} (x : X) (xs : List X) → choice.Among x xs → Among x xs
among_choice x [] a = absurd a
among_choice x (y ∷ ys) (inl e) = inl e
among_choice x (y ∷ ys) (inr a) = inr (among_choice x ys a)

-- ---- one after another

pub among_front : {X : Type 0} (x : X) (xs ys : List X) → Among x xs → Among x (xs ++ ys)
among_front x [] ys a = absurd a
among_front x (y ∷ xs) ys (inl e) = inl e
among_front x (y ∷ xs) ys (inr a) = inr (among_front x xs ys a)

pub among_after : {X : Type 0} (x : X) (xs ys : List X) → Among x ys → Among x (xs ++ ys)
among_after x [] ys a = a
among_after x (y ∷ xs) ys a = inr (among_after x xs ys a)

pub among_either : {X : Type 0} (x : X) (xs ys : List X) → Among x (xs ++ ys) → Among x xs ⊎ Among x ys
among_either x [] ys a = inr a
among_either x (y ∷ xs) ys (inl e) = inl (inl e)
among_either x (y ∷ xs) ys (inr a) = elim (among_either x xs ys a) [ inl b ↦ inl (inr b) | inr b ↦ inr b ]

-- ---- each changed

pub among_map : {X Y : Type 0} (f : X → Y) (x : X) (xs : List X) → Among x xs → Among (f x) (map f xs)
among_map f x [] a = absurd a
among_map f x (y ∷ xs) (inl e) = inl (ap f e)
among_map f x (y ∷ xs) (inr a) = inr (among_map f x xs a)

pub map_among : {X Y : Type 0} (f : X → Y) (y : Y) (xs : List X) → Among y (map f xs) → (x : X) × Among x xs × (y ≡ f x)
map_among f y [] a = absurd a
map_among f y (x ∷ xs) (inl e) = (x, inl refl, e)
map_among f y (x ∷ xs) (inr a) = let b = map_among f y xs a in (b.0, inr b.1, b.2)

pub among_flat_map : {X Y : Type 0} (f : X → List Y) (x : X) (y : Y) (xs : List X) → Among x xs → Among y (f x) → Among y (flat_map f xs)
among_flat_map f x y [] a b = absurd a
among_flat_map f x y (z ∷ xs) (inl e) b = among_front y (f z) (flat_map f xs) (subst (λ w. Among y (f w)) e b)
among_flat_map f x y (z ∷ xs) (inr a) b = among_after y (f z) (flat_map f xs) (among_flat_map f x y xs a b)

pub flat_map_among : {X Y : Type 0} (f : X → List Y) (y : Y) (xs : List X) → Among y (flat_map f xs) → (x : X) × Among x xs × Among y (f x)
flat_map_among f y [] a = absurd a
flat_map_among f y (x ∷ xs) a = elim (among_either y (f x) (flat_map f xs) a) [
  | inl b ↦ (x, inl refl, b)
  | inr b ↦ let c = flat_map_among f y xs b in (c.0, inr c.1, c.2)
]

-- ---- those that pass

filter_one : {X : Type 0} (p : X → Bool) (x y : X) (ys : List X) (t : Bool) → p y ≡ t → (Among x (filter p ys) → Among x ys × (p x ≡ true))
    → Among x (cond t (y ∷ filter p ys) (filter p ys)) → Among x (y ∷ ys) × (p x ≡ true)
filter_one p x y ys true h k (inl e) = (inl e, ap p e ∙ h)
filter_one p x y ys true h k (inr a) = let both = k a in (inr both.0, both.1)
filter_one p x y ys false h k a = let both = k a in (inr both.0, both.1)

pub filter_among : {X : Type 0} (p : X → Bool) (x : X) (xs : List X) → Among x (filter p xs) → Among x xs × (p x ≡ true)
filter_among p x [] a = absurd a
filter_among p x (y ∷ ys) a = filter_one p x y ys (p y) refl (filter_among p x ys) a

kept_one : {X : Type 0} (p : X → Bool) (x y : X) (ys : List X) (t : Bool) → p y ≡ t → p x ≡ true → (Among x ys → Among x (filter p ys))
    → Among x (y ∷ ys) → Among x (cond t (y ∷ filter p ys) (filter p ys))
kept_one p x y ys true h r k (inl e) = inl e
kept_one p x y ys true h r k (inr a) = inr (k a)
kept_one p x y ys false h r k (inl e) = absurd (not_both (p y) (ap p (sym e) ∙ r) h)
kept_one p x y ys false h r k (inr a) = k a

pub among_filter : {X : Type 0} (p : X → Bool) (x : X) (xs : List X) → p x ≡ true → Among x xs → Among x (filter p xs)
among_filter p x [] r a = absurd a
among_filter p x (y ∷ ys) r a = kept_one p x y ys (p y) refl r (among_filter p x ys r) a

pub any_from : {X : Type 0} (p : X → Bool) (x : X) (xs : List X) → Among x xs → p x ≡ true → list_any p xs ≡ true
any_from p x [] a h = absurd a
any_from p x (y ∷ ys) (inl e) h = or_left (p y) (list_any p ys) (ap p (sym e) ∙ h)
any_from p x (y ∷ ys) (inr a) h = or_right (p y) (list_any p ys) (any_from p x ys a h)

pub any_among : {X : Type 0} (p : X → Bool) (xs : List X) → list_any p xs ≡ true → (x : X) × Among x xs × (p x ≡ true)
any_among p [] h = absurd cc
any_among p (y ∷ ys) h = elim (or_cases (p y) (list_any p ys) h) [
  | inl t ↦ (y, inl refl, t)
  | inr t ↦ let b = any_among p ys t in (b.0, inr b.1, b.2)
]

-- ---- those that are found

abbrev found_one : {B : Type 0} → Option B → List B → List B
found_one None rest = rest
found_one (Some y) rest = y ∷ rest

pub found_step : {A B : Type 0} (f : A → Option B) (x : A) (xs : List A) (o : Option B) → f x ≡ o → found_in f (x ∷ xs) ≡ found_one o (found_in f xs)
found_step f x xs None e = ap (λ (o : Option _). elim o [ None ↦ found_in f xs | Some found ↦ found ∷ found_in f xs ]) e
found_step f x xs (Some y) e = ap (λ (o : Option _). elim o [ None ↦ found_in f xs | Some found ↦ found ∷ found_in f xs ]) e

among_one : {A B : Type 0} (x : A) (y : B) (xs : List A) (f : A → Option B) (z : A) (o : Option B) → f z ≡ o → f x ≡ Some y
    → (Among x xs → Among y (found_in f xs)) → Among x (z ∷ xs) → Among y (found_one o (found_in f xs))
among_one x y xs f z None e h k (inl same) = absurd (let bad : None ≡ Some y = sym e ∙ ap f (sym same) ∙ h in cc)
among_one x y xs f z None e h k (inr a) = k a
among_one x y xs f z (Some w) e h k (inl same) = inl (let both : Some y ≡ Some w = sym h ∙ ap f same ∙ e in cc)
among_one x y xs f z (Some w) e h k (inr a) = inr (k a)

pub among_found : {A B : Type 0} (f : A → Option B) (x : A) (y : B) (xs : List A) → Among x xs → f x ≡ Some y → Among y (found_in f xs)
among_found f x y [] a h = absurd a
among_found f x y (z ∷ xs) a h =
    subst (Among y) (sym (found_step f z xs (f z) refl)) (among_one x y xs f z (f z) refl h (λ b. among_found f x y xs b h) a)

one_among : {A B : Type 0} (f : A → Option B) (y : B) (z : A) (xs : List A) (o : Option B) → f z ≡ o
    → (Among y (found_in f xs) → (x : A) × Among x xs × (f x ≡ Some y)) → Among y (found_one o (found_in f xs))
    → (x : A) × Among x (z ∷ xs) × (f x ≡ Some y)
one_among f y z xs None e k a = let b = k a in (b.0, inr b.1, b.2)
one_among f y z xs (Some w) e k (inl same) = (z, inl refl, e ∙ ap (λ v. Some v) (sym same))
one_among f y z xs (Some w) e k (inr a) = let b = k a in (b.0, inr b.1, b.2)

pub found_among : {A B : Type 0} (f : A → Option B) (y : B) (xs : List A) → Among y (found_in f xs) → (x : A) × Among x xs × (f x ≡ Some y)
found_among f y [] a = absurd a
found_among f y (z ∷ xs) a = one_among f y z xs (f z) refl (found_among f y xs) (subst (Among y) (found_step f z xs (f z) refl) a)

-- nothing is found where nothing is to be found
pub found_none : {A B : Type 0} (f : A → Option B) (xs : List A) → ((x : A) → Among x xs → f x ≡ None) → found_in f xs ≡ []
found_none f [] none = refl
found_none f (x ∷ xs) none = found_step f x xs None (none x (inl refl)) ∙ found_none f xs (λ y a. none y (inr a))

pub found_after : {A B : Type 0} (f : A → Option B) (xs ys : List A) → ((x : A) → Among x xs → f x ≡ None) → found_in f (xs ++ ys) ≡ found_in f ys
found_after f [] ys none = refl
found_after f (x ∷ xs) ys none = found_step f x (xs ++ ys) None (none x (inl refl)) ∙ found_after f xs ys (λ y a. none y (inr a))
