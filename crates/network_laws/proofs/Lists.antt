-- What holds of each element of a list.
use Rattle.std.proofs.Common.{◌≡◌, ℕ, zero, suc, Bool, true, false, cond, inl, inr, List, [], ◌∷◌, ◌++◌, map, filter, flat_map, length, slice_get, slice_set, Option, Some, None, refl, ap, subst}
use Rattle.std.specs.List.{AllByRecursion, list_any}
use Rattle.std.proofs.lemmas.Bool.{or_cases}
use Rattle.std.proofs.lemmas.Option.{same_Some, none-some}
use Rattle.network_defs.specs.edge_defs.Imported.{found_in, only_one}

module _ {X : Type 0} (P : X → Type 0) where
  pub each_append : (xs ys : List X) → AllByRecursion P xs → AllByRecursion P ys → AllByRecursion P (xs ++ ys)
  each_append [] ys p q = q
  each_append (x ∷ xs) ys p q = (p.0, each_append xs ys p.1 q)

  pub each_of : ((x : X) → P x) → (xs : List X) → AllByRecursion P xs
  each_of p [] = tt
  each_of p (x ∷ xs) = (p x, each_of p xs)

  pub each_map : {Y : Type 0} (f : Y → X) (ys : List Y) → AllByRecursion (λ y. P (f y)) ys → AllByRecursion P (map f ys)
  each_map f [] p = tt
  each_map f (y ∷ ys) p = (p.0, each_map f ys p.1)

  pub each_changed : (f : X → X) → ((x : X) → P x → P (f x)) → (xs : List X) → AllByRecursion P xs → AllByRecursion P (map f xs)
  each_changed f keeps [] p = tt
  each_changed f keeps (x ∷ xs) p = (keeps x p.0, each_changed f keeps xs p.1)

  pub each_set : (xs : List X) (k : ℕ) (x : X) → AllByRecursion P xs → P x → AllByRecursion P (slice_set xs k x)
  each_set [] k x p q = tt
  each_set (y ∷ ys) zero x p q = (q, p.1)
  each_set (y ∷ ys) (suc k) x p q = (p.0, each_set ys k x p.1 q)

  pub each_at : (xs : List X) (k : ℕ) (x : X) → AllByRecursion P xs → slice_get xs k ≡ Some x → P x
  each_at [] k x p e = absurd (none-some x e)
  each_at (y ∷ ys) zero x p e = subst P (same_Some y x e) p.0
  each_at (y ∷ ys) (suc k) x p e = each_at ys k x p.1 e

  pub each_flat : {Y : Type 0} (f : Y → List X) (ys : List Y) → AllByRecursion (λ y. AllByRecursion P (f y)) ys → AllByRecursion P (flat_map f ys)
  each_flat f [] p = tt
  each_flat f (y ∷ ys) p = each_append (f y) (flat_map f ys) p.0 (each_flat f ys p.1)

  -- an element among others
  pub each_inner : (before : List X) (x : X) (thereafter : List X) → AllByRecursion P (before ++ x ∷ thereafter) → P x
  each_inner [] x thereafter p = p.0
  each_inner (y ∷ ys) x thereafter p = each_inner ys x thereafter p.1

  pub each_filter : (test : X → Bool) (xs : List X) → AllByRecursion P xs → AllByRecursion P (filter test xs)
  each_filter test [] p = tt
  each_filter test (x ∷ xs) p =
      elim (test x) as (λ b. AllByRecursion P (cond b (x ∷ filter test xs) (filter test xs))) [
        | true ↦ (p.0, each_filter test xs p.1)
        | false ↦ each_filter test xs p.1
      ]

pub each_front : {X : Type 0} (P : X → Type 0) (xs ys : List X) → AllByRecursion P (xs ++ ys) → AllByRecursion P xs
each_front P [] ys h = tt
each_front P (x ∷ xs) ys h = (h.0, each_front P xs ys h.1)

pub each_weaker : {X : Type 0} (P Q : X → Type 0) → ((x : X) → P x → Q x) → (xs : List X) → AllByRecursion P xs → AllByRecursion Q xs
each_weaker P Q weaker [] p = tt
each_weaker P Q weaker (x ∷ xs) p = (weaker x p.0, each_weaker P Q weaker xs p.1)

pub length_set : {X : Type 0} (xs : List X) (k : ℕ) (x : X) → length (slice_set xs k x) ≡ length xs
length_set [] k x = refl
length_set (y ∷ ys) zero x = refl
length_set (y ∷ ys) (suc k) x = ap suc (length_set ys k x)

pub length_map : {X Y : Type 0} (f : X → Y) (xs : List X) → length (map f xs) ≡ length xs
length_map f [] = refl
length_map f (x ∷ xs) = ap suc (length_map f xs)

pub each_filtered : {X : Type 0} (P : X → Type 0) (test : X → Bool) (xs : List X) → AllByRecursion P xs
    → AllByRecursion (λ x. P x × (test x ≡ true)) (filter test xs)
each_filtered P test [] h = tt
each_filtered P test (x ∷ xs) h =
    let rest = each_filtered P test xs h.1 in
    elim (test x) as (λ b. test x ≡ b → AllByRecursion (λ y. P y × (test y ≡ true)) (cond b (x ∷ filter test xs) (filter test xs))) [
      | true ↦ λ e. ((h.0, e), rest)
      | false ↦ λ e. rest
    ] refl

-- what is found in a list meets what each thing found in an element meets
pub each_found : {X Y : Type 0} (P : X → Type 0) (Q : Y → Type 0) (look : X → Option Y) → ((x : X) (y : Y) → P x → look x ≡ Some y → Q y) →
    (xs : List X) → AllByRecursion P xs → AllByRecursion Q (found_in look xs)
each_found P Q look each [] h = tt
each_found P Q look each (x ∷ xs) h =
    let rest = each_found P Q look each xs h.1 in
    elim (look x) as (λ (o : Option _). look x ≡ o → AllByRecursion Q (elim o [ None ↦ found_in look xs | Some found ↦ found ∷ found_in look xs ])) [
      | None ↦ λ e. rest
      | Some found ↦ λ e. (each x found h.0 e, rest)
    ] refl

pub only_meets : {X : Type 0} (Q : X → Type 0) (xs : List X) (x : X) → AllByRecursion Q xs → only_one xs ≡ Some x → Q x
only_meets Q [] x h e = absurd cc
only_meets Q (y ∷ []) x h e = let same : y ≡ x = cc in subst Q same h.0
only_meets Q (y ∷ z ∷ zs) x h e = absurd cc

pub passing : {X : Type 0} (test : X → Bool) (xs : List X) → list_any test xs ≡ true → (x : X) × (test x ≡ true)
passing test [] h = absurd cc
passing test (x ∷ xs) h = elim (or_cases (test x) (list_any test xs) h) [ inl e ↦ (x, e) | inr e ↦ passing test xs e ]

-- what holds where something is found
abbrev pub IfFound : {X : Type 0} → (X → Type 0) → Option X → Type 0
IfFound P None = Unit {0}
IfFound P (Some x) = P x
