-- What holds of each element of a list.
use Rattle.std.proofs.Common.{◌≡◌, ℕ, zero, suc, Bool, true, false, cond, List, [], ◌∷◌, ◌++◌, map, filter, take, drop, slice_get, Some, refl, subst}
use Rattle.std.specs.List.{AllByRecursion, remove}
use Rattle.data_plane.proofs.link_copies.Basics.{some_equal, not_some}

module _ {X : Type 0} (P : X → Type 0) where
  pub all_at : (xs : List X) (i : ℕ) (x : X) → AllByRecursion P xs → slice_get xs i ≡ Some x → P x
  all_at [] i x all is = absurd (not_some x is)
  all_at (y ∷ ys) zero x all is = subst P (some_equal y x is) all.0
  all_at (y ∷ ys) (suc i) x all is = all_at ys i x all.1 is

  pub all_from : (xs : List X) → ((i : ℕ) (x : X) → slice_get xs i ≡ Some x → P x) → AllByRecursion P xs
  all_from [] each = tt
  all_from (y ∷ ys) each = (each 0 y refl, all_from ys (λ i. each (suc i)))

  pub all_append : (xs ys : List X) → AllByRecursion P xs → AllByRecursion P ys → AllByRecursion P (xs ++ ys)
  all_append [] ys all more = more
  all_append (x ∷ xs) ys all more = (all.0, all_append xs ys all.1 more)

  all_take : (xs : List X) (i : ℕ) → AllByRecursion P xs → AllByRecursion P (take i xs)
  all_take xs zero all = tt
  all_take [] (suc i) all = tt
  all_take (x ∷ xs) (suc i) all = (all.0, all_take xs i all.1)

  all_drop : (xs : List X) (i : ℕ) → AllByRecursion P xs → AllByRecursion P (drop i xs)
  all_drop xs zero all = all
  all_drop [] (suc i) all = tt
  all_drop (x ∷ xs) (suc i) all = all_drop xs i all.1

  pub all_remove : (xs : List X) (i : ℕ) → AllByRecursion P xs → AllByRecursion P (remove xs i)
  all_remove xs i all = all_append (take i xs) (drop (suc i) xs) (all_take xs i all) (all_drop xs (suc i) all)

  pub all_filter : (test : X → Bool) (xs : List X) → AllByRecursion P xs → AllByRecursion P (filter test xs)
  all_filter test [] all = tt
  all_filter test (x ∷ xs) all = by (test x) (all_filter test xs all.1)
    where
      by : (b : Bool) → AllByRecursion P (filter test xs) → AllByRecursion P (cond b (x ∷ filter test xs) (filter test xs))
      by true rest = (all.0, rest)
      by false rest = rest

  pub all_map : {Y : Type 0} (f : Y → X) (ys : List Y) → ((y : Y) → P (f y)) → AllByRecursion P (map f ys)
  all_map f [] each = tt
  all_map f (y ∷ ys) each = (each y, all_map f ys each)

pub all_weaker : {X : Type 0} (P Q : X → Type 0) (xs : List X) → ((x : X) → P x → Q x) → AllByRecursion P xs → AllByRecursion Q xs
all_weaker P Q [] each all = tt
all_weaker P Q (x ∷ xs) each all = (each x all.0, all_weaker P Q xs each all.1)
