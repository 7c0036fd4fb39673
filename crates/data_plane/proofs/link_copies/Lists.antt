-- Counts of copies, as a list of them changes.
use Rattle.std.proofs.Common.{◌≡◌, ℕ, zero, suc, ◌+◌, ◌≤◌, Bool, true, false, cond, List, [], ◌∷◌, ◌++◌, length, slice_get, Option, Some, None, option_map, refl, sym, ap, ◌∙◌, arith}
use Rattle.std.specs.List.{remove, flat_map, count_by, sum_by}
use Rattle.std.proofs.lemmas.Bool.{true≢false}
use Rattle.std.proofs.lemmas.List.{length-append}
use Rattle.std.proofs.lemmas.List.Sums.{sum_by-cons, sum_by-append}
use Rattle.data_plane.specs.link_copies.CopiesData.{KeptCopy}
use Rattle.data_plane.specs.link_copies.Kept.{Entry}
use Rattle.data_plane.proofs.link_copies.Basics.{some_equal, not_some}
use Rattle.data_plane.proofs.link_copies.Sums.{copies_in, sum-cons}

module _ (t : KeptCopy → Bool) where
  pub count-cons : (k : KeptCopy) (ks : List KeptCopy) → count_by t (k ∷ ks) ≡ cond (t k) 1 0 + count_by t ks
  count-cons k ks = sum_by-cons (λ x. cond (t x) 1 0) k ks

  pub count-append : (xs ys : List KeptCopy) → count_by t (xs ++ ys) ≡ count_by t xs + count_by t ys
  count-append xs ys = sum_by-append (λ x. cond (t x) 1 0) xs ys

  pub count-push : (xs : List KeptCopy) (k : KeptCopy) → count_by t (xs ++ k ∷ []) ≡ count_by t xs + cond (t k) 1 0
  count-push xs k = omega (arith, count-append xs (k ∷ []), count-cons k [])

  pub count-remove : (xs : List KeptCopy) (i : ℕ) (k : KeptCopy) → slice_get xs i ≡ Some k → count_by t (remove xs i) + cond (t k) 1 0 ≡ count_by t xs
  count-remove [] i k e = absurd (not_some k e)
  count-remove (x ∷ xs) zero k e = omega (arith, count-cons x xs, ap (λ (y : KeptCopy). cond {A = ℕ} (t y) 1 0) (some_equal x k e))
  count-remove (x ∷ xs) (suc i) k e = omega (arith, count-cons x xs, count-cons x (remove xs i), count-remove xs i k e)

pub length-removed : (xs : List KeptCopy) (i : ℕ) (k : KeptCopy) → slice_get xs i ≡ Some k → length (remove xs i) + 1 ≡ length xs
length-removed [] i k e = absurd (not_some k e)
length-removed (x ∷ xs) zero k e = omega arith
length-removed (x ∷ xs) (suc i) k e = omega (arith, length-removed xs i k e)

-- past the end nothing is removed
pub remove-past : (xs : List KeptCopy) (i : ℕ) → slice_get xs i ≡ None → remove xs i ≡ xs
remove-past [] zero e = refl
remove-past [] (suc i) e = refl
remove-past (x ∷ xs) zero e = absurd (not_some x (sym e))
remove-past (x ∷ xs) (suc i) e = ap (λ (ys : List KeptCopy). x ∷ ys) (remove-past xs i e)

nothing_left : (place : ℕ) → ◌≡◌ {A = List KeptCopy} [] (remove [] place)
nothing_left zero = refl
nothing_left (suc place) = refl

pub removed_in : (place : ℕ) (o : Option (List KeptCopy)) → copies_in (option_map (λ copies. remove copies place) o) ≡ remove (copies_in o) place
removed_in place None = nothing_left place
removed_in place (Some x) = refl

-- ---- copies of all ways

pub length-all : (es : List Entry) → length (flat_map (λ (e : Entry). e.1) es) ≡ sum_by (λ (e : Entry). length e.1) es
length-all [] = refl
length-all (e ∷ es) = omega (arith, length-append e.1 (flat_map (λ (e : Entry). e.1) es), length-all es, sum-cons length e es)

pub count-all : (t : KeptCopy → Bool) (es : List Entry) → count_by t (flat_map (λ (e : Entry). e.1) es) ≡ sum_by (λ (e : Entry). count_by t e.1) es
count-all t [] = refl
count-all t (e ∷ es) = omega (arith, count-append t e.1 (flat_map (λ (e : Entry). e.1) es), count-all t es, sum-cons (count_by t) e es)

-- where each that passes one test passes the other, no more pass it
pub count-less : (t s : KeptCopy → Bool) → ((k : KeptCopy) → t k ≡ true → s k ≡ true) → (ks : List KeptCopy) → count_by t ks ≤ count_by s ks
count-less t s each [] = omega arith
count-less t s each (k ∷ ks) = by (t k) (s k) refl refl (count-less t s each ks)
  where
    by : (a b : Bool) → t k ≡ a → s k ≡ b → count_by t ks ≤ count_by s ks → count_by t (k ∷ ks) ≤ count_by s (k ∷ ks)
    by true true e d rest =
        omega (arith, count-cons t k ks, count-cons s k ks, ap (λ (b : Bool). cond {A = ℕ} b 1 0) e, ap (λ (b : Bool). cond {A = ℕ} b 1 0) d, rest)
    by true false e d rest = absurd (true≢false (sym (each k e) ∙ d))
    by false true e d rest =
        omega (arith, count-cons t k ks, count-cons s k ks, ap (λ (b : Bool). cond {A = ℕ} b 1 0) e, ap (λ (b : Bool). cond {A = ℕ} b 1 0) d, rest)
    by false false e d rest =
        omega (arith, count-cons t k ks, count-cons s k ks, ap (λ (b : Bool). cond {A = ℕ} b 1 0) e, ap (λ (b : Bool). cond {A = ℕ} b 1 0) d, rest)
