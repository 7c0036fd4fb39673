-- Copies of one way, of which those go that are old.
use Rattle.std.proofs.Common.{◌≡◌, ℕ, zero, suc, ◌+◌, ◌≤◌, ◌==◌, ◌&&◌, not, Bool, true, false, cond, List, [], ◌∷◌, length, take, slice_get, Some, None, refl, sym, ap, ◌∙◌, arith}
use Rattle.std.specs.List.{count_by}
use Rattle.std.proofs.lemmas.Bool.{eq-eqb}
use Rattle.data_plane.specs.link_copies.CopiesData.{KeptCopy, is_recent}
use Rattle.data_plane.specs.link_copies.Kept.{recent, with_buffer, gone}
use Rattle.data_plane.proofs.link_copies.Basics.{one_more, some_equal, not_some}
use Rattle.data_plane.proofs.link_copies.Lists.{count-cons}

module _ (now life : ℕ) where
  recent-cons : (k : KeptCopy) (ks : List KeptCopy) (f : List KeptCopy → ℕ) (b : Bool) → is_recent now life k ≡ b
      → f (recent now life (k ∷ ks)) ≡ cond b (f (k ∷ recent now life ks)) (f (recent now life ks))
  recent-cons k ks f true e = λ i. f (cond (e i) (k ∷ recent now life ks) (recent now life ks))
  recent-cons k ks f false e = λ i. f (cond (e i) (k ∷ recent now life ks) (recent now life ks))

  pub gone-cons : (name : ℕ) (k : KeptCopy) (ks : List KeptCopy)
      → gone now life name (k ∷ ks) ≡ cond (not (is_recent now life k) && (k.buffer == name)) 1 0 + gone now life name ks
  gone-cons name k ks = count-cons (λ x. not (is_recent now life x) && (x.buffer == name)) k ks

  pub recent-parts : (name : ℕ) (ks : List KeptCopy) → with_buffer name (recent now life ks) + gone now life name ks ≡ with_buffer name ks
  recent-parts name [] = refl
  recent-parts name (k ∷ ks) = by (is_recent now life k) refl (recent-parts name ks)
    where
      by : (b : Bool) → is_recent now life k ≡ b → with_buffer name (recent now life ks) + gone now life name ks ≡ with_buffer name ks
          → with_buffer name (recent now life (k ∷ ks)) + gone now life name (k ∷ ks) ≡ with_buffer name (k ∷ ks)
      by true e rest = omega (
        arith,
        recent-cons k ks (with_buffer name) true e,
        count-cons (λ x. x.buffer == name) k (recent now life ks),
        count-cons (λ x. x.buffer == name) k ks,
        gone-cons name k ks,
        ap (λ (b : Bool). cond {A = ℕ} (not b && (k.buffer == name)) 1 0) e,
        rest,
      )
      by false e rest = omega (
        arith,
        recent-cons k ks (with_buffer name) false e,
        count-cons (λ x. x.buffer == name) k ks,
        gone-cons name k ks,
        ap (λ (b : Bool). cond {A = ℕ} (not b && (k.buffer == name)) 1 0) e,
        rest,
      )

  pub recent-fewer : (t : KeptCopy → Bool) (ks : List KeptCopy) → count_by t (recent now life ks) ≤ count_by t ks
  recent-fewer t [] = omega arith
  recent-fewer t (k ∷ ks) = by (is_recent now life k) refl (recent-fewer t ks)
    where
      by : (b : Bool) → is_recent now life k ≡ b → count_by t (recent now life ks) ≤ count_by t ks
          → count_by t (recent now life (k ∷ ks)) ≤ count_by t (k ∷ ks)
      by true e rest = omega (arith, recent-cons k ks (count_by t) true e, count-cons t k (recent now life ks), count-cons t k ks, rest)
      by false e rest = omega (arith, recent-cons k ks (count_by t) false e, count-cons t k ks, rest)

  pub recent-shorter : (ks : List KeptCopy) → length (recent now life ks) ≤ length ks
  recent-shorter [] = omega arith
  recent-shorter (k ∷ ks) = by (is_recent now life k) refl (recent-shorter ks)
    where
      by : (b : Bool) → is_recent now life k ≡ b → length (recent now life ks) ≤ length ks → length (recent now life (k ∷ ks)) ≤ length (k ∷ ks)
      by true e rest = omega (arith, recent-cons k ks length true e, rest)
      by false e rest = omega (arith, recent-cons k ks length false e, rest)

  -- those among the first so many
  gone-next : (name : ℕ) (ks : List KeptCopy) (i : ℕ) (k : KeptCopy) → slice_get ks i ≡ Some k
      → gone now life name (take (suc i) ks) ≡ gone now life name (take i ks) + cond (not (is_recent now life k) && (k.buffer == name)) 1 0
  gone-next name [] i k e = absurd (not_some k e)
  gone-next name (x ∷ xs) zero k e =
      omega (
        arith,
        gone-cons name x [],
        ap (λ (y : KeptCopy). cond {A = ℕ} (not (is_recent now life y) && (y.buffer == name)) 1 0)
            (some_equal x k e),
      )
  gone-next name (x ∷ xs) (suc i) k e = omega (arith, gone-cons name x (take (suc i) xs), gone-cons name x (take i xs), gone-next name xs i k e)

  pub gone-more : (name : ℕ) (ks : List KeptCopy) (i : ℕ) (k : KeptCopy) → slice_get ks i ≡ Some k
      → gone now life name (take (i + 1) ks) ≡ gone now life name (take i ks) + cond (not (is_recent now life k) && (k.buffer == name)) 1 0
  gone-more name ks i k e = ap (λ (n : ℕ). gone now life name (take n ks)) (one_more i) ∙ gone-next name ks i k e

  gone-first : (name : ℕ) (ks : List KeptCopy) (i : ℕ) → gone now life name (take i ks) ≤ gone now life name ks
  gone-first name ks zero = omega arith
  gone-first name [] (suc i) = omega arith
  gone-first name (x ∷ xs) (suc i) = omega (arith, gone-cons name x (take i xs), gone-cons name x xs, gone-first name xs i)

  -- where the next one is old, one more of them has its buffer
  pub gone-room : (ks : List KeptCopy) (i : ℕ) (k : KeptCopy) → slice_get ks i ≡ Some k
      → cond (is_recent now life k) 0 1 + gone now life k.buffer (take i ks) ≤ gone now life k.buffer ks
  gone-room ks i k e = by (is_recent now life k) refl
    where
      by : (b : Bool) → is_recent now life k ≡ b → cond (is_recent now life k) 0 1 + gone now life k.buffer (take i ks) ≤ gone now life k.buffer ks
      by true t = omega (arith, ap (λ (b : Bool). cond {A = ℕ} b 0 1) t, gone-first k.buffer ks i)
      by false t = omega (
        arith,
        ap (λ (b : Bool). cond {A = ℕ} b 0 1) t,
        ap (λ (b : Bool). cond {A = ℕ} (not b && (k.buffer == k.buffer)) 1 0) t,
        ap (λ (b : Bool). cond {A = ℕ} b 1 0) (eq-eqb k.buffer k.buffer refl),
        gone-next k.buffer ks i k e,
        gone-first k.buffer ks (suc i),
      )

take-past : (ks : List KeptCopy) (i : ℕ) → slice_get ks i ≡ None → take (suc i) ks ≡ take i ks
take-past [] zero e = refl
take-past [] (suc i) e = refl
take-past (x ∷ xs) zero e = absurd (not_some x (sym e))
take-past (x ∷ xs) (suc i) e = ap (λ (ys : List KeptCopy). x ∷ ys) (take-past xs i e)

pub past-more : (ks : List KeptCopy) (i : ℕ) → slice_get ks i ≡ None → take (i + 1) ks ≡ take i ks
past-more ks i e = ap (λ (n : ℕ). take n ks) (one_more i) ∙ take-past ks i e
