-- Numbers as the bits of words: what a mark changes, and where the least one is.
use Rattle.std.proofs.Common.{inl, inr, ◌≡◌, ◌≢◌, ℕ, ◌+◌, ◌*◌, ◌/◌, ◌%◌, ◌^◌, ◌<◌, true, false, not, nat_eq, List, ◌++◌, length, take, slice_index, slice_set, get_or, sym, ap, subst, ◌∙◌, arith, bit_and, bit_or}
use Rattle.std.specs.Int.{bit_at, bit_not, trailing_zeros, w64}
use Rattle.std.specs.Int.Bits.{and_zero_l}
use Rattle.std.proofs.Math.Seq.{take-append_seam}
use Rattle.std.proofs.lemmas.Bool.{cases_Bool, cases_eq, cases_lt, both_ways, eqb-true, eqb-false, ne_eqb, not-true, not-false}
use Rattle.std.proofs.lemmas.List.{get_or-set_same, get_or-set_other, get_or_past, get_or_default, length-set}
use Rattle.std.proofs.lemmas.Nat.Bits.{bit_at-zero, bit_at_set_same, bit_at_set_other, bit_at_clear_same, bit_at_clear_other, bit_at-trailing_zeros}
use Rattle.tunnel_bindings.specs.Marks.{is_marked, marked, unmarked, is_used, IsFirstWord, IsFirstMark, NoMark, AreUsed}

-- ---- one number

pub marked_same : (ws : List ℕ) (n : ℕ) → n < 64 * length ws → is_marked (marked ws n) n ≡ true
marked_same ws n within =
    ap (λ b. nat_eq b 1) (ap (λ w. bit_at w (n % 64))
    (get_or-set_same ws (n / 64) (bit_or (slice_index ws (n / 64)) (1 * 2 ^ (n % 64) % 2 ^ 64)) 0 (omega arith))
    ∙ bit_at_set_same w64 (slice_index ws (n / 64)) (n % 64) (omega arith))

pub unmarked_same : (ws : List ℕ) (n : ℕ) → n < 64 * length ws → is_marked (unmarked ws n) n ≡ false
unmarked_same ws n within =
    ap (λ b. nat_eq b 1) (ap (λ w. bit_at w (n % 64))
    (get_or-set_same ws (n / 64) (bit_and (slice_index ws (n / 64)) (bit_not w64 (1 * 2 ^ (n % 64) % 2 ^ 64))) 0 (omega arith))
    ∙ bit_at_clear_same w64 (slice_index ws (n / 64)) (n % 64) (omega arith))

-- a word that changes at the bit of n alone
word_other : (ws : List ℕ) (n : ℕ) (x : ℕ) → n < 64 * length ws → ((i : ℕ) → i < 64 → i ≢ n % 64 → bit_at x i ≡ bit_at (slice_index ws (n / 64)) i)
    → (k : ℕ) → k ≢ n → is_marked (slice_set ws (n / 64) x) k ≡ is_marked ws k
word_other ws n x within bits k apart = elim (cases_eq (k / 64) (n / 64)) [
  | inl e ↦ ap (λ b. nat_eq b 1) (ap (λ j. bit_at (slice_index (slice_set ws (n / 64) x) j) (k % 64)) e
      ∙ (ap (λ w. bit_at w (k % 64)) (get_or-set_same ws (n / 64) x 0 (omega arith))
      ∙ (bits (k % 64) (omega arith) (λ h. apart (omega (arith, e, h)))
      ∙ ap (λ j. bit_at (slice_index ws j) (k % 64)) (sym e))))
  | inr d ↦ ap (λ w. nat_eq (bit_at w (k % 64)) 1) (get_or-set_other ws (n / 64) (k / 64) x 0 d)
]

pub marked_other : (ws : List ℕ) (n : ℕ) → n < 64 * length ws → (k : ℕ) → k ≢ n → is_marked (marked ws n) k ≡ is_marked ws k
marked_other ws n within = word_other ws n _ within (λ i below d. bit_at_set_other w64 (slice_index ws (n / 64)) (n % 64) (omega arith) i d)

pub unmarked_other : (ws : List ℕ) (n : ℕ) → n < 64 * length ws → (k : ℕ) → k ≢ n → is_marked (unmarked ws n) k ≡ is_marked ws k
unmarked_other ws n within = word_other ws n _ within (λ i below d. bit_at_clear_other w64 (slice_index ws (n / 64)) (n % 64) (omega arith) i below d)

-- ---- words that have a mark

some_bit : (x i : ℕ) → bit_at x i ≡ 1 → not (nat_eq x 0) ≡ true
some_bit x i h = ap not (ne_eqb x 0 (λ e. let z : 0 ≡ 1 = sym (bit_at-zero i) ∙ (ap (λ y. bit_at y i) (sym e) ∙ h) in omega (arith, z)))

no_bit : (x i : ℕ) → not (nat_eq x 0) ≡ false → nat_eq (bit_at x i) 1 ≡ false
no_bit x i h = ap (λ b. nat_eq b 1) (ap (λ y. bit_at y i) (eqb-true x 0 (not-false _ h)) ∙ bit_at-zero i)

used_by : (ws : List ℕ) (n : ℕ) → is_marked ws n ≡ true → is_used ws (n / 64) ≡ true
used_by ws n h = elim (cases_Bool (is_used ws (n / 64))) [
  | inl e ↦ e
  | inr e ↦ absurd (both_ways _ (no_bit (slice_index ws (n / 64)) (n % 64) e) h)
]

unused_by : (ws : List ℕ) (n : ℕ) → is_used ws (n / 64) ≡ false → is_marked ws n ≡ false
unused_by ws n h = no_bit (slice_index ws (n / 64)) (n % 64) h

used_within : (ws : List ℕ) (w : ℕ) → is_used ws w ≡ true → w < length ws
used_within ws w h = elim (cases_lt w (length ws)) [
  | inl e ↦ e
  | inr past ↦ absurd (both_ways (is_used ws w) (ap (λ x. not (nat_eq x 0)) (get_or_past ws w 0 past)) h)
]

pub used-insert : (ws us : List ℕ) (n : ℕ) → n < 64 * length ws → AreUsed ws us → AreUsed (marked ws n) (marked us (n / 64))
used-insert ws us n within h =
    let len = length-set ws (n / 64) (bit_or (slice_index ws (n / 64)) (1 * 2 ^ (n % 64) % 2 ^ 64)) in
    let len' = length-set us (n / 64 / 64) (bit_or (slice_index us (n / 64 / 64)) (1 * 2 ^ (n / 64 % 64) % 2 ^ 64)) in
    let within' : n / 64 < 64 * length us = omega (arith, h.long, within) in
    record {
      few = omega (arith, h.few, len);
      long = omega (arith, h.long, len, len');
      short = omega (arith, h.short, len');
      same = λ w. elim (cases_eq w (n / 64)) [
        | inl e ↦ rw e (marked_same us (n / 64) within' ∙ sym (used_by (marked ws n) n (marked_same ws n within)))
        | inr d ↦ marked_other us (n / 64) within' w d ∙ (h.same w ∙ sym (ap (λ x. not (nat_eq x 0)) (get_or-set_other ws (n / 64) w _ 0 d)))
      ];
    }

pub used-remove : (ws us : List ℕ) (n : ℕ) → n < 64 * length ws → slice_index (unmarked ws n) (n / 64) ≡ 0 → AreUsed ws us
    → AreUsed (unmarked ws n) (unmarked us (n / 64))
used-remove ws us n within gone h =
    let len = length-set ws (n / 64) (bit_and (slice_index ws (n / 64)) (bit_not w64 (1 * 2 ^ (n % 64) % 2 ^ 64))) in
    let len' = length-set us (n / 64 / 64) (bit_and (slice_index us (n / 64 / 64)) (bit_not w64 (1 * 2 ^ (n / 64 % 64) % 2 ^ 64))) in
    let within' : n / 64 < 64 * length us = omega (arith, h.long, within) in
    record {
      few = omega (arith, h.few, len);
      long = omega (arith, h.long, len, len');
      short = omega (arith, h.short, len');
      same = λ w. elim (cases_eq w (n / 64)) [
        | inl e ↦ rw e (unmarked_same us (n / 64) within' ∙ sym (ap (λ x. not (nat_eq x 0)) gone))
        | inr d ↦ unmarked_other us (n / 64) within' w d ∙ (h.same w ∙ sym (ap (λ x. not (nat_eq x 0)) (get_or-set_other ws (n / 64) w _ 0 d)))
      ];
    }

nonzero : (x : ℕ) → x ≢ 0 → not (nat_eq x 0) ≡ true
nonzero x h = ap not (ne_eqb x 0 h)

pub used-kept : (ws us : List ℕ) (n : ℕ) → n < 64 * length ws → slice_index (unmarked ws n) (n / 64) ≢ 0 → AreUsed ws us → AreUsed (unmarked ws n) us
used-kept ws us n within left h =
    let now = bit_and (slice_index ws (n / 64)) (bit_not w64 (1 * 2 ^ (n % 64) % 2 ^ 64)) in
    let len = length-set ws (n / 64) now in
    let before : slice_index ws (n / 64) ≢ 0 =
    λ e. left (get_or-set_same ws (n / 64) now 0 (omega arith)
    ∙ (ap (λ x. bit_and x (bit_not w64 (1 * 2 ^ (n % 64) % 2 ^ 64))) e ∙ and_zero_l (bit_not w64 (1 * 2 ^ (n % 64) % 2 ^ 64)))) in
    record {
      few = omega (arith, h.few, len);
      long = omega (arith, h.long, len);
      short = h.short;
      same = λ w. elim (cases_eq w (n / 64)) [
        | inl e ↦ rw e (h.same (n / 64) ∙ (nonzero _ before ∙ sym (nonzero _ left)))
        | inr d ↦ h.same w ∙ sym (ap (λ x. not (nat_eq x 0)) (get_or-set_other ws (n / 64) w _ 0 d))
      ];
    }

-- ---- the least number

pub first_within : (ws : List ℕ) (w x : ℕ) → IsFirstWord ws w → x ≡ slice_index ws w → x < 2 ^ 64 → IsFirstMark ws (64 * w + trailing_zeros w64 x)
first_within ws w x h read fits =
    let apart : x ≢ 0 = eqb-false x 0 (not-true _ (ap (λ y. not (nat_eq y 0)) read ∙ h.here)) in
    let some : 0 < x = omega (arith, apart) in
    let low = bit_at-trailing_zeros w64 x some fits in
    let below64 : trailing_zeros w64 x < 64 = low.0 in
    let place : (64 * w + trailing_zeros w64 x) / 64 ≡ w = omega (arith, below64) in
    let bit : (64 * w + trailing_zeros w64 x) % 64 ≡ trailing_zeros w64 x = omega (arith, below64) in
    record {
      here = ap (λ b. nat_eq b 1) (ap (λ p. bit_at (slice_index ws p) ((64 * w + trailing_zeros w64 x) % 64)) place
          ∙ (ap (λ b. bit_at (slice_index ws w) b) bit ∙ (ap (λ y. bit_at y (trailing_zeros w64 x)) (sym read) ∙ low.1)));
      below = λ k less. elim (cases_lt (k / 64) w) [
        | inl e ↦ unused_by ws k (h.below (k / 64) e)
        | inr e ↦
            let at : k / 64 ≡ w = omega (arith, e, less, below64) in
            ap (λ b. nat_eq b 1) (ap (λ p. bit_at (slice_index ws p) (k % 64)) at
            ∙ (ap (λ y. bit_at y (k % 64)) (sym read) ∙ low.2 (k % 64) (omega (arith, at, less))))
      ];
    }

-- the least used word is the first with a mark
pub first_used : (ws us : List ℕ) (w : ℕ) → AreUsed ws us → IsFirstMark us w → IsFirstWord ws w
first_used ws us w h first =
    let here = sym (h.same w) ∙ first.here in
    record {
      within = used_within ws w here;
      here = here;
      below = λ k less. sym (h.same k) ∙ first.below k less;
    }

pub none_used : (ws us : List ℕ) → AreUsed ws us → NoMark us → NoMark ws
none_used ws us h none n = unused_by ws n (sym (h.same (n / 64)) ∙ none (n / 64))

-- what a write to a slice of a Vec leaves of it
pub whole : {X : Type 0} (n : ℕ) (xs ys : List X) → length xs ≡ n → take n (xs ++ ys) ≡ xs
whole n xs ys e = subst (λ m. take m (xs ++ ys) ≡ xs) e (take-append_seam xs ys)

-- what indexing reads
pub word_read : (ws items : List ℕ) (at x : ℕ) → x ≡ get_or items at x → items ≡ ws → at < length ws → x ≡ slice_index ws at
word_read ws items at x read e within = read ∙ (ap (λ ys. get_or ys at x) e ∙ get_or_default ws at x 0 within)

pub marked-length : (ws : List ℕ) (n : ℕ) → length (marked ws n) ≡ length ws
marked-length ws n = length-set ws (n / 64) (bit_or (slice_index ws (n / 64)) (1 * 2 ^ (n % 64) % 2 ^ 64))

pub unmarked-length : (ws : List ℕ) (n : ℕ) → length (unmarked ws n) ≡ length ws
unmarked-length ws n = length-set ws (n / 64) (bit_and (slice_index ws (n / 64)) (bit_not w64 (1 * 2 ^ (n % 64) % 2 ^ 64)))
