-- The first place of an octet.
use Rattle.std.proofs.Common.{◌≡◌, ℕ, ◌<◌, Bool, true, false, List, length, position, Option, Some, None, nat_lt, refl, arith}
use Rattle.std.specs.List.{position_or_len}
use Rattle.std.proofs.lemmas.Bool.Decides.{nat_tests}
use Rattle.std.proofs.lemmas.List.Sums.{position_or_len_is}
use Rattle.memchr.specs.Find.{IsFirstByte}

fails : (b : Bool) → ¬ (b ≡ true) → b ≡ false
fails true h = absurd (h refl)
fails false h = refl

below : (n m : ℕ) → n < m → nat_lt n m ≡ true
below n m h = grind (arith, nat_tests)

pub not_below : (n : ℕ) → nat_lt n n ≡ false
not_below n = grind (arith, nat_tests)

-- What a search answers is the place of the first octet that passes.
pub first_place : (test : ℕ → Bool) (text : List ℕ) (found : Option ℕ) → IsFirstByte test text found → found ≡ position test text
first_place test text None h =
    let end : position_or_len test text ≡ length text =
    position_or_len_is test text (length text) 0 (omega arith) (λ k lt. fails _ (h k (omega arith) lt)) (λ lt. absurd (omega (arith, lt))) in
    rw (end, not_below (length text)) refl
first_place test text (Some place) h =
    let first = h.0 in
    let at : position_or_len test text ≡ place =
    position_or_len_is test text place 0 (omega (arith, first.high)) (λ k lt. fails _ (first.before k (omega arith) lt)) (λ lt. h.1) in
    rw (at, below place (length text) first.high) refl
