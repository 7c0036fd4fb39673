-- Octets of a fixed number are the same where the numbers that they spell are.
use Rattle.std.proofs.Common.{◌≡◌, ◌<◌, ℕ, nat_eq, List, length, get_or, refl, ap, sym, ◌∙◌}
use Rattle.std.specs.Bool.{one_answer}
use Rattle.std.specs.Int.{w32, w64, from_be_bytes, to_be_bytes}
use Rattle.std.specs.Cmp.Lexicographic.{pointwise, bytes_decides}
use Rattle.std.proofs.lemmas.Bool.{eqb-true, eq-eqb}
use Rattle.std.proofs.lemmas.Nat.{be_bytes_4, be_bytes_8}

-- two tests that tell the same
alike : (m n : ℕ) (a b : List ℕ) → (m ≡ n → a ≡ b) → (a ≡ b → m ≡ n) → nat_eq m n ≡ pointwise nat_eq a b
alike m n a b there back =
    one_answer (nat_eq m n) (pointwise nat_eq a b) (λ e. there (eqb-true m n e), λ e. eq-eqb m n (back e)) (bytes_decides a b)

pub alike_four : (a b : List ℕ) (m n : ℕ) → length a ≡ 4 → length b ≡ 4 → ((i : ℕ) → get_or a i 0 < 256) → ((i : ℕ) → get_or b i 0 < 256) →
    m ≡ from_be_bytes w32 a → n ≡ from_be_bytes w32 b → nat_eq m n ≡ pointwise nat_eq a b
alike_four a b m n sa sb oa ob is its =
    alike m n a b (λ e. sym (be_bytes_4 a m sa oa is) ∙ ap (to_be_bytes w32) e ∙ be_bytes_4 b n sb ob its) (λ e. is ∙ ap (from_be_bytes w32) e ∙ sym its)

pub alike_eight : (a b : List ℕ) (m n : ℕ) → length a ≡ 8 → length b ≡ 8 → ((i : ℕ) → get_or a i 0 < 256) → ((i : ℕ) → get_or b i 0 < 256) →
    m ≡ from_be_bytes w64 a → n ≡ from_be_bytes w64 b → nat_eq m n ≡ pointwise nat_eq a b
alike_eight a b m n sa sb oa ob is its =
    alike m n a b (λ e. sym (be_bytes_8 a m sa oa is) ∙ ap (to_be_bytes w64) e ∙ be_bytes_8 b n sb ob its) (λ e. is ∙ ap (from_be_bytes w64) e ∙ sym its)
