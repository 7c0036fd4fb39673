-- Sums up to the greatest number of 64 bits.
use Rattle.std.specs.Prelude.{sum_by}
use Rattle.std.proofs.Common.{◌≡◌, ◌∙◌, ℕ, ◌+◌, ◌<◌, min, List, length, take, get_or, sym, ap, arith}
use Rattle.std.proofs.lemmas.List.Sums.{sum_by_more}

abbrev pub most : ℕ
most = 18446744073709551615

min_more : (a b : ℕ) → min (min a most + min b most) most ≡ min (a + b) most
min_more a b = omega arith

pub due_more : {X : Type 0} (f : X → ℕ) (xs : List X) (i : ℕ) (d : X) (count size : ℕ) → i < length xs → count ≡ min (sum_by f (take i xs)) most
    → size ≡ min (f (get_or xs i d)) most
    → min (count + size) most ≡ min (sum_by f (take (i + 1) xs)) most
due_more f xs i d count size lt h k =
    (λ j. min (h j + k j) most) ∙ min_more (sum_by f (take i xs)) (f (get_or xs i d)) ∙ ap (λ (n : ℕ). min n most) (sym (sum_by_more f xs i d lt))
