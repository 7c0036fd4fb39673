-- Sums over trees, up to the greatest number of 32 bits, and whether entries are too many.
use Rattle.std.specs.Prelude.{sum_by}
use Rattle.std.proofs.Common.{◌≡◌, ℕ, ◌+◌, ◌<◌, ◌≤◌, min, nat_le, nat_lt, List, length, take, get_or, sym, ap, ◌∙◌, arith}
use Rattle.std.specs.Cmp.{both_ways}
use Rattle.std.proofs.lemmas.Bool.{leb-true, le-leb, ltb-true, lt-ltb}
use Rattle.std.proofs.lemmas.List.Sums.{sum_by_more}

abbrev pub most : ℕ
most = 4294967295

min_more : (a b : ℕ) → min (min a most + b) most ≡ min (a + b) most
min_more a b = omega arith

pub count_more : {X : Type 0} (f : X → ℕ) (xs : List X) (i : ℕ) (d : X) (count size : ℕ) → i < length xs → count ≡ min (sum_by f (take i xs)) most
    → size ≡ f (get_or xs i d)
    → min (count + size) most ≡ min (sum_by f (take (i + 1) xs)) most
count_more f xs i d count size lt h k =
    (λ j. min (h j + k j) most) ∙ min_more (sum_by f (take i xs)) (f (get_or xs i d)) ∙ ap (λ (n : ℕ). min n most) (sym (sum_by_more f xs i d lt))

-- whether they are too many after a change of one part
pub over_told : (sum thereafter own part all : ℕ) → thereafter + own ≡ sum + part → own ≤ sum → own ≤ 1024 → all ≡ min sum most
    → nat_lt (own + 1024) (all + part) ≡ nat_lt 1024 thereafter
over_told sum thereafter own part all total le few is =
    both_ways _ _ (λ h. let lt = ltb-true (own + 1024) (all + part) h in lt-ltb 1024 thereafter (omega (arith, lt, total, le, few, is)))
    (λ h. let lt = ltb-true 1024 thereafter h in lt-ltb (own + 1024) (all + part) (omega (arith, lt, total, le, few, is)))

-- whether there are so many, where more than the greatest number are not counted
pub at_least : (limit count sum : ℕ) → count ≡ min sum most → limit ≤ most → nat_le limit count ≡ nat_le limit sum
at_least limit count sum is le =
    both_ways _ _ (λ h. let k = leb-true limit count h in le-leb limit sum (omega (arith, k, is, le)))
    (λ h. let k = leb-true limit sum h in le-leb limit count (omega (arith, k, is, le)))
