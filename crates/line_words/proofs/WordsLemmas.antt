-- Laws of the parts of a line, and of the lines of a text.
use Rattle.std.proofs.Common.{◌≡◌, ℕ, ◌+◌, ◌<◌, ◌≤◌, ◌==◌, List, [], ◌∷◌, Bool, true, false, length, take, drop, get_or, refl, ap, ◌∙◌, arith, cond, Option, Some, None, nat_lt, position}
use Rattle.std.specs.List.{slice_split, onto_first, position_or_len, before_first, after_first, All}
use Rattle.std.specs.Str.Lines.{lines, lines_of_parts, strip_carriage_return}
use Rattle.std.proofs.lemmas.Bool.Decides.{nat_tests}
use Rattle.std.proofs.lemmas.List.Quantifiers.{position-Some}
use Rattle.std.proofs.lemmas.List.Sums.{position_or_len_is, fails_before_first}
use Rattle.std.proofs.lemmas.List.Splits.{slice_split_first, slice_split_none, length-slice_split}
use Rattle.line_words.specs.Words.{placed, with_part, words_from}

-- the octets of the parts, and one more for each part
abbrev pub total : List (List ℕ) → ℕ
total [] = 0
total (part ∷ parts) = length part + 1 + total parts

total-onto_first : (x : ℕ) (parts : List (List ℕ)) (n : ℕ) → total parts ≡ n + 1 → total (onto_first x parts) ≡ n + 2
total-onto_first x [] n h = omega (arith, h)
total-onto_first x (part ∷ parts) n h = omega (arith, h)

total-cons : (b : Bool) (x : ℕ) (parts : List (List ℕ)) (n : ℕ) → total parts ≡ n + 1 → total (cond b ([] ∷ parts) (onto_first x parts)) ≡ n + 2
total-cons true x parts n h = omega (arith, h)
total-cons false x parts n h = total-onto_first x parts n h

-- The parts of a list have its octets, and there is one more than there are cuts.
pub total-slice_split : (p : ℕ → Bool) (xs : List ℕ) → total (slice_split p xs) ≡ length xs + 1
total-slice_split p [] = refl
total-slice_split p (x ∷ xs) = total-cons (p x) x (slice_split p xs) (length xs) (total-slice_split p xs) ∙ omega arith

-- Parts after a line feed: the part before it is a line.
lines-cons : (x : List ℕ) (parts : List (List ℕ)) → 0 < length parts → lines_of_parts (x ∷ parts) ≡ strip_carriage_return x ∷ lines_of_parts parts
lines-cons x [] h = absurd (omega arith)
lines-cons x (y ∷ more) h = refl

-- The part before the first cut, and the parts after it.
pub split_first : (p : ℕ → Bool) (xs : List ℕ) (i : ℕ) → position p xs ≡ Some i → slice_split p xs ≡ take i xs ∷ slice_split p (drop (i + 1) xs)
split_first p xs i h =
    let found : (i < length xs) × (p (get_or xs i 0) ≡ true) × ((k : ℕ) → k < i → p (get_or xs k 0) ≡ false) = position-Some p xs i 0 h in
    let e : position_or_len p xs ≡ i = position_or_len_is p xs i 0 (omega (arith, found.0)) found.2 (λ _. found.1) in
    let s : slice_split p xs ≡ before_first p xs ∷ slice_split p (after_first p xs) = slice_split_first p xs 0 (omega (arith, found.0, e)) in
    s ∙ ap (λ (n : ℕ). take n xs ∷ slice_split p (drop (n + 1) xs)) e

-- The line before the first line feed, and the lines after it.
pub lines-first : (xs : List ℕ) (i : ℕ) → position (λ b. b == 10) xs ≡ Some i → lines xs ≡ strip_carriage_return (take i xs) ∷ lines (drop (i + 1) xs)
lines-first xs i h =
    let p : ℕ → Bool = λ b. b == 10 in
    ap lines_of_parts (split_first p xs i h) ∙ lines-cons (take i xs) _ (omega (arith, length-slice_split p (drop (i + 1) xs)))

none_found : (n k : ℕ) (b : Bool) → nat_lt n k ≡ b → cond {A = Option ℕ} b (Some n) None ≡ None → k ≤ n
none_found n k true e h = absurd cc
none_found n k false e h = grind (arith, nat_tests)

-- Where there is no cut, the list is one part.
pub split_whole : (p : ℕ → Bool) (xs : List ℕ) → position p xs ≡ None → slice_split p xs ≡ xs ∷ []
split_whole p xs h =
    let n : length xs ≤ position_or_len p xs = none_found _ _ _ refl h in
    let fails : All (λ y. p y ≡ false) xs = λ k d m. fails_before_first p xs k d (omega (arith, n, m)) in
    slice_split_none p xs fails

last_part : (part : List ℕ) (b : Bool) → b ≡ false → cond b [] (part ∷ []) ≡ part ∷ []
last_part part b h = rw h refl

whole_line : (x : ℕ) (more : List ℕ) (parts : List (List ℕ)) → parts ≡ (x ∷ more) ∷ [] → lines_of_parts parts ≡ (x ∷ more) ∷ []
whole_line x more parts e =
    let z : (length (x ∷ more) == 0) ≡ false = grind (arith, nat_tests) in
    rw e (last_part (x ∷ more) (length (x ∷ more) == 0) z)

-- A text without a line feed is one line.
pub lines-whole : (xs : List ℕ) → 0 < length xs → position (λ b. b == 10) xs ≡ None → lines xs ≡ xs ∷ []
lines-whole [] l h = absurd (omega arith)
lines-whole (x ∷ more) l h = whole_line x more (slice_split (λ b. b == 10) (x ∷ more)) (split_whole (λ b. b == 10) (x ∷ more) h)

-- The words before the first space, and those after it.
pub words-first : (octets : List ℕ) (i column : ℕ) → position (λ b. b == 32) octets ≡ Some i
    → words_from column octets ≡ with_part column (take i octets) (words_from (column + (length (take i octets) + 1)) (drop (i + 1) octets))
words-first octets i column h = ap (placed column) (split_first (λ b. b == 32) octets i h)

-- Octets without a space are one word.
pub words-whole : (octets : List ℕ) (column : ℕ) → position (λ b. b == 32) octets ≡ None
    → words_from column octets ≡ with_part column octets (words_from (column + (length octets + 1)) [])
words-whole octets column h = ap (placed column) (split_whole (λ b. b == 32) octets h)
