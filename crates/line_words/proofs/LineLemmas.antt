-- The words of a line of a text.
use Rattle.std.proofs.Common.{◌≡◌, ℕ, ◌+◌, ◌≤◌, ◌==◌, Bool, true, false, cond, List, [], ◌∷◌, length, Option, Some, None, nat_lt, refl, subst, arith}
use Rattle.std.specs.Prelude.{Result, Ok, Err, position}
use Rattle.std.specs.List.{AllByRecursion, slice_split}
use Rattle.std.proofs.lemmas.Bool.Decides.{nat_tests}
use Rattle.line_words.specs.declared.fault.TextFault.{TextFault}
use Rattle.line_words.specs.Lines.{is_blank, is_outside, words_in}
use Rattle.line_words.specs.Words.{Placed, placed, words_of}
use Rattle.line_words.proofs.WordsLemmas.{total, total-slice_split}

-- The words of a line are no longer than the line.
placed_if : (n column : ℕ) (part : List ℕ) (more : List Placed) (b : Bool) → length part ≤ n → AllByRecursion (λ w. length w.text ≤ n) more
    → AllByRecursion (λ w. length w.text ≤ n) (cond b more (record { column = column; text = part } ∷ more))
placed_if n column part more true l h = h
placed_if n column part more false l h = (l, h)

placed_short : (n column : ℕ) (parts : List (List ℕ)) → total parts ≤ n + 1 → AllByRecursion (λ w. length w.text ≤ n) (placed column parts)
placed_short n column [] h = tt
placed_short n column (part ∷ parts) h = placed_if n column part _ _ (omega arith) (placed_short n (column + (length part + 1)) parts (omega arith))

words_short : (octets : List ℕ) → length octets ≤ 4096 → AllByRecursion (λ w. length w.text ≤ 4096) (words_of octets)
unfolding words_of
words_short octets h = placed_short 4096 1 (slice_split (λ b. b == 32) octets) (omega (arith, total-slice_split (λ b. b == 32) octets))

-- So are those of any line that is read.
abbrev read : List Placed → Result (List Placed) TextFault
read words = Ok words

at_most : (n : ℕ) → nat_lt 4096 n ≡ false → n ≤ 4096
at_most n h = grind (arith, nat_tests)

read_short : (octets : List ℕ) (blank long : Bool) (outside : Option ℕ) (first : TextFault) (other : ℕ → TextFault) (words : List Placed)
    → nat_lt 4096 (length octets) ≡ long →
    cond blank (read []) (cond long (Err first) (elim outside [ Some place ↦ Err (other place) | None ↦ read (words_of octets) ])) ≡ read words
    → AllByRecursion (λ w. length w.text ≤ 4096) words
read_short octets true long outside first other words l e = let none : [] ≡ words = cc in subst (AllByRecursion (λ w. length w.text ≤ 4096)) none tt
read_short octets false true outside first other words l e = absurd cc
read_short octets false false (Some place) first other words l e = absurd cc
read_short octets false false None first other words l e = let same : words_of octets ≡ words = cc in
    subst (AllByRecursion (λ w. length w.text ≤ 4096)) same (words_short octets (at_most (length octets) l))

pub short_words : (number : ℕ) (octets : List ℕ) (words : List Placed) → words_in number octets ≡ Ok words
    → AllByRecursion (λ w. length w.text ≤ 4096) words
unfolding words_in
short_words number octets words e = read_short octets (is_blank octets) (nat_lt 4096 (length octets)) (position is_outside octets) _ _ words refl e
