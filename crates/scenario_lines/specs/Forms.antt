-- What lines of all kinds share.
use Rattle.std.specs.Prelude.{ℕ, nat_eq, nat_le, List, [], ◌∷◌, Option, None, Some, Result, Ok, if◌then◌else◌}
use Rattle.std.specs.Borrow.{Bor}
use Rattle.std.specs.Cmp.Lexicographic.{pointwise}
use Rattle.line_words.specs.declared.fault.Reason.TheVariants as reasons
use Rattle.line_words.specs.declared.fault.TextFault.{TextFault}
use Rattle.line_words.specs.declared.words.Row.{Row}
use Rattle.line_words.specs.Words.{Placed}
use Rattle.line_words.specs.Forms.{fault}

-- the number of one thing more of a kind, of which there are at most so many
abbrev pub next_number : ℕ → ℕ → Row → Placed → Result ℕ TextFault
next_number count limit row first = if nat_le limit count then fault row.number first.column reasons.Limit else Ok count

-- what a text means, by words and their meanings
abbrev pub meaning_of : {T : Type 0} → List ℕ → List (Bor (List ℕ) × T) → Option T
meaning_of text [] = None
meaning_of text (named ∷ more) = if pointwise nat_eq text named.0.now then Some named.1 else meaning_of text more

-- the fault of a line with too few words or too many, by those that are too many
abbrev pub count_fault : Row → List Placed → TextFault
count_fault row [] = record { line = row.number; column = row.after; reason = reasons.Count }
count_fault row (extra ∷ more) = record { line = row.number; column = extra.column; reason = reasons.Count }
