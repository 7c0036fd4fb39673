-- The first word that is too many.
use Rattle.std.proofs.Common.{◌≡◌, ℕ, zero, suc, List, [], ◌∷◌, slice_get, drop, Option, Some, ap}
use Rattle.std.specs.Option.{unwrap_or}
use Rattle.std.proofs.lemmas.Option.{none-some}
use Rattle.line_words.specs.declared.fault.Reason.TheVariants as reasons
use Rattle.line_words.specs.declared.words.Row.{Row}
use Rattle.line_words.specs.Words.{Placed}
use Rattle.scenario_lines.specs.Forms.{count_fault}

pub at_extra : (row : Row) (words : List Placed) (count : ℕ) (extra : Placed) → slice_get words count ≡ Some extra
    → count_fault row (drop count words) ≡ record { line = row.number; column = extra.column; reason = reasons.Count }
at_extra row [] count extra e = absurd (none-some extra e)
at_extra row (word ∷ words) zero extra e =
    ap (λ (o : Option Placed). record { line = row.number; column = (unwrap_or o word).column; reason = reasons.Count }) e
at_extra row (word ∷ words) (suc count) extra e = at_extra row words count extra e
