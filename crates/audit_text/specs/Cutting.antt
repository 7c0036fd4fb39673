-- Where the text of an audit is cut.
use Rattle.std.specs.Prelude.{◌≡◌, ℕ, ◌+◌, ◌≤◌, List, length, position, None, Some, ◌==◌}
use Rattle.std.specs.Str.Lines.{lines}
use Rattle.audit_text.specs.Texts.{AreCut}

-- how many octets the first line of a text has, with the line feed after it
abbrev pub line_length : List ℕ → ℕ
line_length text = elim (position (λ octet. octet == 10) text) [ None ↦ length text | Some place ↦ place + 1 ]

-- The lines of a text are cut at the line `report` of that number: the one text has those before it, the other one those after it.
pub record AreParts (text front thereafter : List ℕ) (number : ℕ) : Type 0 where
  pub cut : AreCut (lines text) (lines front) (lines thereafter)
  pub at : number ≡ length (lines front) + 1
  pub short : length front ≤ length text
  pub count : number + length thereafter ≤ length text
