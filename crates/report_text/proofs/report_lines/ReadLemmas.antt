-- What is left of a text that names no line, or a line that it does not write.
use Rattle.std.proofs.Common.{◌≡◌, ℕ, List, [], ◌∷◌, ◌++◌, sym, ap, ◌∙◌, Option, Some, None}
use Rattle.std.proofs.lemmas.Option.{none-some, same_Some}
use Rattle.scenario_defs.specs.declared.report.ReportLine.{ReportLine}
use Rattle.scenario_defs.specs.declared.scenario.Scenario.{Scenario}
use Rattle.scenario_defs.specs.Rules.{Rules}
use Rattle.scenario_defs.specs.Text.{line_text, IsLineOf}
use Rattle.report_text.specs.report_lines.Bounds.{HasTypeBounds}
use Rattle.report_text.specs.report_lines.Lines.{named_line}
use Rattle.report_text.proofs.report_lines.LineLemmas.{line_back}

-- What was written after nothing.
pub only_written : (written start text : List ℕ) → start ≡ [] → written ≡ start ++ text → written ≡ text
only_written written start text empty e = e ∙ ap (λ (l : List ℕ). l ++ text) empty

-- A line that is named is the only one that the text can be.
pub only_line : (scenario : Scenario) → Rules scenario → (text : List ℕ) (named : Option ReportLine) (found : ReportLine)
    → named ≡ named_line scenario text → named ≡ Some found
    → (line : ReportLine) → IsLineOf scenario line → HasTypeBounds line → line_text scenario line ≡ text ++ 10 ∷ [] → found ≡ line
only_line scenario rules text named found read is line of_scenario bounds written =
    same_Some found line (sym is ∙ read ∙ line_back scenario rules text line of_scenario bounds written)

-- A text that names none is written of none.
pub unnamed : (scenario : Scenario) → Rules scenario → (text : List ℕ) (named : Option ReportLine) → named ≡ named_line scenario text → named ≡ None
    → (line : ReportLine) → IsLineOf scenario line → HasTypeBounds line → line_text scenario line ≡ text ++ 10 ∷ [] → ⊥
unnamed scenario rules text named read is line of_scenario bounds written =
    none-some line (sym is ∙ read ∙ line_back scenario rules text line of_scenario bounds written)

-- One that names a line of another text is written of none.
pub unwritten : (scenario : Scenario) → Rules scenario → (text : List ℕ) (named : Option ReportLine) (found : ReportLine)
    → named ≡ named_line scenario text → named ≡ Some found
    → (line_text scenario found ≡ text ++ 10 ∷ [] → ⊥)
    → (line : ReportLine) → IsLineOf scenario line → HasTypeBounds line → line_text scenario line ≡ text ++ 10 ∷ [] → ⊥
unwritten scenario rules text named found read is differs line of_scenario bounds written =
    differs (ap (line_text scenario) (only_line scenario rules text named found read is line of_scenario bounds written) ∙ written)
