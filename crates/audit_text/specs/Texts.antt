-- What a text says that `audit` reads: a scenario and its script, the line `report`, and the lines of a report; and its first fault.
use Rattle.std.specs.Prelude.{◌≡◌, ℕ, ◌+◌, ◌<◌, ◌≤◌, ◌==◌, ◌&&◌, Bool, true, false, nat_eq, List, [], ◌∷◌, ◌++◌, length, take, drop, codes}
use Rattle.std.specs.Prelude.{Ok, Err, Result, if◌then◌else◌, ⊤}
use Rattle.std.specs.List.{flat_map, list_any}
use Rattle.std.specs.Cmp.Lexicographic.{pointwise}
use Rattle.std.specs.Str.Lines.{lines}
use Rattle.scenario_defs.specs.Text.{IsLineOf, line_text}
use Rattle.scenario_defs.specs.declared.event.Script.{Script}
use Rattle.scenario_defs.specs.declared.report.ReportLine.{ReportLine}
use Rattle.scenario_defs.specs.declared.scenario.Scenario.{Scenario}
use Rattle.line_words.specs.declared.fault.Reason.{Reason}
use Rattle.line_words.specs.declared.fault.Reason.TheVariants as reasons
use Rattle.line_words.specs.declared.fault.ReadFault.{ReadFault}
use Rattle.line_words.specs.declared.fault.ReadFault.TheVariants as faults
use Rattle.line_words.specs.declared.fault.TextFault.{TextFault}
use Rattle.line_words.specs.Lines.{are_spaces}
use Rattle.line_words.specs.Words.{unspaced}
use Rattle.report_text.specs.report_lines.Bounds.{HasTypeBounds}
use Rattle.scenario_lines.specs.scenario_draft.Adding.{empty_draft}
use Rattle.scenario_text.specs.Grammar.{script_from}
use Rattle.audit_defs.specs.declared.verdict.Numbered.{Numbered}
use Rattle.audit_defs.specs.declared.verdict.ReportLines.{ReportLines}
use Rattle.audit_text.specs.declared.reader.AuditText.{AuditText}

-- ---- the line `report`

-- whether octets are `report` with nothing but spaces after
abbrev pub is_ended : List ℕ → Bool
is_ended octets = pointwise nat_eq (take 6 octets) (codes "report") && are_spaces (drop 6 octets)

-- whether the only word of a line is `report`: there may be spaces before and after it
abbrev pub is_mark : List ℕ → Bool
is_mark line = is_ended (unspaced line)

-- Lines are cut at the first one whose only word is `report`: those before it, and those after it.
pub record AreCut (all front thereafter : List (List ℕ)) : Type 0 where
  pub mark : List ℕ
  pub is : is_mark mark ≡ true
  pub whole : all ≡ front ++ mark ∷ thereafter
  pub first : list_any is_mark front ≡ false

-- ---- the lines after it

-- The line is written so, without its LF, and what it names is of the scenario.
pub record IsWritten (scenario : Scenario) (octets : List ℕ) (line : ReportLine) : Type 0 where
  pub names : IsLineOf scenario line
  pub bounds : HasTypeBounds line
  pub text : line_text scenario line ≡ octets ++ 10 ∷ []

-- No line of a report of the scenario is written so.
abbrev pub IsNoLine : Scenario → List ℕ → Type 0
IsNoLine scenario octets = (line : ReportLine) → IsWritten scenario octets line → ⊥

-- The lines from that number on are lines of a report, one for one.
abbrev pub AreWritten : Scenario → ℕ → List (List ℕ) → List Numbered → Type 0
AreWritten scenario number [] [] = ⊤
AreWritten scenario number [] (one ∷ more) = ⊥
AreWritten scenario number (octets ∷ rest) [] = ⊥
AreWritten scenario number (octets ∷ rest) (one ∷ more) =
    (one.line ≡ number) × IsWritten scenario octets one.value × AreWritten scenario (number + 1) rest more

-- Some of the lines from that number on are lines of a report, and then there is one that is none; it is the line of that other number.
pub record IsStray (scenario : Scenario) (number : ℕ) (all : List (List ℕ)) (line : ℕ) : Type 0 where
  pub front : List (List ℕ)
  pub octets : List ℕ
  pub rest : List (List ℕ)
  pub whole : all ≡ front ++ octets ∷ rest
  pub before : List Numbered
  pub written : AreWritten scenario number front before
  pub none : IsNoLine scenario octets
  pub at : line ≡ number + length front

-- ---- a text

-- the fault at the first column of a line
abbrev pub fault_of : ℕ → Reason → TextFault
fault_of line reason = record { line = line; column = 1; reason = reason }

-- The text says this script and this report: the lines before the first line `report` say the script, and each line after it is a
-- line of a report. Lines are numbered from the first one of the text.
pub record Says (text : List ℕ) (script : Script) (report : ReportLines) : Type 0 where
  pub short : length text ≤ 16777216
  pub front : List (List ℕ)
  pub thereafter : List (List ℕ)
  pub cut : AreCut (lines text) front thereafter
  pub scripted : script_from empty_draft 1 front ≡ Ok script
  pub reported : AreWritten script.scenario (length front + 2) thereafter report.lines
  pub end : report.end ≡ length front + 2 + length thereafter

-- The first fault of the text: it is too long; there is no line `report`, which is told at the line after the last one, whatever
-- the lines hold; the lines before the line `report` have a fault as a scenario and a script; or a line after it is no line of a
-- report, which is told at its first column.
pub data HasFault (text : List ℕ) (fault : TextFault) : Type 0 where
  IsLong : 16777216 < length text → fault ≡ fault_of 1 reasons.Long → HasFault text fault
  IsUnmarked : length text ≤ 16777216 → list_any is_mark (lines text) ≡ false → fault ≡ fault_of (length (lines text) + 1) reasons.Report
      → HasFault text fault
  OfScript : length text ≤ 16777216 → (front thereafter : List (List ℕ)) → AreCut (lines text) front thereafter
      → script_from empty_draft 1 front ≡ Err fault → HasFault text fault
  OfReport : length text ≤ 16777216 → (front thereafter : List (List ℕ)) → AreCut (lines text) front thereafter
      → (script : Script) → script_from empty_draft 1 front ≡ Ok script → IsStray script.scenario (length front + 2) thereafter fault.line
      → fault ≡ fault_of fault.line reasons.Report → HasFault text fault

-- ---- a report after its script

-- What a line that is written meets: it names what is of the scenario, and its numbers and octets are within the bounds of their types.
abbrev pub IsKnown : Scenario → ReportLine → Type 0
IsKnown scenario line = IsLineOf scenario line × HasTypeBounds line

-- a text, the line `report`, and the lines of a report
abbrev pub with_report : Scenario → List ℕ → List ReportLine → List ℕ
with_report scenario text all = text ++ codes "report\n" ++ flat_map (line_text scenario) all

-- ---- what is read

-- what is read of a text: what it says, or its first fault, unless memory ran out
abbrev pub IsRead : List ℕ → Result AuditText ReadFault → Type 0
IsRead text (Ok found) = Says text found.script found.report
IsRead text (Err (faults.Text fault)) = HasFault text fault
IsRead text (Err faults.NoMemory) = ⊤
