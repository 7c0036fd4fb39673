-- How an audit may end: what it read, and what it wrote.
use Rattle.std.specs.Prelude.{◌≡◌, ℕ, ◌++◌, ◌⊎◌, ⊤, codes, List, [], Option, None, Some, Result, Ok, Err}
use Rattle.std.specs.Fmt.{decimal}
use Rattle.mv_io.specs.Octets.{Appended, AppendedPart}
use Rattle.scenario_defs.specs.declared.event.Script.{Script}
use Rattle.line_words.specs.FaultText.{fault_text}
use Rattle.line_words.specs.declared.fault.TextFault.{TextFault}
use Rattle.audit_defs.specs.declared.verdict.Offence.{Offence}
use Rattle.audit_defs.specs.declared.verdict.Offence.TheVariants as offences
use Rattle.audit_defs.specs.declared.verdict.ReportLines.{ReportLines}
use Rattle.audit_defs.specs.declared.verdict.Verdict.{Verdict}
use Rattle.audit_defs.specs.declared.verdict.Verdict.TheVariants as verdicts
use Rattle.audit_defs.specs.Verdicts.{IsVerdict}
use Rattle.audit_text.specs.Texts.{HasFault, Says}
use Rattle.mvpn_tool.specs.Input.{IsInput, Taken}
use Rattle.mvpn_tool.specs.declared.stop.Stop.{Stop}
use Rattle.mvpn_tool.specs.declared.stop.Stop.TheVariants as stops

-- ---- what is written

-- the word of an offence
abbrev pub offence_word : Offence → List ℕ
offence_word offences.Markers = codes "markers"
offence_word offences.Halt = codes "halt"
offence_word offences.Number = codes "number"
offence_word offences.Bytes = codes "bytes"
offence_word offences.Admit = codes "admit"
offence_word offences.Again = codes "again"
offence_word offences.Asked = codes "asked"
offence_word offences.Missing = codes "missing"

-- the line that says a verdict
abbrev pub verdict_text : Verdict → List ℕ
verdict_text verdicts.Yes = codes "yes\n"
verdict_text (verdicts.No line reason) = codes "no " ++ decimal line ++ codes " " ++ offence_word reason ++ codes "\n"

-- ---- a report

-- A prefix of the line of its verdict was written.
pub record VerdictPart (script : Script) (report : ReportLines) (old new : Option (List ℕ)) : Type 0 where
  pub verdict : Verdict
  pub is : IsVerdict script report verdict
  pub part : AppendedPart old new (verdict_text verdict)

-- how the judgement of a report ends
abbrev pub VerdictEnds : Script → ReportLines → Result Verdict Stop → Option (List ℕ) → Option (List ℕ) → Type 0
VerdictEnds script report (Ok verdict) old new = IsVerdict script report verdict × Appended old new (verdict_text verdict)
VerdictEnds script report (Err stops.Memory) old new = Appended old new []
VerdictEnds script report (Err other) old new = VerdictPart script report old new

-- ---- a source

-- The input says a script and a report with that verdict, and the line that says it was written.
pub record Judged (left old new : Option (List ℕ)) (verdict : Verdict) : Type 0 where
  pub input : List ℕ
  pub is_input : IsInput left input
  pub script : Script
  pub report : ReportLines
  pub said : Says input script report
  pub is : IsVerdict script report verdict
  pub text : Appended old new (verdict_text verdict)

-- The text has a fault, and the line that shows it was written alone.
pub record AuditsFaulty (left old new : Option (List ℕ)) : Type 0 where
  pub input : List ℕ
  pub is_input : IsInput left input
  pub fault : TextFault
  pub has : HasFault input fault
  pub text : Appended old new (fault_text fault)

-- what an audit writes of an input: the line of the verdict, or that of the text's fault
pub data Tells (input text : List ℕ) : Type 0 where
  OfVerdict : (script : Script) → (report : ReportLines) → (verdict : Verdict) → Says input script report → IsVerdict script report verdict
      → text ≡ verdict_text verdict → Tells input text
  OfFault : (fault : TextFault) → HasFault input fault → text ≡ fault_text fault → Tells input text

-- A prefix of that was written.
pub record AuditsEarly (left old new : Option (List ℕ)) : Type 0 where
  pub input : List ℕ
  pub is_input : IsInput left input
  pub text : List ℕ
  pub tells : Tells input text
  pub part : AppendedPart old new text

-- how an audit ends
abbrev pub AuditEnds : Option (List ℕ) → Result Verdict Stop → Option (List ℕ) → Option (List ℕ) → Type 0
AuditEnds left (Ok verdict) old new = Judged left old new verdict
AuditEnds left (Err stops.Text) old new = AuditsFaulty left old new
AuditEnds left (Err stops.Source) old new = Appended old new []
AuditEnds left (Err stops.Sink) old new = AuditsEarly left old new
AuditEnds left (Err stops.Memory) old new = Appended old new [] ⊎ AuditsEarly left old new
AuditEnds left (Err stops.Label) old new = ⊥

-- The input was taken, unless the source failed or memory ran out.
abbrev pub AuditTakes : Result Verdict Stop → Option (List ℕ) → Option (List ℕ) → Type 0
AuditTakes (Ok verdict) left rest = Taken left rest
AuditTakes (Err stops.Text) left rest = Taken left rest
AuditTakes (Err stops.Source) left rest = ⊤
AuditTakes (Err stops.Sink) left rest = Taken left rest
AuditTakes (Err stops.Memory) left rest = ⊤
AuditTakes (Err stops.Label) left rest = ⊥
