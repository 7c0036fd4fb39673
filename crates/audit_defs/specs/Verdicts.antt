-- The offences of a report, and the verdict: the least of them.
use Rattle.std.specs.Prelude.{◌≡◌, ℕ, ◌+◌, ◌<◌, ◌≤◌, ◌⊎◌, Bool, true, false, take, slice_get, Some}
use Rattle.std.specs.List.{list_any}
use Rattle.scenario_defs.specs.declared.event.Script.{Script}
use Rattle.scenario_defs.specs.declared.report.ReportLine.{ReportLine}
use Rattle.scenario_defs.specs.declared.report.ReportLine.TheVariants as lines
use Rattle.mvpn_model.specs.Once.{Once}
use Rattle.mvpn_model.specs.Safe.{Safe}
use Rattle.audit_defs.specs.declared.verdict.Numbered.{Numbered}
use Rattle.audit_defs.specs.declared.verdict.Offence.{Offence}
use Rattle.audit_defs.specs.declared.verdict.Offence.TheVariants as offences
use Rattle.audit_defs.specs.declared.verdict.ReportLines.{ReportLines}
use Rattle.audit_defs.specs.declared.verdict.Verdict.{Verdict}
use Rattle.audit_defs.specs.declared.verdict.Verdict.TheVariants as verdicts
use Rattle.audit_defs.specs.Markers.{values, is_marker, markers, fit, begin}
use Rattle.audit_defs.specs.Cut.{Audited, audited, cut}
use Rattle.audit_defs.specs.Offences.{HasNoDatagram, HasOtherOctets, IsNotAdmitted, IsAgain, IsNotAsked, IsMissing}

-- ---- markers and halts

-- The first marker that does not fit: those before it begin to fit, and with it they do not.
pub record IsMisfit (script : Script) (report : ReportLines) (line : ℕ) : Type 0 where
  pub place : ℕ
  pub marker : Numbered
  pub at : slice_get report.lines place ≡ Some marker
  pub of_line : marker.line ≡ line
  pub is : is_marker marker.value ≡ true
  pub before : begin script.events (markers (take place report.lines)) ≡ true
  pub with : begin script.events (markers (take (place + 1) report.lines)) ≡ false

-- All markers begin to fit, and events are left that have none: the offence is at the line after the last.
pub record IsCutShort (script : Script) (report : ReportLines) (line : ℕ) : Type 0 where
  pub at_end : report.end ≡ line
  pub begins : begin script.events (markers report.lines) ≡ true
  pub misfits : fit script.events (markers report.lines) ≡ false

abbrev pub is_halt : ReportLine → Bool
is_halt (lines.Halt line node) = true
is_halt other = false

pub record IsHaltLine (report : ReportLines) (line : ℕ) : Type 0 where
  pub place : ℕ
  pub halt : Numbered
  pub at : slice_get report.lines place ≡ Some halt
  pub of_line : halt.line ≡ line
  pub is : is_halt halt.value ≡ true

-- ---- all offences

-- The markers fit, and there is no `halt` line: only then are the other offences judged.
pub record AreJudged (script : Script) (report : ReportLines) : Type 0 where
  pub fitting : fit script.events (markers report.lines) ≡ true
  pub unhalted : list_any is_halt (values report.lines) ≡ false

-- what is judged then
abbrev pub of_report : Script → ReportLines → Audited
of_report script report = audited script report.lines

-- The report has that offence at that line of the text.
abbrev pub Offends : Script → ReportLines → ℕ → Offence → Type 0
Offends script report line offences.Markers = IsMisfit script report line ⊎ IsCutShort script report line
Offends script report line offences.Halt = IsHaltLine report line
Offends script report line offences.Number = AreJudged script report × HasNoDatagram (of_report script report) line
Offends script report line offences.Bytes = AreJudged script report × HasOtherOctets (of_report script report) line
Offends script report line offences.Admit = AreJudged script report × IsNotAdmitted (of_report script report) line
Offends script report line offences.Again = AreJudged script report × IsAgain (of_report script report) line
Offends script report line offences.Asked = AreJudged script report × IsNotAsked (of_report script report) line
Offends script report line offences.Missing = AreJudged script report × IsMissing (of_report script report) line

abbrev pub HasNoOffence : Script → ReportLines → Type 0
HasNoOffence script report = (line : ℕ) (reason : Offence) → Offends script report line reason → ⊥

-- ---- the verdict

-- the order of the offences at one line
abbrev pub rank : Offence → ℕ
rank offences.Markers = 0
rank offences.Halt = 1
rank offences.Number = 2
rank offences.Bytes = 3
rank offences.Admit = 4
rank offences.Again = 5
rank offences.Asked = 6
rank offences.Missing = 7

-- It is the least offence: each is at a later line, or at that line and no earlier in the order.
pub record IsLeast (script : Script) (report : ReportLines) (line : ℕ) (reason : Offence) : Type 0 where
  pub offends : Offends script report line reason
  pub least :
      (other : ℕ) (another : Offence) → Offends script report other another →
      (line < other) ⊎ ((line ≡ other) × (rank reason ≤ rank another))

abbrev pub IsVerdict : Script → ReportLines → Verdict → Type 0
IsVerdict script report verdicts.Yes = HasNoOffence script report
IsVerdict script report (verdicts.No line reason) = IsLeast script report line reason

-- ---- what no offence means

-- The markers fit, no node lacked a label, and the report as it is cut by its markers is safe and delivers once. Those that count as
-- refused are the events that the report names, and malformed ones that it does not name.
pub record IsFair (script : Script) (report : ReportLines) : Type 0 where
  pub judged : AreJudged script report
  pub safe : Safe script.scenario script.events (of_report script report).refused (cut (of_report script report))
  pub once : Once script.scenario script.events (of_report script report).refused (cut (of_report script report))
