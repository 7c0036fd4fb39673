-- What is read of the lines of a report, one by one.
use Rattle.std.specs.Prelude.{◌≡◌, ℕ, ◌+◌, List, length, Ok, Err, Result, ⊤}
use Rattle.scenario_defs.specs.declared.scenario.Scenario.{Scenario}
use Rattle.line_words.specs.declared.fault.Reason.TheVariants as reasons
use Rattle.line_words.specs.declared.fault.ReadFault.{ReadFault}
use Rattle.line_words.specs.declared.fault.ReadFault.TheVariants as faults
use Rattle.audit_defs.specs.declared.verdict.Numbered.{Numbered}
use Rattle.audit_defs.specs.declared.verdict.ReportLines.{ReportLines}
use Rattle.audit_text.specs.Texts.{AreWritten, IsNoLine, IsStray, IsWritten, fault_of}

-- what is read of the line of that number: a line of a report, or that it is none
abbrev pub IsReadLine : Scenario → ℕ → List ℕ → Result Numbered ReadFault → Type 0
IsReadLine scenario number octets (Ok one) = (one.line ≡ number) × IsWritten scenario octets one.value
IsReadLine scenario number octets (Err (faults.Text fault)) = IsNoLine scenario octets × (fault ≡ fault_of number reasons.Report)
IsReadLine scenario number octets (Err faults.NoMemory) = ⊤

-- what is read of all lines from that number on
abbrev pub IsReadReport : Scenario → ℕ → List (List ℕ) → Result ReportLines ReadFault → Type 0
IsReadReport scenario number all (Ok report) = AreWritten scenario number all report.lines × (report.end ≡ number + length all)
IsReadReport scenario number all (Err (faults.Text fault)) =
    IsStray scenario number all fault.line × (fault ≡ fault_of fault.line reasons.Report)
IsReadReport scenario number all (Err faults.NoMemory) = ⊤
