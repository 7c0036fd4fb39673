-- What is shown of a whole run, after its script and the line `report`, says that report, and it has no offence.
use Rattle.std.proofs.Common.{◌≡◌, ◌⊎◌, ℕ, ◌≤◌, Bool, true, false, cond, List, [], ◌∷◌, ◌++◌, length, filter, refl, inl, inr, sym, ap, subst, ◌∙◌}
use Rattle.std.specs.Prelude.{Option, Ok, codes}
use Rattle.std.specs.List.{AllByRecursion}
use Rattle.scenario_defs.specs.declared.event.Script.{Script}
use Rattle.scenario_defs.specs.declared.report.ReportLine.{ReportLine}
use Rattle.scenario_defs.specs.declared.scenario.Scenario.{Scenario}
use Rattle.scenario_text.specs.Grammar.{script_of}
use Rattle.mvpn_model.specs.Report.{Entry, lines_of}
use Rattle.network_defs.specs.Run.{report_of}
use Rattle.network_events.specs.WorldView.{WorldView}
use Rattle.hop_laws.specs.run_laws.Plain.{is_plain, plain}
use Rattle.audit_defs.specs.declared.verdict.ReportLines.{ReportLines}
use Rattle.audit_defs.specs.Markers.{values}
use Rattle.audit_defs.specs.Verdicts.{HasNoOffence}
use Rattle.audit_text.specs.Texts.{IsKnown, Says, with_report}
use Rattle.mvpn_tool.specs.declared.command.Detail.{Detail}
use Rattle.mvpn_tool.specs.declared.command.Detail.TheVariants as details
use Rattle.mvpn_tool.specs.declared.command.Output.TheVariants as outputs
use Rattle.mvpn_tool.specs.Outcome.{ReplaysWhole}
use Rattle.mvpn_tool.specs.Report.{is_told, own_report}
use Rattle.mvpn_tool.proofs.TextLemmas.{all_told, text_by_lines}

known_told : (test : ReportLine → Bool) (scenario : Scenario) (all : List ReportLine) → AllByRecursion (IsKnown scenario) all
    → AllByRecursion (IsKnown scenario) (filter test all)
known_told test scenario [] known = tt
known_told test scenario (line ∷ more) known = by (test line) (known_told test scenario more known.1)
  where
    by : (told : Bool) → AllByRecursion (IsKnown scenario) (filter test more)
        → AllByRecursion (IsKnown scenario) (cond told (line ∷ filter test more) (filter test more))
    by true rest = (known.0, rest)
    by false rest = rest

module _ (plain_lines : (report : List Entry) → lines_of (plain report) ≡ filter is_plain (lines_of report))
    (said : (front : List ℕ) (script : Script) (all : List ReportLine) → script_of (front ++ 10 ∷ []) ≡ Ok script
    → AllByRecursion (IsKnown script.scenario) all →
    length (with_report script.scenario (front ++ 10 ∷ []) all) ≤ 16777216 →
    (report : ReportLines) × Says (with_report script.scenario (front ++ 10 ∷ []) all) script report × (values report.lines ≡ all)) where
  -- the lines that are shown are those of the report, or of the plain one
  told_lines : (detail : Detail) (report : List Entry) (own : ReportLines) → values own.lines ≡ filter (is_told detail) (lines_of report) →
      (values own.lines ≡ lines_of report) ⊎ (values own.lines ≡ lines_of (plain report))
  told_lines details.Wire report own e = inl (e ∙ sym (all_told (lines_of report)))
  told_lines details.Plain report own e = inr (e ∙ sym (plain_lines report))

  pub own_reports : (detail : Detail) (front : List ℕ) (script : Script) (old new : Option (List ℕ)) (view : WorldView)
      → script_of (front ++ 10 ∷ []) ≡ Ok script →
      (whole : ReplaysWhole (outputs.Report detail) script old new view)
      → length (own_report detail (front ++ 10 ∷ []) script (report_of whole.replayed.trace)) ≤ 16777216 →
      (report : ReportLines) × Says (own_report detail (front ++ 10 ∷ []) script (report_of whole.replayed.trace)) script report
      × HasNoOffence script report
  own_reports detail front script old new view is whole short =
      let report : List Entry = report_of whole.replayed.trace in
      let all : List ReportLine = filter (is_told detail) (lines_of report) in
      let same : own_report detail (front ++ 10 ∷ []) script report ≡ with_report script.scenario (front ++ 10 ∷ []) all =
      ap (λ (l : List ℕ). front ++ 10 ∷ [] ++ codes "report\n" ++ l) (text_by_lines plain_lines detail script.scenario report) in
      let found =
      said front script all is (known_told (is_told detail) script.scenario (lines_of report) whole.replayed.known)
      (subst (λ (l : List ℕ). length l ≤ 16777216) same short) in
      (found.0, subst (λ (l : List ℕ). Says l script found.0) (sym same) found.1, whole.whole.fair found.0 (told_lines detail report found.0 found.2))
