-- Texts of lines and of reports, put together.
use Rattle.std.proofs.Common.{◌≡◌, ℕ, List, [], ◌∷◌, ◌++◌, filter, refl, sym, ap, ◌∙◌, append_assoc}
use Rattle.std.specs.List.{flat_map}
use Rattle.std.proofs.lemmas.List.{map-append}
use Rattle.std.proofs.lemmas.List.Concat.{flat_map-append}
use Rattle.std.proofs.lemmas.List.Elements.{filter-append}
use Rattle.std.proofs.lemmas.List.Folds.{flat_map-map}
use Rattle.scenario_defs.specs.Text.{line_text}
use Rattle.scenario_defs.specs.declared.report.ReportLine.{ReportLine}
use Rattle.scenario_defs.specs.declared.scenario.Scenario.{Scenario}
use Rattle.mvpn_model.specs.Report.{Entry, lines_of}
use Rattle.network_defs.specs.Events.{Happened}
use Rattle.network_defs.specs.Run.{Traced, report_of, traced}
use Rattle.network_events.specs.delivery_laws.Flood.{lines_in}
use Rattle.hop_laws.specs.run_laws.Plain.{is_plain, plain}
use Rattle.mvpn_tool.specs.Report.{is_told, lines_text, text_of}
use Rattle.mvpn_tool.specs.declared.command.Detail.{Detail}
use Rattle.mvpn_tool.specs.declared.command.Detail.TheVariants as details

-- all are kept
pub all_told : (all : List ReportLine) → all ≡ filter (is_told details.Wire) all
all_told [] = refl
all_told (line ∷ more) = ap (λ (l : List ReportLine). line ∷ l) (all_told more)

-- The text of a report is that of those of its lines that are shown.
pub text_by_lines : ((report : List Entry) → lines_of (plain report) ≡ filter is_plain (lines_of report))
    → (detail : Detail) (scenario : Scenario) (report : List Entry) →
    text_of detail scenario report ≡ lines_text detail scenario (lines_of report)
text_by_lines plain_lines details.Wire scenario report = ap (flat_map (line_text scenario)) (all_told (lines_of report))
text_by_lines plain_lines details.Plain scenario report = ap (flat_map (line_text scenario)) (plain_lines report)

-- Lines after lines.
pub lines_text-append : (detail : Detail) (scenario : Scenario) (first more : List ReportLine)
    → lines_text detail scenario (first ++ more) ≡ lines_text detail scenario first ++ lines_text detail scenario more
lines_text-append detail scenario first more =
    ap (flat_map (line_text scenario)) (filter-append (is_told detail) first more)
    ∙ flat_map-append (line_text scenario) (filter (is_told detail) first) (filter (is_told detail) more)

pub lines_of-append : (first more : List Entry) → lines_of (first ++ more) ≡ lines_of first ++ lines_of more
lines_of-append first more = flat_map-append (λ (entry : Entry). entry.lines) first more

abbrev entry_of : Traced → Entry
entry_of step = record { event = step.event; lines = step.happened.lines }

abbrev step_at : ℕ → Happened → Traced
step_at number happened = record { event = number; happened = happened }

-- the lines of the acts of an event
pub lines_at : (number : ℕ) (acts : List Happened) → lines_of (report_of (traced number acts)) ≡ lines_in acts
lines_at number acts =
    flat_map-map (λ (entry : Entry). entry.lines) entry_of (traced number acts)
    ∙ flat_map-map (λ (step : Traced). step.happened.lines) (step_at number) acts

pub report_of-append : (first more : List Traced) → report_of (first ++ more) ≡ report_of first ++ report_of more
report_of-append first more = map-append entry_of first more

module _ (texts : (detail : Detail) (scenario : Scenario) (report : List Entry)
    → text_of detail scenario report ≡ lines_text detail scenario (lines_of report)) where
  -- Entries after entries.
  pub text_of-append : (detail : Detail) (scenario : Scenario) (first more : List Entry)
      → text_of detail scenario (first ++ more) ≡ text_of detail scenario first ++ text_of detail scenario more
  text_of-append detail scenario first more =
      texts detail scenario (first ++ more) ∙ ap (lines_text detail scenario) (lines_of-append first more)
      ∙ lines_text-append detail scenario (lines_of first) (lines_of more)
      ∙ (λ i. sym (texts detail scenario first) i ++ sym (texts detail scenario more) i)

  -- The acts of one event more.
  pub text_more : (detail : Detail) (scenario : Scenario) (trace : List Traced) (number : ℕ) (acts : List Happened) →
      text_of detail scenario (report_of (trace ++ traced number acts)) ≡ text_of detail scenario (report_of trace)
      ++ lines_text detail scenario (lines_in acts)
  text_more detail scenario trace number acts =
      ap (text_of detail scenario) (report_of-append trace (traced number acts))
      ∙ text_of-append detail scenario (report_of trace) (report_of (traced number acts))
      ∙ ap (λ (l : List ℕ). text_of detail scenario (report_of trace) ++ l)
      (texts detail scenario (report_of (traced number acts)) ∙ ap (lines_text detail scenario) (lines_at number acts))

  -- Those of an event that runs out of labels, and the line that says so.
  pub text_halted : (detail : Detail) (scenario : Scenario) (trace : List Traced) (number : ℕ) (acts : List Happened) (line : ReportLine) →
      text_of detail scenario (report_of (trace ++ traced number acts) ++ record { event = number; lines = line ∷ [] } ∷ [])
      ≡ text_of detail scenario (report_of trace) ++ lines_text detail scenario (lines_in acts ++ line ∷ [])
  text_halted detail scenario trace number acts line =
      let last : List Entry = record { event = number; lines = line ∷ [] } ∷ [] in
      let parts : List ℕ = text_of detail scenario (report_of trace) in
      text_of-append detail scenario (report_of (trace ++ traced number acts)) last
      ∙ (λ i. text_more detail scenario trace number acts i ++ texts detail scenario last i)
      ∙ append_assoc parts (lines_text detail scenario (lines_in acts)) (lines_text detail scenario (line ∷ []))
      ∙ ap (λ (l : List ℕ). parts ++ l) (sym (lines_text-append detail scenario (lines_in acts) (line ∷ [])))

  -- Nothing is shown of an empty report.
  pub text_none : (detail : Detail) (scenario : Scenario) → text_of detail scenario [] ≡ []
  text_none detail scenario = texts detail scenario []
