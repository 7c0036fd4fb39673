-- What is written of reports, put together.
use Rattle.std.proofs.Common.{◌≡◌, ℕ, List, [], ◌∷◌, ◌++◌, take, slice_get, Some, sym, ap, ◌∙◌, append-nil, append_assoc}
use Rattle.std.specs.List.{flat_map}
use Rattle.std.proofs.lemmas.List.Concat.{flat_map-append}
use Rattle.core_pcap.specs.declared.hop.CoreHop.{CoreHop}
use Rattle.core_pcap.specs.declared.order.ByteOrder.TheVariants.{BigEndian}
use Rattle.core_pcap.specs.Spelling.{hop_text}
use Rattle.mv_base.specs.declared.ids.NodeId.{NodeId}
use Rattle.scenario_defs.specs.Rules.{ScriptRules}
use Rattle.scenario_defs.specs.declared.event.Script.{Script}
use Rattle.scenario_defs.specs.declared.event.Timed.{Timed}
use Rattle.scenario_defs.specs.declared.report.ReportLine.{ReportLine}
use Rattle.scenario_defs.specs.declared.report.ReportLine.TheVariants as lines
use Rattle.scenario_defs.specs.declared.scenario.Scenario.{Scenario}
use Rattle.mvpn_model.specs.Report.{Entry, lines_of, refused_line, refused_lines}
use Rattle.network_defs.specs.Costs.{Cores}
use Rattle.network_defs.specs.Events.{Happened, Done, Halted}
use Rattle.network_defs.specs.Run.{Run, Traced, outcome, report_of, traced}
use Rattle.network_defs.specs.World.{World}
use Rattle.network_events.specs.delivery_laws.Flood.{lines_in}
use Rattle.hop_laws.specs.Hops.{hops_of}
use Rattle.hop_laws.proofs.Ends.{halting_hops, hops_at_halt, hops_next}
use Rattle.mvpn_tool.specs.Known.{ReportGoesOn}
use Rattle.mvpn_tool.specs.Output.{body_of, event_hops, event_output, front_of, output_of}
use Rattle.mvpn_tool.specs.Report.{lines_text, text_of}
use Rattle.mvpn_tool.specs.declared.command.Detail.{Detail}
use Rattle.mvpn_tool.specs.declared.command.Output.{Output}
use Rattle.mvpn_tool.specs.declared.command.Output.TheVariants as outputs
use Rattle.mvpn_tool.proofs.TextLemmas.{text_halted, text_more, text_none, text_of-append}

module _ (texts : (detail : Detail) (scenario : Scenario) (report : List Entry)
    → text_of detail scenario report ≡ lines_text detail scenario (lines_of report)) where
  -- Nothing but the front is written of an empty report.
  pub output_none : (output : Output) (script : Script) → output_of output script [] ≡ front_of output
  output_none (outputs.Report detail) script = text_none texts detail script.scenario
  output_none outputs.Hops script = append-nil (front_of outputs.Hops)

  -- The output of a report that goes on begins with that of its first entries.
  pub output_begins : (output : Output) (script : Script) (first : List Entry) (on : ReportGoesOn script first)
      → (rest : List ℕ) × (output_of output script on.report ≡ output_of output script first ++ rest)
  output_begins (outputs.Report detail) script first on = (
    text_of detail script.scenario on.more,
    ap (text_of detail script.scenario) on.whole
        ∙ text_of-append texts detail script.scenario first on.more,
  )
  output_begins outputs.Hops script first on = (
    flat_map (hop_text BigEndian) on.more_hops,
    ap (λ (hops : List CoreHop). front_of outputs.Hops ++ flat_map (hop_text BigEndian) hops) on.hops
        ∙ ap (λ (l : List ℕ). front_of outputs.Hops ++ l) (flat_map-append (hop_text BigEndian) (hops_of script.events first) on.more_hops)
        ∙ sym (append_assoc (front_of outputs.Hops) (flat_map (hop_text BigEndian) (hops_of script.events first))
        (flat_map (hop_text BigEndian) on.more_hops)),
  )

  module _ (cores : Cores) (script : Script) (rules : ScriptRules script) (count : ℕ) (trace : List Traced) (state : World)
      (run : Run cores script (take count script.events) trace state)
      (timed : Timed) (at : slice_get script.events count ≡ Some timed) (acts : List Happened) where
    -- what is written of the event's lines
    abbrev own_output : Output → List ReportLine → List ℕ
    own_output output own = event_output output script.scenario script.events (report_of trace) count own

    module _ (next : World) (is : outcome state timed ≡ Done acts next) where
      body_more : (output : Output) → body_of output script (report_of (trace ++ traced count acts)) ≡ body_of output script (report_of trace)
          ++ own_output output (lines_in acts)
      body_more (outputs.Report detail) = text_more texts detail script.scenario trace count acts
      body_more outputs.Hops =
          ap (flat_map (hop_text BigEndian)) (hops_next cores script count trace state run rules timed at acts next is)
          ∙ flat_map-append (hop_text BigEndian) (hops_of script.events (report_of trace))
          (event_hops script.events (report_of trace) count (lines_in acts))

      -- The acts of one event more.
      pub output_more : (output : Output) → output_of output script (report_of (trace ++ traced count acts))
          ≡ output_of output script (report_of trace) ++ own_output output (lines_in acts)
      output_more output =
          ap (λ (l : List ℕ). front_of output ++ l) (body_more output)
          ∙ sym (append_assoc (front_of output) (body_of output script (report_of trace)) (own_output output (lines_in acts)))

    module _ (node : NodeId) (is : outcome state timed ≡ Halted acts node) where
      abbrev halted : List Entry
      halted = report_of (trace ++ traced count acts) ++ record { event = count; lines = lines.Halt timed.line node ∷ [] } ∷ []

      body_halted : (output : Output) → body_of output script halted ≡ body_of output script (report_of trace)
          ++ own_output output (lines_in acts ++ lines.Halt timed.line node ∷ [])
      body_halted (outputs.Report detail) = text_halted texts detail script.scenario trace count acts (lines.Halt timed.line node)
      body_halted outputs.Hops =
          let own = lines_in acts ++ lines.Halt timed.line node ∷ [] in
          let so_far = flat_map (hop_text BigEndian) (hops_of script.events (report_of trace)) in
          ap (flat_map (hop_text BigEndian)) (hops_at_halt cores script count trace state run timed acts node is)
          ∙ sym (append-nil so_far)
          ∙ ap (λ (hops : List CoreHop). so_far ++ flat_map (hop_text BigEndian) hops)
          (sym (halting_hops state timed acts node is script.events (refused_lines (report_of trace) ++ flat_map refused_line own) count))

      -- Those of an event that runs out of labels, and the line that says so.
      pub output_halted : (output : Output) → output_of output script halted ≡ output_of output script (report_of trace)
          ++ own_output output (lines_in acts ++ lines.Halt timed.line node ∷ [])
      output_halted output =
          ap (λ (l : List ℕ). front_of output ++ l) (body_halted output)
          ∙ sym (append_assoc (front_of output) (body_of output script (report_of trace))
          (own_output output (lines_in acts ++ lines.Halt timed.line node ∷ [])))
