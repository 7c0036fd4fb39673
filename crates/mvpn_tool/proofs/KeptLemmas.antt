-- What is kept of the events before the next one, and what is written of it by that.
use Rattle.std.proofs.Common.{◌≡◌, ℕ, zero, suc, ◌+◌, ◌<◌, ◌≤◌, ◌^◌, List, [], ◌∷◌, ◌++◌, length, take, slice_get, Some, refl, sym, ap, subst, ◌∙◌, arith}
use Rattle.std.specs.Prelude.{All}
use Rattle.std.specs.List.{flat_map}
use Rattle.core_pcap.specs.declared.hop.CoreHop.{CoreHop}
use Rattle.core_pcap.specs.declared.order.ByteOrder.TheVariants.{BigEndian}
use Rattle.core_pcap.specs.Spelling.{IsHop, hop_text}
use Rattle.mv_base.specs.declared.ids.NodeId.{NodeId}
use Rattle.scenario_defs.specs.Rules.{IsEventOf}
use Rattle.scenario_defs.specs.declared.event.Event.{Event}
use Rattle.scenario_defs.specs.declared.event.Event.TheVariants as events
use Rattle.scenario_defs.specs.declared.event.Timed.{Timed}
use Rattle.scenario_defs.specs.declared.report.ReportLine.{ReportLine}
use Rattle.scenario_defs.specs.declared.report.ReportLine.TheVariants as lines
use Rattle.scenario_defs.specs.declared.scenario.Scenario.{Scenario}
use Rattle.mvpn_model.specs.Past.{ticks_in, ticks_of}
use Rattle.mvpn_model.specs.Report.{refused_line, refused_lines}
use Rattle.mvpn_model.proofs.TicksLemmas.{clock_small}
use Rattle.network_defs.specs.Events.{Happened, Done, Halted}
use Rattle.network_defs.specs.Run.{outcome, report_of, traced}
use Rattle.network_defs.specs.World.{World}
use Rattle.network_events.specs.WorldView.{WorldView}
use Rattle.network_events.specs.delivery_laws.Flood.{lines_in}
use Rattle.network_events.proofs.network_laws.Lists.{each_at}
use Rattle.hop_laws.specs.Hops.{hop_by, sent_in}
use Rattle.hop_laws.proofs.Ends.{halting_hops}
use Rattle.hop_laws.proofs.Hops.{acts_refused, refused-append}
use Rattle.hop_laws.proofs.Sent.{sent_next}
use Rattle.mvpn_tool.specs.Outcome.{Place, written_at}
use Rattle.mvpn_tool.specs.Output.{HasShortPayload, IsKept, MayGoOn, MayWrite, event_hops, event_output, halt_output, hops_after, kept_after, output_after, sent_after}
use Rattle.mvpn_tool.specs.declared.command.Output.{Output}
use Rattle.mvpn_tool.specs.declared.command.Output.TheVariants as outputs
use Rattle.mvpn_tool.specs.declared.sent_hops.SoFar.{SoFar}
use Rattle.mvpn_tool.proofs.TextLemmas.{report_of-append}

ticks_next : (all : List Timed) (place : ℕ) (timed : Timed) → slice_get all place ≡ Some timed
    → ticks_in (take (suc place) all) ≡ ticks_in (take place all) + ticks_of timed.event
ticks_next [] place timed at = absurd cc
ticks_next (first ∷ more) zero timed at =
    (let same : first ≡ timed = cc in
    ap (λ (t : Timed). ticks_of t.event + 0) same ∙ (let swap : ticks_of timed.event + 0 ≡ 0 + ticks_of timed.event = omega arith in swap))
ticks_next (first ∷ more) (suc place) timed at =
    ap (λ (n : ℕ). ticks_of first.event + n) (ticks_next more place timed at)
    ∙ (let grouped : ticks_of first.event + (ticks_in (take place more) + ticks_of timed.event)
    ≡ ticks_of first.event + ticks_in (take place more) + ticks_of timed.event = omega arith in grouped)

short_payload : (scenario : Scenario) (event : Event) → IsEventOf scenario event → HasShortPayload event
short_payload scenario (events.Send site source group payload) is = is.2
short_payload scenario other is = tt

module _ (scenario : Scenario) (timed : Timed) (view : WorldView) (so_far : SoFar) (place : Place outputs.Hops scenario timed view so_far) where
  clock_next : ticks_in (take (place.count + 1) place.script.events) ≡ so_far.clock + ticks_of timed.event
  clock_next =
      let same : place.count + 1 ≡ suc place.count = omega arith in
      ap (λ (n : ℕ). ticks_in (take n place.script.events)) same ∙ ticks_next place.script.events place.count timed place.next
      ∙ ap (λ (n : ℕ). n + ticks_of timed.event) (sym place.kept.0)

  module _ (acts : List Happened) (next : World) (is : outcome place.state timed ≡ Done acts next) where
    -- the datagrams that were sent by then
    sent_then : sent_after so_far.sent timed (lines_in acts)
        ≡ sent_in place.script.events (refused_lines (report_of place.trace) ++ flat_map refused_line (lines_in acts)) (place.count + 1)
    sent_then =
        ap (λ (sent : List (List ℕ)). sent_after sent timed (lines_in acts)) place.kept.1
        ∙ sym (sent_next place.cores place.script place.count place.trace place.state place.thereafter.is.run place.thereafter.rules timed place.next acts
        next is)

    -- The hops by what is kept are those of the event.
    hops_then : hops_after so_far timed (lines_in acts) ≡ event_hops place.script.events (report_of place.trace) place.count (lines_in acts)
    hops_then = λ i. flat_map (hop_by (place.kept.0 i) (sent_then i)) (lines_in acts)

    kept_hops : IsKept outputs.Hops place.script.events (report_of (place.trace ++ traced place.count acts)) (place.count + 1)
        (kept_after outputs.Hops timed so_far (lines_in acts))
    kept_hops =
        let own = traced place.count acts in
        let refused : refused_lines (report_of place.trace) ++ flat_map refused_line (lines_in acts)
        ≡ refused_lines (report_of (place.trace ++ own)) =
        ap (λ (l : List ℕ). refused_lines (report_of place.trace) ++ l) (sym (acts_refused place.count acts))
        ∙ sym (ap refused_lines (report_of-append place.trace own) ∙ refused-append (report_of place.trace) (report_of own)) in
        (sym clock_next, sent_then ∙ ap (λ (l : List ℕ). sent_in place.script.events l (place.count + 1)) refused)

    may_go_on : All IsHop (event_hops place.script.events (report_of place.trace) place.count (lines_in acts)) → MayGoOn timed so_far (lines_in acts)
    may_go_on spelled = record {
      payload =
          short_payload place.script.scenario timed.event
          (each_at (λ (t : Timed). IsEventOf place.script.scenario t.event) place.script.events place.count timed place.thereafter.rules.events
          place.next);
      clock = subst (λ (n : ℕ). n < 2 ^ 63) clock_next (clock_small place.script (place.count + 1) place.thereafter.rules);
      hops = subst (All IsHop) (sym hops_then) spelled;
    }

-- ---- any output

module _ (scenario : Scenario) (timed : Timed) (view : WorldView) (so_far : SoFar) where
  pub may_write : (output : Output) (place : Place output scenario timed view so_far) (acts : List Happened) (next : World)
      → outcome place.state timed ≡ Done acts next →
      All IsHop (event_hops place.script.events (report_of place.trace) place.count (lines_in acts)) → MayWrite output timed so_far (lines_in acts)
  may_write (outputs.Report detail) place acts next is spelled = tt
  may_write outputs.Hops place acts next is spelled = may_go_on scenario timed view so_far place acts next is spelled

  pub written_then : (output : Output) (place : Place output scenario timed view so_far) (acts : List Happened) (next : World)
      → outcome place.state timed ≡ Done acts next →
      output_after output scenario timed so_far (lines_in acts)
      ≡ event_output output scenario place.script.events (report_of place.trace) place.count (lines_in acts)
  written_then (outputs.Report detail) place acts next is = refl
  written_then outputs.Hops place acts next is = ap (flat_map (hop_text BigEndian)) (hops_then scenario timed view so_far place acts next is)

  pub kept_then : (output : Output) (place : Place output scenario timed view so_far) (acts : List Happened) (next : World)
      → outcome place.state timed ≡ Done acts next →
      IsKept output place.script.events (report_of (place.trace ++ traced place.count acts)) (place.count + 1)
      (kept_after output timed so_far (lines_in acts))
  kept_then (outputs.Report detail) place acts next is = tt
  kept_then outputs.Hops place acts next is = kept_hops scenario timed view so_far place acts next is

  -- An event that runs out of labels has no hops.
  pub written_halted : (output : Output) (place : Place output scenario timed view so_far) (acts : List Happened) (node : NodeId)
      → outcome place.state timed ≡ Halted acts node →
      halt_output output scenario (lines_in acts ++ lines.Halt timed.line node ∷ [])
      ≡ event_output output scenario place.script.events (report_of place.trace) place.count (lines_in acts ++ lines.Halt timed.line node ∷ [])
  written_halted (outputs.Report detail) place acts node is = refl
  written_halted outputs.Hops place acts node is =
      let own = lines_in acts ++ lines.Halt timed.line node ∷ [] in
      ap (flat_map (hop_text BigEndian)) (sym (halting_hops place.state timed acts node is place.script.events
      (refused_lines (report_of place.trace) ++ flat_map refused_line own) place.count))
