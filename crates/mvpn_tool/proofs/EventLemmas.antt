-- Laws of one event.
use Rattle.std.proofs.Common.{◌≡◌, ℕ, ◌+◌, ◌⊎◌, inl, inr, List, [], ◌∷◌, ◌++◌, take, refl, sym, ap, subst, ◌∙◌}
use Rattle.std.specs.Prelude.{Option, Result, Ok, Err, OnOk, OnErr, IfErr, All}
use Rattle.std.specs.List.{AllByRecursion}
use Rattle.std.proofs.lemmas.List.Elements.{recursion_from_All}
use Rattle.mv_base.specs.declared.ids.NodeId.{NodeId}
use Rattle.report_text.specs.report_lines.Bounds.{HasTypeBounds}
use Rattle.audit_text.specs.Texts.{IsKnown}
use Rattle.mv_io.specs.Octets.{Appended, AppendedPart}
use Rattle.mv_io.proofs.OctetsLemmas.{appended-nil, prefix-nil}
use Rattle.scenario_defs.specs.Text.{IsLineOf}
use Rattle.scenario_defs.specs.declared.event.Timed.{Timed}
use Rattle.scenario_defs.specs.declared.report.ReportLine.{ReportLine}
use Rattle.scenario_defs.specs.declared.report.ReportLine.TheVariants as lines
use Rattle.scenario_defs.specs.declared.scenario.Scenario.{Scenario}
use Rattle.core_pcap.specs.Spelling.{IsHop}
use Rattle.network_defs.specs.Run.{outcome, report_of, traced}
use Rattle.network_events.specs.delivery_laws.Flood.{lines_in}
use Rattle.network_events.specs.Behind.{Advances, Lacks, Steps}
use Rattle.network_events.specs.WorldView.{WorldView}
use Rattle.network_events.specs.declared.halt.Halt.TheVariants as halts
use Rattle.mvpn_tool.specs.FirstEvents.{IsReached}
use Rattle.mvpn_tool.specs.Outcome.{EventEnds, Place}
use Rattle.mvpn_tool.specs.Output.{IsKept, MayWrite, event_hops, event_output, halt_output, kept_after, output_after}
use Rattle.mvpn_tool.specs.Report.{event_lines}
use Rattle.mvpn_tool.specs.declared.command.Output.{Output}
use Rattle.mvpn_tool.specs.declared.sent_hops.SoFar.{SoFar}
use Rattle.mvpn_tool.specs.declared.stop.Stop.{Stop}
use Rattle.mvpn_tool.specs.declared.stop.Stop.TheVariants as stops
use Rattle.mvpn_tool.proofs.FirstEventLemmas.{reached_more}
use Rattle.mvpn_tool.proofs.KeptLemmas.{kept_then, may_write, written_halted, written_then}

abbrev Answer : Type 0
Answer = Result (Unit {0}) Stop

abbrev went_on : Answer
went_on = Ok tt

abbrev stopped : Stop → Answer
stopped stop = Err stop

not_failed : (stop : Stop) → went_on ≡ stopped stop → ⊥
not_failed stop e = absurd cc

same_stop : (stop other : Stop) → stopped stop ≡ stopped other → stop ≡ other
same_stop stop other e = cc

not_label : (stop : Stop) → (stop ≡ stops.Sink) ⊎ (stop ≡ stops.Memory) → stop ≡ stops.Label → ⊥
not_label stop (inl sink) e = absurd cc
not_label stop (inr memory) e = absurd cc

-- Lines that name what is there and keep to their bounds are known.
all_known : (scenario : Scenario) (all : List ReportLine) → AllByRecursion (IsLineOf scenario) all → AllByRecursion HasTypeBounds all
    → AllByRecursion (IsKnown scenario) all
all_known scenario [] names bounds = tt
all_known scenario (line ∷ more) names bounds = ((names.0, bounds.0), all_known scenario more names.1 bounds.1)

module _ (output : Output) (scenario : Scenario) (timed : Timed) (view : WorldView) (so_far : SoFar) where
  abbrev Here : Type 0
  Here = Place output scenario timed view so_far

  -- the lines of the event, and what is written of some lines there
  abbrev own_lines : Here → List ReportLine
  own_lines place = event_lines timed.line (outcome place.state timed)

  abbrev written : Here → List ReportLine → List ℕ
  written place own = event_output output scenario place.script.events (report_of place.trace) place.count own

  abbrev pub reached : Here → IsReached timed view
  reached place =
      record {
        cores = place.cores;
        script = place.script;
        count = place.count;
        trace = place.trace;
        world = place.state;
        thereafter =
            place.thereafter;
        next = place.next;
      }

  module _ (now : WorldView) (own new_lines : List ReportLine) (none : own ≡ []) where
    -- The lines that a step made are those of its event.
    step_lines : (place : Here) → (a : Advances place.cores place.script.scenario (take place.count place.script.events) place.trace place.state timed
        own new_lines now) → new_lines ≡ lines_in a.acts
    step_lines place a = a.told ∙ ap (λ (l : List ReportLine). l ++ lines_in a.acts) none

    made_lines : (place : Here) → Advances place.cores place.script.scenario (take place.count place.script.events) place.trace place.state timed own
        new_lines now →
        new_lines ≡ own_lines place
    made_lines place a = step_lines place a ∙ ap (event_lines timed.line) (sym a.is)

    halt_lines : (n : NodeId) (place : Here) → (a : Lacks place.state timed n own new_lines)
        → new_lines ++ lines.Halt timed.line n ∷ [] ≡ lines_in a.acts ++ lines.Halt timed.line n ∷ []
    halt_lines n place a =
        ap (λ (l : List ReportLine). l ++ lines.Halt timed.line n ∷ []) (a.told ∙ ap (λ (l : List ReportLine). l ++ lines_in a.acts) none)

    lacking_lines : (n : NodeId) (place : Here) → Lacks place.state timed n own new_lines
        → new_lines ++ lines.Halt timed.line n ∷ [] ≡ own_lines place
    lacking_lines n place a = halt_lines n place a ∙ ap (event_lines timed.line) (sym a.is)

    module _ (steps : Steps timed.line timed.event view now own new_lines (Ok tt)) where
      advance : (place : Here) → Advances place.cores place.script.scenario (take place.count place.script.events) place.trace place.state timed own
          new_lines now
      advance place = steps.made place.cores place.script.scenario (take place.count place.script.events) place.trace place.state place.thereafter.is

      pub made_are_known : (place : Here) → All (IsLineOf scenario) (own_lines place) → All (IsLineOf scenario) new_lines
      made_are_known place known = subst (All (IsLineOf scenario)) (sym (made_lines place (advance place))) known

      -- What is to be written of them can be written.
      pub made_may_be_written : (place : Here) → All IsHop (event_hops place.script.events (report_of place.trace) place.count (own_lines place))
          → MayWrite output timed so_far new_lines
      made_may_be_written place spelled =
          let a = advance place in
          subst (λ (l : List ReportLine). MayWrite output timed so_far l) (sym (step_lines place a))
          (may_write scenario timed view so_far output place a.acts a.next a.is
          (subst (λ (l : List ReportLine). All IsHop (event_hops place.script.events (report_of place.trace) place.count l))
          (sym (made_lines place a) ∙ step_lines place a) spelled))

      -- What is written by what is kept is what is to be written of the event.
      made_written : (place : Here) → output_after output scenario timed so_far new_lines ≡ written place (own_lines place)
      made_written place =
          let a = advance place in
          ap (output_after output scenario timed so_far) (step_lines place a)
          ∙ written_then scenario timed view so_far output place a.acts a.next a.is
          ∙ ap (written place) (sym (step_lines place a) ∙ made_lines place a)

      -- The step was made, what is to be written of it was written, and it is kept.
      pub event_made : ((place : Here) → All (IsLineOf scenario) (own_lines place)) → All HasTypeBounds new_lines →
          (kept_now : SoFar) (old new : Option (List ℕ)) (result : Answer)
          → OnOk result (Appended old new (output_after output scenario timed so_far new_lines)) →
          OnOk result (kept_now ≡ kept_after output timed so_far new_lines) →
          OnErr result (AppendedPart old new (output_after output scenario timed so_far new_lines))
          → IfErr result (λ stop. (stop ≡ stops.Sink) ⊎ (stop ≡ stops.Memory)) →
          EventEnds output scenario timed view now so_far kept_now old new result
      event_made names bounds kept_now old new (Ok tt) whole keeps part others = record {
        made = λ place.
            let a = advance place in
            record {
              acts = a.acts;
              state = a.next;
              is = a.is;
              thereafter = reached_more timed view (reached place) own new_lines now a;
              known = subst (AllByRecursion (IsKnown scenario)) (step_lines place a)
                  (all_known scenario new_lines (recursion_from_All (IsLineOf scenario) new_lines (made_are_known place (names place)))
                  (recursion_from_All HasTypeBounds new_lines bounds));
              text = subst (λ (l : List ℕ). Appended old new l) (made_written place) whole;
              kept = subst (λ (k : SoFar). IsKept output place.script.events (report_of (place.trace ++ traced place.count a.acts)) (place.count + 1)
                  k)
                  (sym (keeps ∙ ap (kept_after output timed so_far) (step_lines place a)))
                  (kept_then scenario timed view so_far output place a.acts a.next a.is);
            };
        lacks = λ e. absurd (not_failed stops.Label e);
        part = tt;
      }
      event_made names bounds kept_now old new (Err stop) whole keeps part others = record {
        made = tt;
        lacks = λ e. absurd (not_label stop others (same_stop stop stops.Label e));
        part = λ place. subst (λ (l : List ℕ). AppendedPart old new l) (made_written place) part;
      }

    module _ (n : NodeId) (steps : Steps timed.line timed.event view now own new_lines (Err (halts.NoLabel n))) where
      lacking : (place : Here) → Lacks place.state timed n own new_lines
      lacking place =
          steps.lacks n refl place.thereafter.is.going place.cores place.script.scenario (take place.count place.script.events) place.trace place.state
          place.thereafter.is

      pub lacking_are_known : (place : Here) → All (IsLineOf scenario) (own_lines place) →
          All (IsLineOf scenario) (new_lines ++ lines.Halt timed.line n ∷ [])
      lacking_are_known place known = subst (All (IsLineOf scenario)) (sym (lacking_lines n place (lacking place))) known

      halt_written : (place : Here) → halt_output output scenario (new_lines ++ lines.Halt timed.line n ∷ []) ≡ written place (own_lines place)
      halt_written place =
          let a = lacking place in
          ap (halt_output output scenario) (halt_lines n place a)
          ∙ written_halted scenario timed view so_far output place a.acts n a.is
          ∙ ap (written place) (sym (halt_lines n place a) ∙ lacking_lines n place a)

      -- The event runs out of labels, and what is to be written of it was written.
      pub event_lacks : (kept_now : SoFar) (old new : Option (List ℕ)) (stop : Stop)
          → (stop ≡ stops.Label → Appended old new (halt_output output scenario (new_lines ++ lines.Halt timed.line n ∷ []))) →
          AppendedPart old new (halt_output output scenario (new_lines ++ lines.Halt timed.line n ∷ []))
          → EventEnds output scenario timed view now so_far kept_now old new (Err stop)
      event_lacks kept_now old new stop whole part = record {
        made = tt;
        lacks = λ e place.
            let a = lacking place in
            record {
              acts = a.acts;
              node = n;
              is = a.is;
              text = subst (λ (l : List ℕ). Appended old new l) (halt_written place) (whole (same_stop stop stops.Label e));
            };
        part = λ place. subst (λ (l : List ℕ). AppendedPart old new l) (halt_written place) part;
      }

  -- Memory ran out, and nothing was written.
  pub event_stops : (now : WorldView) (kept_now : SoFar) (old : Option (List ℕ))
      → EventEnds output scenario timed view now so_far kept_now old old (Err stops.Memory)
  event_stops now kept_now old = record {
    made = tt;
    lacks = λ e. absurd (not_label stops.Memory (inr refl) (same_stop stops.Memory stops.Label e));
    part = λ place. ([], prefix-nil (written place (own_lines place)), appended-nil old);
  }
