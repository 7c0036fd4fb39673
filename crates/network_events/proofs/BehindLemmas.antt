-- What is known of the world of a network that is after events of a scenario.
use Rattle.std.proofs.Common.{◌≡◌, ◌∙◌, refl, sym, subst, ℕ, ◌+◌, List, [], ◌∷◌, Option, None, Some}
use Rattle.std.specs.List.{AllByRecursion}
use Rattle.scenario_defs.specs.Rules.{IsEventOf, Rules}
use Rattle.scenario_defs.specs.declared.event.Script.{Script}
use Rattle.scenario_defs.specs.declared.event.Timed.{Timed}
use Rattle.scenario_defs.specs.declared.report.Refusal.{Refusal}
use Rattle.scenario_defs.specs.declared.report.ReportLine.TheVariants as told
use Rattle.scenario_defs.specs.declared.scenario.Scenario.{Scenario}
use Rattle.network_defs.specs.Costs.{Cores}
use Rattle.network_defs.specs.Events.{Done, Happened, done}
use Rattle.network_defs.specs.Refusals.{refusal}
use Rattle.network_defs.specs.Run.{Runs, Traced, outcome}
use Rattle.network_defs.specs.World.{World, scenario_of, start}
use Rattle.once_laws.specs.delivery_laws.Flood.{AreSound}
use Rattle.once_laws.proofs.delivery_laws.LinkedEvents.{run_is_linked}
use Rattle.once_laws.proofs.delivery_laws.LinkedRuns.{Linked}
use Rattle.once_laws.proofs.delivery_laws.LinksOnce.{links_once}
use Rattle.network_acts.specs.Handling.{AreOfFlows}
use Rattle.network_acts.specs.Words.{AreLinked}
use Rattle.network_events.specs.Behind.{IsBehind, between_events}
use Rattle.network_events.specs.Meeting.{IsReady}
use Rattle.network_events.specs.WorldView.{WorldView}
use Rattle.network_events.proofs.FlowLemmas.{flows_after}
use Rattle.network_events.proofs.KeptLemmas.{IsEven, comes_done, event_even, start_alike}
use Rattle.network_events.proofs.LinkLemmas.{are_linked}

-- ---- what events keep

-- Sessions are joined both ways or not at all, and the datagrams are of their flows.
record Kept (scenario : Scenario) (world : World) : Type 0 where
  even : IsEven scenario world
  flows : AreOfFlows world

event_kept : (scenario : Scenario) (timed : Timed) → IsEventOf scenario timed.event → (old : World) (acts : List Happened) (next : World)
    → outcome old timed ≡ Done acts next → Kept scenario old → Kept scenario next
event_kept scenario timed is old acts next e kept = by (refusal old timed.event) refl e
  where
    by : (o : Option Refusal) → refusal old timed.event ≡ o
        → (elim o [ None ↦ done old timed.event | Some reason ↦ Done (record { act = None; lines = told.Refused timed.line reason ∷ [] } ∷ []) old ])
        ≡ Done acts next → Kept scenario next
    by None free made = record {
      even = comes_done (IsEven scenario) (done old timed.event) acts next made (event_even timed.event scenario old kept.even);
      flows = flows_after old timed.event acts next free made (subst (λ (s : Scenario). IsEventOf s timed.event) (sym kept.even.own) is) kept.flows;
    }
    by (Some reason) free made = subst (Kept scenario) (let same : old ≡ next = cc in same) kept

runs_kept : (scenario : Scenario) (all : List Timed) → AllByRecursion (λ (timed : Timed). IsEventOf scenario timed.event) all
    → (old : World) (number : ℕ) (trace : List Traced) (new : World) → Runs old number all trace new
    → Kept scenario old → Kept scenario new
runs_kept scenario [] of_it old number trace new run kept = subst (Kept scenario) (sym run.1) kept
runs_kept scenario (timed ∷ more) of_it old number trace new run kept =
    runs_kept scenario more of_it.1 run.1 (number + 1) run.2 new run.5 (event_kept scenario timed of_it.0 old run.0 run.1 run.3 kept)

-- ---- between two events

module _ (cores : Cores) (scenario : Scenario) (events : List Timed) (trace : List Traced) (world : World) (view : WorldView)
    (thereafter : IsBehind cores scenario events trace world view) where
  abbrev any_script : Script
  any_script = record { scenario = scenario; events = events; end = 0 }

  linked : Linked scenario world
  linked = run_is_linked cores any_script events trace world (links_once scenario thereafter.rules) thereafter.run

  kept : Kept scenario world
  kept = runs_kept scenario events thereafter.events_of (start scenario cores) 0 trace world thereafter.run
      (record { even = record { own = refl; alike = start_alike scenario cores }; flows = tt })

  pub scenario_after : scenario_of world ≡ scenario
  scenario_after = linked.network.nodes.place

  -- the network's scenario is that of the events
  pub network_scenario : view.network.scenario ≡ scenario
  network_scenario = thereafter.stands.scenario ∙ scenario_after

  pub links_after : AreLinked world
  links_after =
      are_linked world (subst Rules (sym scenario_after) thereafter.rules)
      (subst (λ (s : Scenario). AreSound s world) (sym scenario_after) linked.sound)

  pub ready_there : IsReady (between_events cores world)
  ready_there = record {
    resting = record { rest = refl; alike = kept.even.alike };
    linked = links_after;
    flows = kept.flows;
  }
