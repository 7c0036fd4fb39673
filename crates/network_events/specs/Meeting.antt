-- What comes of an event that a network meets.
use Rattle.std.specs.Prelude.{◌≡◌, List, Option, None, Some, Result, Ok, Err}
use Rattle.mv_base.specs.declared.ids.NodeId.{NodeId}
use Rattle.scenario_defs.specs.Rules.{IsEventOf}
use Rattle.scenario_defs.specs.declared.event.Event.{Event}
use Rattle.scenario_defs.specs.declared.event.Kind.{Kind}
use Rattle.scenario_defs.specs.declared.report.Refusal.{Refusal}
use Rattle.scenario_defs.specs.declared.report.ReportLine.{ReportLine}
use Rattle.scenario_defs.specs.declared.scenario.Scenario.{Scenario}
use Rattle.network_defs.specs.Counts.{direction}
use Rattle.network_defs.specs.Events.{done}
use Rattle.network_defs.specs.Refusals.{refusal}
use Rattle.network_defs.specs.World.{World}
use Rattle.network_acts.specs.network_laws.Honest.{IsSoundEvent}
use Rattle.network_acts.specs.Handling.{AreOfFlows}
use Rattle.network_acts.specs.Instant.{Instant, IsWorld}
use Rattle.network_acts.specs.NetworkView.{NetworkView}
use Rattle.network_acts.specs.Words.{AreLinked, at_rest}
use Rattle.network_events.specs.Doing.{Did, Lacked}
use Rattle.network_events.specs.declared.halt.Halt.{Halt}
use Rattle.network_events.specs.declared.halt.Halt.TheVariants as halts

-- both directions of each session are joined, or neither is
abbrev pub AreAlike : World → Type 0
AreAlike world = (kind : Kind) (a b : NodeId) → world.network.joined (direction kind a b) ≡ world.network.joined (direction kind b a)

-- Nothing is under way between two acts, and each session is joined both ways or not at all.
pub record IsResting (at : Instant) : Type 0 where
  pub rest : at.moment ≡ at_rest
  pub alike : AreAlike at.world

-- No event is under way; each session is joined both ways or not at all; copies are on links alone, and datagrams are of their flows.
pub record IsReady (at : Instant) : Type 0 where
  pub resting : IsResting at
  pub linked : AreLinked at.world
  pub flows : AreOfFlows at.world

-- The event is one that the scenario allows, and is of sound values.
pub record IsGiven (scenario : Scenario) (event : Event) : Type 0 where
  pub of_it : IsEventOf scenario event
  pub sound : IsSoundEvent scenario event

-- What comes of the event, in every world that the network is, where no event is under way. It is refused exactly with the first of its
-- reasons that holds, and then nothing changes; or its acts are done; or one of them lacks a label. Of want of memory nothing is said.
pub record Meets (event : Event) (old new : NetworkView) (lines new_lines : List ReportLine) (result : Result (Option Refusal) Halt)
    : Type 0 where
  pub refused : (reason : Refusal) → result ≡ Ok (Some reason) →
      ((at : Instant) → IsReady at → IsWorld at old → refusal at.world event ≡ Some reason) × (new ≡ old) × (new_lines ≡ lines)
  pub made : result ≡ Ok None → (at : Instant) → IsReady at → IsWorld at old →
      (refusal at.world event ≡ None) × Did at at.moment (done at.world event) lines new_lines new
  pub lacks : (n : NodeId) → result ≡ Err (halts.NoLabel n) → (at : Instant) → IsReady at → IsWorld at old →
      (refusal at.world event ≡ None) × Lacked (done at.world event) n lines new_lines

-- what an event that is not refused answers by what its acts did
abbrev pub met : Result (Unit {0}) Halt → Result (Option Refusal) Halt
met (Ok made) = Ok None
met (Err halt) = Err halt
