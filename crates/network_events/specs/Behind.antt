-- A network after events, and what a step does to it.
use Rattle.std.specs.Prelude.{◌≡◌, ◌++◌, ℕ, List, [], ◌∷◌, length, None, Some, Result, Err, OnOk}
use Rattle.std.specs.List.{AllByRecursion}
use Rattle.mv_base.specs.declared.ids.NodeId.{NodeId}
use Rattle.scenario_defs.specs.Rules.{IsEventOf, Rules}
use Rattle.scenario_defs.specs.declared.event.Event.{Event}
use Rattle.scenario_defs.specs.declared.event.Timed.{Timed}
use Rattle.scenario_defs.specs.declared.report.ReportLine.{ReportLine}
use Rattle.scenario_defs.specs.declared.scenario.Scenario.{Scenario}
use Rattle.network_defs.specs.Costs.{AreCoresOf, Cores}
use Rattle.network_defs.specs.Events.{Happened, Done, Halted}
use Rattle.network_defs.specs.Run.{Runs, Traced, outcome, traced}
use Rattle.network_defs.specs.World.{World, start}
use Rattle.network_acts.specs.Instant.{Instant, IsWorld}
use Rattle.network_acts.specs.Words.{at_rest}
use Rattle.network_events.specs.Doing.{lines_in}
use Rattle.network_events.specs.WorldView.{WorldView}
use Rattle.network_events.specs.declared.halt.Halt.{Halt}
use Rattle.network_events.specs.declared.halt.Halt.TheVariants as halts

-- the world between two events
abbrev pub between_events : Cores → World → Instant
between_events cores world = record { cores = cores; moment = at_rest; world = world }

-- The events, each of which is one of the scenario, run from the state in which nothing has happened in its network, by its cores; and the
-- network is the world after them. There may be any number of events, and their lines may have any numbers.
pub record IsBehind (cores : Cores) (scenario : Scenario) (events : List Timed) (trace : List Traced) (world : World) (view : WorldView)
    : Type 0 where
  pub rules : Rules scenario
  pub of_scenario : AreCoresOf scenario cores
  pub events_of : AllByRecursion (λ timed. IsEventOf scenario timed.event) events
  pub run : Runs (start scenario cores) 0 events trace world
  pub stands : IsWorld (between_events cores world) view.network
  pub going : view.halt ≡ None

-- The network is after some events of a scenario, as each is that has not halted.
pub record IsReached (view : WorldView) : Type 0 where
  pub cores : Cores
  pub scenario : Scenario
  pub events : List Timed
  pub trace : List Traced
  pub world : World
  pub thereafter : IsBehind cores scenario events trace world view

-- The event's acts are done, and the network is after it too; the lines of the acts were appended to those of before.
pub record Advances (cores : Cores) (scenario : Scenario) (events : List Timed) (trace : List Traced) (world : World) (timed : Timed)
    (lines new_lines : List ReportLine) (new : WorldView) : Type 0 where
  pub acts : List Happened
  pub next : World
  pub is : outcome world timed ≡ Done acts next
  pub thereafter : IsBehind cores scenario (events ++ timed ∷ []) (trace ++ traced (length events) acts) next new
  pub told : new_lines ≡ lines ++ lines_in acts

-- One of the event's acts lacks a label at that node; the lines of the acts before it were appended to those of before.
pub record Lacks (world : World) (timed : Timed) (n : NodeId) (lines new_lines : List ReportLine) : Type 0 where
  pub acts : List Happened
  pub is : outcome world timed ≡ Halted acts n
  pub told : new_lines ≡ lines ++ lines_in acts

-- the event at that line
abbrev pub at_line : ℕ → Event → Timed
at_line line event = record { line = line; event = event }

-- What a step does with the event, after whatever events the network is. It goes through the event; or it halts, at a node exactly where the
-- event lacks a label there, or for want of memory, of which nothing is said but that no line of the event was appended. Once it has halted
-- it answers the same for ever, and changes nothing.
pub record Steps (line : ℕ) (event : Event) (old new : WorldView) (lines new_lines : List ReportLine) (result : Result (Unit {0}) Halt)
    : Type 0 where
  pub made : OnOk result ((cores : Cores) (scenario : Scenario) (events : List Timed) (trace : List Traced) (world : World) →
      IsBehind cores scenario events trace world old →
      Advances cores scenario events trace world (at_line line event) lines new_lines new)
  pub lacks : (n : NodeId) → result ≡ Err (halts.NoLabel n) → old.halt ≡ None →
      (cores : Cores) (scenario : Scenario) (events : List Timed) (trace : List Traced) (world : World) →
      IsBehind cores scenario events trace world old → Lacks world (at_line line event) n lines new_lines
  pub wanting : result ≡ Err halts.NoMemory → old.halt ≡ None → new_lines ≡ lines
  pub spent : (halt : Halt) → result ≡ Err halt → new.halt ≡ Some halt
  pub again : (halt : Halt) → old.halt ≡ Some halt → (result ≡ Err halt) × (new ≡ old) × (new_lines ≡ lines)

-- Nothing has happened yet in the network of that scenario, by whatever cores it has.
pub record IsBegun (scenario : Scenario) (view : WorldView) : Type 0 where
  pub scenario_is : view.network.scenario ≡ scenario
  pub thereafter : (cores : Cores) → AreCoresOf scenario cores → IsBehind cores scenario [] [] (start scenario cores) view
