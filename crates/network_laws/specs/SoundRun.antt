-- Runs of sound events in a sound scenario.
use Rattle.std.specs.Prelude.{List}
use Rattle.std.specs.List.{AllByRecursion}
use Rattle.scenario_defs.specs.declared.event.Script.{Script}
use Rattle.scenario_defs.specs.declared.event.Timed.{Timed}
use Rattle.network_defs.specs.Costs.{Cores, AreCoresOf}
use Rattle.network_defs.specs.Run.{Traced, Run}
use Rattle.network_defs.specs.World.{World}
use Rattle.network_laws.specs.Honest.{IsSoundEvent}
use Rattle.network_laws.specs.Sound.{SoundScenario}

-- The events run, by the cores of the script's scenario; that meets its rules, and the events are of sound values.
pub record SoundRun (cores : Cores) (script : Script) (events : List Timed) (trace : List Traced) (new : World) : Type 0 where
  pub scenario : SoundScenario script.scenario
  pub of_scenario : AreCoresOf script.scenario cores
  pub sound_events : AllByRecursion (λ (timed : Timed). IsSoundEvent script.scenario timed.event) events
  pub run : Run cores script events trace new
