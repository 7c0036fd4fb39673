-- Runs of sound events in a sound scenario that halt for want of a label.
use Rattle.std.specs.Prelude.{List}
use Rattle.std.specs.List.{AllByRecursion}
use Rattle.mv_base.specs.declared.ids.NodeId.{NodeId}
use Rattle.scenario_defs.specs.declared.event.Script.{Script}
use Rattle.scenario_defs.specs.declared.event.Timed.{Timed}
use Rattle.mvpn_model.specs.Report.{Entry}
use Rattle.network_defs.specs.Costs.{Cores}
use Rattle.network_defs.specs.Run.{Halts}
use Rattle.network_laws.specs.Honest.{IsSoundEvent}
use Rattle.network_laws.specs.Sound.{SoundScenario}

-- The first events run, by the cores of the script's scenario, and one lacks a label; the scenario meets its rules, and the events are of
-- sound values.
pub record SoundHalt (cores : Cores) (script : Script) (report : List Entry) (node : NodeId) : Type 0 where
  pub scenario : SoundScenario script.scenario
  pub sound_events : AllByRecursion (λ (timed : Timed). IsSoundEvent script.scenario timed.event) script.events
  pub halt : Halts cores script report node
