-- A world after the first events of a script.
use Rattle.std.specs.Prelude.{◌≡◌, ℕ, List, slice_get, take, Some}
use Rattle.scenario_defs.specs.Rules.{ScriptRules}
use Rattle.scenario_defs.specs.declared.event.Script.{Script}
use Rattle.scenario_defs.specs.declared.event.Timed.{Timed}
use Rattle.network_defs.specs.Costs.{Cores}
use Rattle.network_defs.specs.Run.{Traced}
use Rattle.network_defs.specs.World.{World}
use Rattle.network_events.specs.Behind.{IsBehind}
use Rattle.network_events.specs.WorldView.{WorldView}

-- The script is one that can be read, and the network is the one after its first so many events.
pub record IsBehindFirst (cores : Cores) (script : Script) (count : ℕ) (trace : List Traced) (world : World) (view : WorldView)
    : Type 0 where
  pub rules : ScriptRules script
  pub is : IsBehind cores script.scenario (take count script.events) trace world view

-- The network is the one after the events before this one, in some script.
pub record IsReached (timed : Timed) (view : WorldView) : Type 0 where
  pub cores : Cores
  pub script : Script
  pub count : ℕ
  pub trace : List Traced
  pub world : World
  pub thereafter : IsBehindFirst cores script count trace world view
  pub next : slice_get script.events count ≡ Some timed
