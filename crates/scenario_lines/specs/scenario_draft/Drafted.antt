-- What the lines so far declared.
use Rattle.std.specs.Prelude.{ℕ, Bool, List}
use Rattle.scenario_defs.specs.declared.scenario.Scenario.{Scenario}
use Rattle.scenario_defs.specs.declared.event.Timed.{Timed}
use Rattle.scenario_defs.specs.declared.scenario.Thing.{Thing}
use Rattle.scenario_lines.specs.declared.scenario_draft.setting.Given.{Given}

-- the scenario, which settings were given, whether the line `events` was read, the events, and what each name stands for
pub record Drafted : Type 0 where
  pub scenario : Scenario
  pub given : Given
  pub begun : Bool
  pub events : List Timed
  pub names : List (List ℕ × Thing)
