-- What the `state` lines of a report say of the sessions.
use Rattle.std.specs.Prelude.{◌≡◌, ℕ, List}
use Rattle.scenario_defs.specs.declared.event.Timed.{Timed}
use Rattle.scenario_defs.specs.declared.scenario.Scenario.{Scenario}
use Rattle.mvpn_model.specs.Once.{TellsState, past_at}
use Rattle.mvpn_model.specs.Report.{Entry}
use Rattle.mvpn_model.specs.Unready.{unready_after}

-- The last number of each `state` line is how many sessions are not ready by the events before it alone, those of the refused lines left
-- out.
abbrev pub ReportsUnready : Scenario → List Timed → List ℕ → List Entry → Type 0
ReportsUnready scenario events refused report =
    (place bytes copies buffers due unready : ℕ) → TellsState events report place bytes copies buffers due unready →
    unready ≡ unready_after (past_at scenario events refused place)
