-- A report whose markers fit, with its script and what is looked up of both.
use Rattle.std.specs.Prelude.{◌≡◌, ℕ, ◌&&◌, Bool, false, take, drop, List}
use Rattle.audit_defs.specs.scenario_defs.Rules.{ScriptRules}
use Rattle.audit_defs.specs.scenario_defs.declared.event.Timed.{Timed}
use Rattle.audit_defs.specs.scenario_defs.declared.scenario.Scenario.{Scenario}
use Rattle.audit_defs.specs.mvpn_model.Once.{past_at}
use Rattle.audit_defs.specs.mvpn_model.Past.{Past}
use Rattle.audit_defs.specs.Cut.{Audited, audited}
use Rattle.audit_events.specs.declared.case.Case.{Case}
use Rattle.audit_events.specs.declared.fate.Fate.{Fate}
use Rattle.audit_events.specs.Fates.{fates_from, closings, closes, opened}
use Rattle.audit_events.specs.Marking.{ComesAfter, AreMarked}
use Rattle.audit_events.specs.Vpns.{vpns_of}

abbrev pub scenario_of : Case → Scenario
scenario_of case = case.script.now.scenario

abbrev pub events_of : Case → List Timed
events_of case = case.script.now.events

-- the report and its script, as they are judged
abbrev pub audited_of : Case → Audited
audited_of case = audited case.script.now case.report.now.lines

-- what happened before the event of that number
abbrev pub past_of : Case → ℕ → Past
past_of case number = past_at (scenario_of case) (events_of case) (audited_of case).refused number

-- what became of the events
abbrev pub fates_of : Case → List Fate
fates_of case = fates_from 0 (events_of case) case.marked

-- whether a window is open before the event of that number
abbrev pub is_open : Case → ℕ → Bool
is_open case number = opened false (take number (events_of case)) (take number (fates_of case))

-- whether the event of that number is of a window
abbrev pub is_windowed : Case → ℕ → Bool
is_windowed case number = is_open case number && closes (drop number (events_of case)) (drop number (fates_of case))

-- All of it is what it says it is.
pub record IsCase (case : Case) : Type 0 where
  pub rules : ScriptRules case.script.now
  pub after : ComesAfter case.script.now case.report.now
  pub marked : AreMarked case.script.now case.report.now case.marked
  pub fates : case.fates ≡ fates_of case
  pub closings : case.closings ≡ closings (events_of case) (fates_of case)
  pub vpns : case.vpns ≡ vpns_of (scenario_of case)
