-- How the events of a script end: in a run, or at one that runs out of labels.
use Rattle.std.specs.Prelude.{◌≡◌, List, ◌++◌, length}
use Rattle.mv_base.specs.declared.ids.NodeId.{NodeId}
use Rattle.scenario_defs.specs.declared.event.Script.{Script}
use Rattle.scenario_defs.specs.declared.event.Timed.{Timed}
use Rattle.mvpn_model.specs.Report.{Entry}
use Rattle.network_defs.specs.Costs.{Cores}
use Rattle.network_defs.specs.Run.{Traced, Runs, Run, Halts, report_of}
use Rattle.network_defs.specs.World.{World}

-- the script's scenario with these events
abbrev pub of_events : Script → List Timed → Script
of_events script events = record script { events = events }

-- All events of the script run, by these cores; or some first ones do, and the next one runs out of labels at a node.
pub data RunsOrHalts (cores : Cores) (script : Script) : Type 0 where
  AllRun : (trace : List Traced) → (new : World) → Run cores script script.events trace new → RunsOrHalts cores script
  OneHalts : (report : List Entry) → (node : NodeId) → Halts cores script report node → RunsOrHalts cores script

-- A run of two rows of events: the first ones run, then the others from there, and what happens in the first ones is the front of all
-- that happens.
pub record RunsInTwo (cores : Cores) (script : Script) (first more : List Timed) (trace : List Traced) (new : World) : Type 0 where
  pub early : List Traced
  pub late : List Traced
  pub middle : World
  pub begins : Run cores script first early middle
  pub goes_on : Runs middle (length first) more late new
  pub whole : trace ≡ early ++ late

-- The events run, and the report begins with what happens in them.
pub record ReportBegins (cores : Cores) (script : Script) (first : List Timed) (report : List Entry) : Type 0 where
  pub early : List Traced
  pub middle : World
  pub begins : Run cores script first early middle
  pub more : List Entry
  pub whole : report ≡ report_of early ++ more
