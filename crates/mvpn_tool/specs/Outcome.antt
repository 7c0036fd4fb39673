-- How a replay may end: what it read, what it wrote, and in what world.
use Rattle.std.specs.Prelude.{◌≡◌, ℕ, ◌+◌, ◌++◌, ◌⊎◌, ⊤, List, [], length, slice_get, Option, None, Some, Result, Ok, Err, MatchResult, OnOk, OnErr, IsErrOf}
use Rattle.std.specs.List.{AllByRecursion}
use Rattle.mv_base.specs.declared.ids.NodeId.{NodeId}
use Rattle.mv_io.specs.Octets.{Appended, AppendedPart}
use Rattle.scenario_defs.specs.declared.event.Script.{Script}
use Rattle.scenario_defs.specs.declared.event.Timed.{Timed}
use Rattle.scenario_defs.specs.declared.report.ReportLine.{ReportLine}
use Rattle.scenario_defs.specs.declared.scenario.Scenario.{Scenario}
use Rattle.line_words.specs.FaultText.{fault_text}
use Rattle.line_words.specs.declared.fault.TextFault.{TextFault}
use Rattle.scenario_text.specs.Grammar.{script_of}
use Rattle.mvpn_model.specs.Report.{Entry, lines_of}
use Rattle.network_defs.specs.Costs.{Cores}
use Rattle.network_defs.specs.Events.{Happened, Done, Halted}
use Rattle.network_defs.specs.Run.{Traced, outcome, report_of, traced}
use Rattle.network_defs.specs.World.{World}
use Rattle.hop_laws.specs.run_laws.Octets.{ScriptHasOctets}
use Rattle.network_events.specs.WorldView.{WorldView}
use Rattle.network_events.specs.delivery_laws.Flood.{lines_in}
use Rattle.audit_text.specs.Texts.{IsKnown}
use Rattle.mvpn_tool.specs.FirstEvents.{IsBehindFirst}
use Rattle.mvpn_tool.specs.Input.{IsInput, Taken}
use Rattle.mvpn_tool.specs.Output.{IsKept, event_output, output_of}
use Rattle.mvpn_tool.specs.Report.{IsHaltedRun, IsReport, IsWholeRun, event_lines}
use Rattle.mvpn_tool.specs.declared.command.Output.{Output}
use Rattle.mvpn_tool.specs.declared.sent_hops.SoFar.{SoFar}
use Rattle.mvpn_tool.specs.declared.stop.Stop.{Stop}
use Rattle.mvpn_tool.specs.declared.stop.Stop.TheVariants as stops

-- ---- an event

-- A place in some script of that scenario: the world is after the events before this one, and this is kept of them.
pub record Place (output : Output) (scenario : Scenario) (timed : Timed) (view : WorldView) (so_far : SoFar) : Type 0 where
  pub cores : Cores
  pub script : Script
  pub count : ℕ
  pub trace : List Traced
  pub state : World
  pub of_scenario : script.scenario ≡ scenario
  pub octets : ScriptHasOctets script
  pub thereafter : IsBehindFirst cores script count trace state view
  pub next : slice_get script.events count ≡ Some timed
  pub kept : IsKept output script.events (report_of trace) count so_far

-- the lines of the event there
abbrev pub lines_at :
    (output : Output) (scenario : Scenario) (timed : Timed) (view : WorldView) (so_far : SoFar) → Place output scenario timed view so_far → List ReportLine
lines_at output scenario timed view so_far place = event_lines timed.line (outcome place.state timed)

-- what is written of it
abbrev pub written_at :
    (output : Output) (scenario : Scenario) (timed : Timed) (view : WorldView) (so_far : SoFar) → Place output scenario timed view so_far → List ℕ
written_at output scenario timed view so_far place =
    event_output output scenario place.script.events (report_of place.trace) place.count (event_lines timed.line (outcome place.state timed))

-- The event's acts are done, the world is after it, what is to be written of it was written, and it is kept.
pub record GoesOn (output : Output) (scenario : Scenario) (timed : Timed) (view : WorldView) (so_far : SoFar)
    (place : Place output scenario timed view so_far) (old new : Option (List ℕ)) (now : WorldView) (kept_now : SoFar) : Type 0 where
  pub acts : List Happened
  pub state : World
  pub is : outcome place.state timed ≡ Done acts state
  pub thereafter : IsBehindFirst place.cores place.script (place.count + 1) (place.trace ++ traced place.count acts) state now
  pub known : AllByRecursion (IsKnown scenario) (lines_in acts)
  pub text : Appended old new (written_at output scenario timed view so_far place)
  pub kept : IsKept output place.script.events (report_of (place.trace ++ traced place.count acts)) (place.count + 1) kept_now

-- The event runs out of labels, and what is to be written of it was written.
pub record Lacks (output : Output) (scenario : Scenario) (timed : Timed) (view : WorldView) (so_far : SoFar)
    (place : Place output scenario timed view so_far) (old new : Option (List ℕ)) : Type 0 where
  pub acts : List Happened
  pub node : NodeId
  pub is : outcome place.state timed ≡ Halted acts node
  pub text : Appended old new (written_at output scenario timed view so_far place)

-- How an event ends, wherever the world is.
pub record EventEnds (output : Output) (scenario : Scenario) (timed : Timed) (view now : WorldView) (so_far kept_now : SoFar)
    (old new : Option (List ℕ)) (result : Result (Unit {0}) Stop) : Type 0 where
  pub made : OnOk result ((place : Place output scenario timed view so_far) → GoesOn output scenario timed view so_far place old new now kept_now)
  pub lacks : IsErrOf result stops.Label → (place : Place output scenario timed view so_far) → Lacks output scenario timed view so_far place old new
  pub part : OnErr result ((place : Place output scenario timed view so_far) →
      AppendedPart old new (written_at output scenario timed view so_far place))

-- ---- a script

-- The first so many events were replayed: the world is that after them, the lines of their report name what is of the scenario and keep
-- to the bounds of their types, and what is to be written of it was written.
pub record Replayed (output : Output) (script : Script) (count : ℕ) (old new : Option (List ℕ)) (view : WorldView) : Type 0 where
  pub cores : Cores
  pub trace : List Traced
  pub state : World
  pub thereafter : IsBehindFirst cores script count trace state view
  pub known : AllByRecursion (IsKnown script.scenario) (lines_of (report_of trace))
  pub text : Appended old new (output_of output script (report_of trace))

-- The same within a replay, with what is kept.
pub record OnWay (output : Output) (script : Script) (count : ℕ) (old new : Option (List ℕ)) (view : WorldView) (so_far : SoFar) : Type 0 where
  pub replayed : Replayed output script count old new view
  pub kept : IsKept output script.events (report_of replayed.trace) count so_far

-- All events were replayed.
pub record ReplaysWhole (output : Output) (script : Script) (old new : Option (List ℕ)) (view : WorldView) : Type 0 where
  pub replayed : Replayed output script (length script.events) old new view
  pub whole : IsWholeRun replayed.cores script replayed.trace replayed.state

-- An event runs out of labels, and the output of the report up to there was written.
pub record ReplaysUpToHalt (output : Output) (script : Script) (old new : Option (List ℕ)) : Type 0 where
  pub cores : Cores
  pub report : List Entry
  pub node : NodeId
  pub halted : IsHaltedRun cores script report node
  pub text : Appended old new (output_of output script report)

-- A prefix of the output of such a report was written.
pub record ReplaysPart (output : Output) (script : Script) (old new : Option (List ℕ)) : Type 0 where
  pub report : List Entry
  pub is_report : IsReport script report
  pub text : AppendedPart old new (output_of output script report)

-- how the replay of a script ends
abbrev pub Replays : Output → Script → Result WorldView Stop → Option (List ℕ) → Option (List ℕ) → Type 0
Replays output script (Ok view) old new = ReplaysWhole output script old new view
Replays output script (Err stops.Label) old new = ReplaysUpToHalt output script old new
Replays output script (Err other) old new = ReplaysPart output script old new

-- ---- a source

-- The input is a script with which this holds.
pub record IsRead (Holds : Script → Type 0) (left : Option (List ℕ)) : Type 0 where
  pub input : List ℕ
  pub is_input : IsInput left input
  pub script : Script
  pub said : script_of input ≡ Ok script
  pub holds : Holds script

-- All was read, replayed and written, and the world is the one after the last event.
abbrev pub EndsWell : Output → Option (List ℕ) → Option (List ℕ) → Option (List ℕ) → WorldView → Type 0
EndsWell output left old new view = IsRead (λ script. ReplaysWhole output script old new view) left

-- All was read, and an event runs out of labels: all was replayed and written up to there.
abbrev pub EndsHalted : Output → Option (List ℕ) → Option (List ℕ) → Option (List ℕ) → Type 0
EndsHalted output left old new = IsRead (λ script. ReplaysUpToHalt output script old new) left

-- The text has a fault, and the line that shows it was written alone.
pub record EndsFaulty (left old new : Option (List ℕ)) : Type 0 where
  pub input : List ℕ
  pub is_input : IsInput left input
  pub fault : TextFault
  pub said : script_of input ≡ Err fault
  pub text : Appended old new (fault_text fault)

-- A prefix of the output of a report, or of the line that shows a fault, was written.
pub record EndsEarly (output : Output) (left old new : Option (List ℕ)) : Type 0 where
  pub input : List ℕ
  pub is_input : IsInput left input
  pub part : MatchResult (script_of input) (λ script. ReplaysPart output script old new) (λ fault. AppendedPart old new (fault_text fault))

-- how a replay ends
abbrev pub ReplayEnds : Output → Option (List ℕ) → Result WorldView Stop → Option (List ℕ) → Option (List ℕ) → Type 0
ReplayEnds output left (Ok view) old new = EndsWell output left old new view
ReplayEnds output left (Err stops.Label) old new = EndsHalted output left old new
ReplayEnds output left (Err stops.Text) old new = EndsFaulty left old new
ReplayEnds output left (Err stops.Source) old new = Appended old new []
ReplayEnds output left (Err stops.Sink) old new = EndsEarly output left old new
ReplayEnds output left (Err stops.Memory) old new = Appended old new [] ⊎ EndsEarly output left old new

-- The input was taken, unless the source failed or memory ran out.
abbrev pub Takes : Result WorldView Stop → Option (List ℕ) → Option (List ℕ) → Type 0
Takes (Ok view) left rest = Taken left rest
Takes (Err stops.Label) left rest = Taken left rest
Takes (Err stops.Text) left rest = Taken left rest
Takes (Err stops.Source) left rest = ⊤
Takes (Err stops.Sink) left rest = Taken left rest
Takes (Err stops.Memory) left rest = ⊤

-- There is a world, and all was read, replayed and written.
abbrev pub EndsWellSome : Output → Option (List ℕ) → Option (List ℕ) → Option (List ℕ) → Option WorldView → Type 0
EndsWellSome output left old new None = ⊥
EndsWellSome output left old new (Some view) = EndsWell output left old new view
