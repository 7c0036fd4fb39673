-- The numbers of the run of a made network, and what `sweep` writes of them.
use Rattle.std.specs.Prelude.{◌≡◌, ◌≤◌, ℕ, ◌+◌, ◌==◌, ◌&&◌, ◌++◌, Bool, true, false, codes, fold, if◌then◌else◌}
use Rattle.std.specs.Prelude.{List, [], length, take, count_by, Option, None, Some, Result, Ok, Err, OnOk, IsErrOf}
use Rattle.std.specs.Fmt.{decimal}
use Rattle.mv_base.specs.declared.ids.NodeId.{NodeId}
use Rattle.mv_io.specs.Octets.{Appended, AppendedPart}
use Rattle.scenario_defs.specs.declared.event.Script.{Script}
use Rattle.scenario_defs.specs.declared.event.Timed.{Timed}
use Rattle.scenario_defs.specs.declared.report.ReportLine.{ReportLine}
use Rattle.scenario_defs.specs.declared.report.ReportLine.TheVariants as lines
use Rattle.scenario_text.specs.Grammar.{script_of}
use Rattle.generator.specs.Made.{made}
use Rattle.made_laws.specs.growth_laws.Labels.{labels_held}
use Rattle.mvpn_model.specs.Report.{Entry, lines_of}
use Rattle.network_defs.specs.Costs.{Cores}
use Rattle.network_defs.specs.Events.{Happened, Done, Halted}
use Rattle.network_defs.specs.Nodes.{part_of}
use Rattle.network_defs.specs.Run.{Halts, Run, Traced, outcome, report_of, traced}
use Rattle.network_defs.specs.World.{World}
use Rattle.network_events.specs.delivery_laws.Flood.{lines_in}
use Rattle.network_events.specs.WorldView.{WorldView}
use Rattle.mvpn_tool.specs.FirstEvents.{IsBehindFirst, IsReached}
use Rattle.mvpn_tool.specs.Report.{IsWholeRun}
use Rattle.mvpn_tool.specs.declared.counts.Counts.{Counts}
use Rattle.mvpn_tool.specs.declared.stop.Stop.{Stop}
use Rattle.mvpn_tool.specs.declared.stop.Stop.TheVariants as stops
use Rattle.mvpn_tool.specs.declared.sweep.Swept.{Swept}

-- ---- the numbers of a report

-- whether the line says that a datagram left at an interface
abbrev pub is_out : ReportLine → Bool
is_out (lines.Out number iface octets) = true
is_out other = false

-- whether it refuses an event
abbrev pub is_refused : ReportLine → Bool
is_refused (lines.Refused line reason) = true
is_refused other = false

-- whether it is a calm one: that of a state of five zeros
abbrev pub is_calm : ReportLine → Bool
is_calm (lines.State bytes copies buffers due unready) = bytes == 0 && (copies == 0 && (buffers == 0 && (due == 0 && unready == 0)))
is_calm other = false

-- how many lines of a report are of each kind
abbrev pub counts_in : List ReportLine → Counts
counts_in all = record { outs = count_by is_out all; refused = count_by is_refused all; calm = count_by is_calm all }

abbrev pub counts_of : List Entry → Counts
counts_of report = counts_in (lines_of report)

-- none was counted yet
abbrev pub no_counts : Counts
no_counts = record { outs = 0; refused = 0; calm = 0 }

-- the counts after one more line
abbrev pub with_line : Counts → ReportLine → Counts
with_line old line = record {
  outs = if is_out line then old.outs + 1 else old.outs;
  refused = if is_refused line then old.refused + 1 else old.refused;
  calm = if is_calm line then old.calm + 1 else old.calm;
}

-- ---- what is written

-- the line of a number: how many datagrams were accepted, and the counts of the report
abbrev pub sweep_text : ℕ → ℕ → Counts → List ℕ
sweep_text number sends counts =
    codes "sweep " ++ decimal number ++ codes " sends " ++ decimal sends ++ codes " outs " ++ decimal counts.outs
    ++ codes " refused " ++ decimal counts.refused ++ codes " calm " ++ decimal counts.calm ++ codes "\n"

-- ---- an event

-- The event's acts are done, the world is the one after it, and its lines were counted.
pub record CountsOn (timed : Timed) (view : WorldView) (at : IsReached timed view) (before after : Counts) (now : WorldView) : Type 0 where
  pub acts : List Happened
  pub state : World
  pub is : outcome at.world timed ≡ Done acts state
  pub thereafter : IsBehindFirst at.cores at.script (at.count + 1) (at.trace ++ traced at.count acts) state now
  pub told : after ≡ fold with_line before (lines_in acts)

-- The event runs out of labels.
pub record LacksLabel (timed : Timed) (view : WorldView) (at : IsReached timed view) : Type 0 where
  pub acts : List Happened
  pub node : NodeId
  pub is : outcome at.world timed ≡ Halted acts node

-- How an event ends, wherever the world is.
pub record EventCounts (timed : Timed) (view now : WorldView) (before after : Counts) (result : Result (Unit {0}) Stop) : Type 0 where
  pub made : OnOk result ((at : IsReached timed view) → CountsOn timed view at before after now)
  pub lacks : IsErrOf result stops.Label → (at : IsReached timed view) → LacksLabel timed view at

-- ---- a script

-- All events run, the world is the one after them, and these are the counts of the report.
pub record SweepsWhole (script : Script) (swept : Swept) : Type 0 where
  pub cores : Cores
  pub trace : List Traced
  pub state : World
  pub thereafter : IsBehindFirst cores script (length script.events) trace state swept.world
  pub whole : IsWholeRun cores script trace state
  pub counts : swept.counts ≡ counts_of (report_of trace)

-- After any first events of the script, run by these cores, each node holds at most 260 of its labels.
abbrev pub HoldsFewLabels : Cores → Script → Type 0
HoldsFewLabels cores script = (count : ℕ) (trace : List Traced) (state : World) (node : NodeId) →
    Run cores script (take count script.events) trace state → labels_held (part_of (state.network.state.node node)) ≤ 260

-- None of its events runs out of labels.
abbrev pub NeverHalts : Script → Type 0
NeverHalts script = (cores : Cores) (report : List Entry) (node : NodeId) → Halts cores script report node → ⊥

-- ---- a number

-- The network of the number is this script, with which this holds.
pub record IsMade (Holds : Script → Type 0) (number : ℕ) : Type 0 where
  pub script : Script
  pub said : script_of (made number) ≡ Ok script
  pub holds : Holds script

-- All events of the script ran, with few labels at each node; this is written of their run, and the world is the one after it.
pub record TellsNumbers (Written : List ℕ → Type 0) (number : ℕ) (view : WorldView) (script : Script) : Type 0 where
  pub counts : Counts
  pub whole : SweepsWhole script (record { world = view; counts = counts })
  pub labels : HoldsFewLabels whole.cores script
  pub text : Written (sweep_text number (length whole.state.datagrams) counts)

-- The line of its numbers was written.
abbrev pub SweepsWell : ℕ → Option (List ℕ) → Option (List ℕ) → WorldView → Type 0
SweepsWell number old new view = IsMade (TellsNumbers (Appended old new) number view) number

-- A prefix of it was written.
abbrev pub SweepsPart : ℕ → Option (List ℕ) → Option (List ℕ) → Type 0
SweepsPart number old new = IsMade (λ script. (view : WorldView) × TellsNumbers (AppendedPart old new) number view script) number

-- how it ends
abbrev pub SweepEnds : ℕ → Result WorldView Stop → Option (List ℕ) → Option (List ℕ) → Type 0
SweepEnds number (Ok view) old new = SweepsWell number old new view
SweepEnds number (Err stops.Sink) old new = SweepsPart number old new
SweepEnds number (Err stops.Memory) old new = Appended old new []
SweepEnds number (Err other) old new = ⊥

-- There is a world, and the line of the numbers was written.
abbrev pub SweepsWellSome : ℕ → Option (List ℕ) → Option (List ℕ) → Option WorldView → Type 0
SweepsWellSome number old new None = ⊥
SweepsWellSome number old new (Some view) = SweepsWell number old new view
