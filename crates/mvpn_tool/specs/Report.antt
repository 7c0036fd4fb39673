-- The reports of a script, and what `replay` writes of one.
use Rattle.std.specs.Prelude.{◌≡◌, ◌⊎◌, ℕ, Bool, true, List, [], ◌∷◌, ◌++◌, length, filter, codes, All}
use Rattle.std.specs.List.{flat_map}
use Rattle.core_pcap.specs.Spelling.{IsHop}
use Rattle.hop_laws.specs.Hops.{NameDatagrams, hops_of}
use Rattle.mv_base.specs.declared.ids.NodeId.{NodeId}
use Rattle.scenario_defs.specs.Text.{line_text}
use Rattle.scenario_defs.specs.declared.event.Script.{Script}
use Rattle.scenario_defs.specs.declared.report.ReportLine.{ReportLine}
use Rattle.scenario_defs.specs.declared.report.ReportLine.TheVariants as lines
use Rattle.scenario_defs.specs.declared.scenario.Scenario.{Scenario}
use Rattle.mvpn_model.specs.Once.{Once}
use Rattle.mvpn_model.specs.Report.{Entry, lines_of, report_text, refused_lines}
use Rattle.mvpn_model.specs.Safe.{Safe}
use Rattle.network_defs.specs.Costs.{AreCoresOf, Cores}
use Rattle.network_defs.specs.Events.{Outcome, Done, Halted}
use Rattle.network_defs.specs.LabelRule.{LabelRule}
use Rattle.network_defs.specs.Local.{Local}
use Rattle.network_defs.specs.Run.{Halts, Run, Traced, report_of, traced}
use Rattle.network_defs.specs.World.{World, start}
use Rattle.network_events.specs.delivery_laws.Flood.{lines_in}
use Rattle.hop_laws.specs.run_laws.Plain.{is_plain, plain}
use Rattle.hop_laws.specs.run_laws.Ready.{ReportsUnready}
use Rattle.hop_laws.specs.run_laws.rule_laws.Throughout.{ThroughoutEvents}
use Rattle.settle_laws.specs.Behind.{Settles}
use Rattle.audit_defs.specs.declared.verdict.ReportLines.{ReportLines}
use Rattle.audit_defs.specs.Markers.{values}
use Rattle.audit_defs.specs.Verdicts.{HasNoOffence}
use Rattle.mvpn_tool.specs.declared.command.Detail.{Detail}
use Rattle.mvpn_tool.specs.declared.command.Detail.TheVariants as details

-- This happens in a run of all events of the script, by the cores of its scenario. No customer sees another's datagram; each datagram
-- that is sent while the network is calm leaves once at each of its receivers, and nowhere else; and each hop is licensed by what its
-- node and the neighbour have put and taken. The label rule holds after each act. The last number of each `state` line is how many
-- sessions are not ready by the events alone. After each `settle` no octet is in transit and no timer is due, and after each `drain` no
-- copy is on a link. The lines of its report, whole or plain, have no offence. Each `hop` line names a datagram that was sent by then, and
-- each hop has a spelling in a file of hops.
pub record IsWholeRun (cores : Cores) (script : Script) (trace : List Traced) (world : World) : Type 0 where
  pub of_scenario : AreCoresOf script.scenario cores
  pub run : Run cores script script.events trace world
  pub safe : Safe script.scenario script.events (refused_lines (report_of trace)) (report_of trace)
  pub once : Once script.scenario script.events (refused_lines (report_of trace)) (report_of trace)
  pub local : Local world trace
  pub label_rule : ThroughoutEvents LabelRule (start script.scenario cores) script.events
  pub unready : ReportsUnready script.scenario script.events (refused_lines (report_of trace)) (report_of trace)
  pub settles : Settles cores script script.events trace
  pub fair :
      (report : ReportLines) → (values report.lines ≡ lines_of (report_of trace)) ⊎ (values report.lines ≡ lines_of (plain (report_of trace))) →
      HasNoOffence script report
  pub named : NameDatagrams script.events (report_of trace)
  pub spelled : All IsHop (hops_of script.events (report_of trace))

-- The run halts at that node, which ran out of labels, with this report, whose last line says so. It is safe and local up to there, and the
-- label rule holds after each act. Of the events before the one that halts each datagram of a calm network was delivered once, and what is
-- said of `state`, `settle`, `drain` and hops holds as in a whole run.
pub record IsHaltedRun (cores : Cores) (script : Script) (report : List Entry) (node : NodeId) : Type 0 where
  pub halt : Halts cores script report node
  pub safe : Safe script.scenario script.events (refused_lines report) report
  pub once : Once script.scenario halt.before (refused_lines (report_of halt.trace)) (report_of halt.trace)
  pub local : Local halt.world (halt.trace ++ traced (length halt.before) halt.acts)
  pub label_rule : ThroughoutEvents LabelRule (start script.scenario cores) script.events
  pub unready : ReportsUnready script.scenario halt.before (refused_lines (report_of halt.trace)) (report_of halt.trace)
  pub settles : Settles cores script halt.before halt.trace
  pub named : NameDatagrams script.events (report_of halt.trace)
  pub spelled : All IsHop (hops_of script.events report)

-- The report is that of the run of all events, or of the run that halts.
pub data IsReport (script : Script) (report : List Entry) : Type 0 where
  OfAll : (cores : Cores) → (trace : List Traced) → (world : World) → IsWholeRun cores script trace world → report ≡ report_of trace
      → IsReport script report
  UpToHalt : (cores : Cores) → (node : NodeId) → IsHaltedRun cores script report node → IsReport script report

-- All events of the script run, by the cores of its scenario.
pub record AllRun (script : Script) : Type 0 where
  pub cores : Cores
  pub of_scenario : AreCoresOf script.scenario cores
  pub trace : List Traced
  pub state : World
  pub run : Run cores script script.events trace state

-- One of them runs out of labels.
pub record OneHalts (script : Script) : Type 0 where
  pub cores : Cores
  pub report : List Entry
  pub node : NodeId
  pub halt : Halts cores script report node

-- ---- what is written

-- what is shown of a report: all, or all but the lines of the wire
abbrev pub told : Detail → List Entry → List Entry
told details.Wire report = report
told details.Plain report = plain report

-- the text of what is shown of a report
abbrev pub text_of : Detail → Scenario → List Entry → List ℕ
text_of detail scenario report = report_text scenario (told detail report)

-- a script, the line `report`, and what is shown of a report after it
abbrev pub own_report : Detail → List ℕ → Script → List Entry → List ℕ
own_report detail text script report = text ++ codes "report\n" ++ text_of detail script.scenario report

-- whether a line is shown
abbrev pub is_told : Detail → ReportLine → Bool
is_told details.Wire line = true
is_told details.Plain line = is_plain line

-- the text of those of some lines that are shown
abbrev pub lines_text : Detail → Scenario → List ReportLine → List ℕ
lines_text detail scenario all = flat_map (line_text scenario) (filter (is_told detail) all)

-- the lines of an event: those of its acts, and where one runs out of labels the line that says so
abbrev pub event_lines : ℕ → Outcome → List ReportLine
event_lines line (Done acts world) = lines_in acts
event_lines line (Halted acts node) = lines_in acts ++ lines.Halt line node ∷ []
