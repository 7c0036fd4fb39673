-- What laws of runs say of the reports of a script.
use Rattle.std.specs.Prelude.{◌≡◌, ℕ, ◌++◌, List, take}
use Rattle.core_pcap.specs.declared.hop.CoreHop.{CoreHop}
use Rattle.hop_laws.specs.Hops.{hops_of}
use Rattle.mv_base.specs.declared.ids.NodeId.{NodeId}
use Rattle.scenario_defs.specs.Rules.{Rules, ScriptRules}
use Rattle.scenario_defs.specs.declared.event.Script.{Script}
use Rattle.scenario_defs.specs.declared.scenario.Scenario.{Scenario}
use Rattle.mvpn_model.specs.Report.{Entry, lines_of}
use Rattle.network_defs.specs.Costs.{AreCoresOf, Cores}
use Rattle.network_defs.specs.Run.{Halts, Run, Traced, report_of}
use Rattle.network_defs.specs.World.{World}
use Rattle.hop_laws.specs.run_laws.Octets.{ScriptHasOctets}
use Rattle.mvpn_tool.specs.Report.{IsHaltedRun, IsReport, IsWholeRun, lines_text, text_of}
use Rattle.mvpn_tool.specs.declared.command.Detail.{Detail}

-- A report of the script begins with these entries, and its hops with theirs.
pub record ReportGoesOn (script : Script) (first : List Entry) : Type 0 where
  pub report : List Entry
  pub is_report : IsReport script report
  pub more : List Entry
  pub whole : report ≡ first ++ more
  pub more_hops : List CoreHop
  pub hops : hops_of script.events report ≡ hops_of script.events first ++ more_hops

-- A scenario has cores. A run of all events of a script is as a whole run is to be, and one that halts as it is to be; and a report of the
-- script begins with what happens in first events of it. The text of a report is that of those of its lines that are shown.
pub record KnownRuns : Type 0 where
  pub cores : (scenario : Scenario) → Rules scenario → (own : Cores) × AreCoresOf scenario own
  pub whole : (cores : Cores) (script : Script) (trace : List Traced) (state : World) → ScriptRules script → ScriptHasOctets script →
      AreCoresOf script.scenario cores → Run cores script script.events trace state → IsWholeRun cores script trace state
  pub halted : (cores : Cores) (script : Script) (report : List Entry) (node : NodeId) → ScriptRules script → ScriptHasOctets script →
      Halts cores script report node → IsHaltedRun cores script report node
  pub begins : (cores : Cores) (script : Script) (count : ℕ) (trace : List Traced) (state : World) → ScriptRules script →
      ScriptHasOctets script → AreCoresOf script.scenario cores → Run cores script (take count script.events) trace state →
      ReportGoesOn script (report_of trace)
  pub text : (detail : Detail) (scenario : Scenario) (report : List Entry) →
      text_of detail scenario report ≡ lines_text detail scenario (lines_of report)
