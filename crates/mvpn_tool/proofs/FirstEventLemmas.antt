-- A world after the first events of a script: what is true of the next one, and what a step with it leaves.
use Rattle.std.proofs.Common.{◌≡◌, ℕ, ◌+◌, ◌<◌, ◌++◌, List, [], slice_get, take, Some}
use Rattle.scenario_defs.specs.Rules.{IsEventOf, ScriptRules}
use Rattle.scenario_defs.specs.declared.event.Script.{Script}
use Rattle.scenario_defs.specs.declared.event.Timed.{Timed}
use Rattle.scenario_defs.specs.declared.report.ReportLine.{ReportLine}
use Rattle.mvpn_model.specs.Past.{ticks_of}
use Rattle.network_defs.specs.Costs.{AreCoresOf, Cores}
use Rattle.network_defs.specs.Run.{Traced, traced}
use Rattle.network_defs.specs.World.{World, start}
use Rattle.network_events.specs.Behind.{Advances, IsBegun}
use Rattle.network_events.specs.WorldView.{WorldView}
use Rattle.network_events.proofs.ScriptLemmas.{after_next, next_clock, next_event}
use Rattle.mvpn_tool.specs.FirstEvents.{IsBehindFirst, IsReached}

-- nothing has happened yet
pub after_none : (script : Script) → ScriptRules script → (view : WorldView) → IsBegun script.scenario view → (cores : Cores)
    → AreCoresOf script.scenario cores
    → IsBehindFirst cores script 0 [] (start script.scenario cores) view
after_none script rules view begun cores of_scenario = record { rules = rules; is = begun.thereafter cores of_scenario }

module _ (timed : Timed) (view : WorldView) (at : IsReached timed view) where
  pub reached_event : IsEventOf view.network.scenario timed.event
  reached_event = next_event at.cores at.script at.thereafter.rules at.count at.trace at.world view at.thereafter.is timed at.next

  pub reached_clock : view.network.plane.clock + ticks_of timed.event < 9223372036854775808
  reached_clock = next_clock at.cores at.script at.thereafter.rules at.count at.trace at.world view at.thereafter.is timed at.next

  -- the network is the one after the event too
  pub reached_more : (lines new_lines : List ReportLine) (now : WorldView)
      → (a : Advances at.cores at.script.scenario (take at.count at.script.events) at.trace at.world timed lines new_lines now)
      → IsBehindFirst at.cores at.script (at.count + 1) (at.trace ++ traced at.count a.acts) a.next now
  reached_more lines new_lines now a = record {
    rules = at.thereafter.rules;
    is = after_next at.cores at.script at.thereafter.rules at.count at.trace at.world view at.thereafter.is timed at.next a.acts a.next now a.thereafter;
  }
