-- Runs: the events of a script, one after another.
use Rattle.std.specs.Prelude.{◌≡◌, ℕ, ◌+◌, List, [], ◌∷◌, ◌++◌, take, map, length, None, Some}
use Rattle.mv_base.specs.declared.ids.NodeId.{NodeId}
use Rattle.scenario_defs.specs.declared.event.Timed.{Timed}
use Rattle.scenario_defs.specs.declared.event.Script.{Script}
use Rattle.scenario_defs.specs.declared.report.ReportLine.TheVariants as lines
use Rattle.mvpn_model.specs.Report.{Entry}
use Rattle.network_defs.specs.Costs.{Cores, AreCoresOf}
use Rattle.network_defs.specs.Counts.{octets_in_transit, all_copies, due_timers}
use Rattle.network_defs.specs.Events.{Happened, Outcome, Done, Halted, done}
use Rattle.network_defs.specs.Refusals.{refusal}
use Rattle.network_defs.specs.World.{World, start}

-- what comes of an event: a refused one gives the line that says so, and changes nothing
abbrev pub outcome : World → Timed → Outcome
outcome world timed =
    elim (refusal world timed.event) [
      | None ↦ done world timed.event
      | Some reason ↦ Done (record { act = None; lines = lines.Refused timed.line reason ∷ [] } ∷ []) world
    ]

-- What happened in a run, act by act, each with the number of its event in the script, counted from 0.
pub record Traced : Type 0 where
  pub event : ℕ
  pub happened : Happened

abbrev pub traced : ℕ → List Happened → List Traced
traced number acts = map (λ happened. record { event = number; happened = happened }) acts

-- the report of what happened
abbrev pub report_of : List Traced → List Entry
report_of trace = map (λ step. record { event = step.event; lines = step.happened.lines }) trace

-- The events, numbered from that number on, take the old network to the new one, and this happens.
abbrev pub Runs : World → ℕ → List Timed → List Traced → World → Type 0
Runs old number [] trace new = (trace ≡ []) × (new ≡ old)
Runs old number (timed ∷ more) trace new =
    (acts : List Happened) × (next : World) × (rest : List Traced) × (outcome old timed ≡ Done acts next)
    × (trace ≡ traced number acts ++ rest) × Runs next (number + 1) more rest new

-- Events, from the state in which nothing has happened in the network of the script.
abbrev pub Run : Cores → Script → List Timed → List Traced → World → Type 0
Run cores script events trace new = Runs (start script.scenario cores) 0 events trace new

-- The first so many events of a script run, by the cores of its scenario.
pub record RunOf (script : Script) (count : ℕ) (trace : List Traced) (new : World) : Type 0 where
  pub cores : Cores
  pub of_scenario : AreCoresOf script.scenario cores
  pub run : Run cores script (take count script.events) trace new

-- The first events run, by the cores of the script's scenario; then one lacks a label at a node. The report ends with the lines of its
-- acts before that, and the line that says so.
pub record Halts (cores : Cores) (script : Script) (report : List Entry) (node : NodeId) : Type 0 where
  pub of_scenario : AreCoresOf script.scenario cores
  pub before : List Timed
  pub timed : Timed
  pub after : List Timed
  pub events : script.events ≡ before ++ timed ∷ after
  pub trace : List Traced
  pub world : World
  pub run : Run cores script before trace world
  pub acts : List Happened
  pub lacks : outcome world timed ≡ Halted acts node
  pub whole : report
      ≡ report_of (trace ++ traced (length before) acts) ++ record { event = length before; lines = lines.Halt timed.line node ∷ [] } ∷ []

-- ---- after some events

-- What `settle` is to leave: no octet in transit, and no timer due.
abbrev pub IsSettled : World → Type 0
IsSettled world = (octets_in_transit world ≡ 0) × (due_timers world ≡ 0)

-- What `drain` is to leave: no copy on a link.
abbrev pub IsDrained : World → Type 0
IsDrained world = all_copies world ≡ []
