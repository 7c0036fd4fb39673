-- Runs in which there was room for what a VPN asked for, and what leaves alike in two of them.
use Rattle.std.specs.Prelude.{◌≡◌, ℕ, ◌+◌, ◌==◌, ◌&&◌, Bool, true, false, List, map, slice_get, Some}
use Rattle.std.specs.List.{list_any, filter}
use Rattle.mv_base.specs.declared.ids.IfaceId.{IfaceId}
use Rattle.mv_base.specs.declared.ids.VrfId.{VrfId}
use Rattle.scenario_defs.specs.Rules.{Rises}
use Rattle.scenario_defs.specs.declared.event.Event.{Event}
use Rattle.scenario_defs.specs.declared.event.Script.{Script}
use Rattle.scenario_defs.specs.declared.event.Timed.{Timed}
use Rattle.scenario_defs.specs.declared.report.Refusal.{Refusal}
use Rattle.scenario_defs.specs.declared.report.Refusal.TheVariants as refusals
use Rattle.scenario_defs.specs.declared.report.ReportLine.{ReportLine}
use Rattle.scenario_defs.specs.declared.report.ReportLine.TheVariants as lines
use Rattle.mvpn_model.specs.Past.{Past}
use Rattle.mvpn_model.specs.Report.{Datagram, lines_of, refused_lines, outs_at}
use Rattle.network_defs.specs.Costs.{Cores}
use Rattle.network_defs.specs.Run.{Traced, report_of}
use Rattle.network_defs.specs.World.{World}
use Rattle.network_laws.specs.SoundRun.{SoundRun}
use Rattle.once_laws.specs.delivery_laws.Once.{past_of}
use Rattle.customer_laws.specs.Concerns.{concerns}
use Rattle.customer_laws.specs.Reported.{Reported, LiesInWindow, HasCounterpart}

-- some first events of a script, and a run of them
pub record OneRun : Type 0 where
  pub cores : Cores
  pub script : Script
  pub events : List Timed
  pub trace : List Traced
  pub world : World
  pub sound : SoundRun cores script events trace world
  pub rises : Rises 0 events

-- what happened in it
abbrev pub past_in : OneRun → Past
past_in run = past_of run.script.scenario run.events run.trace

-- the events of it that concern the VRF's VPN, in their order
abbrev pub asked_in : VrfId → OneRun → List Event
asked_in vrf run = filter (concerns run.script.scenario vrf) (map (λ timed. timed.event) run.events)

abbrev pub is_full : Refusal → Bool
is_full refusals.Full = true
is_full other = false

-- whether the report line says that there was no room for the event of that line
abbrev pub says_full : ℕ → ReportLine → Bool
says_full line (lines.Refused own reason) = (own == line) && is_full reason
says_full line other = false

-- No event of the run that concerns the VRF's VPN was refused `full`.
abbrev pub HasRoom : VrfId → OneRun → Type 0
HasRoom vrf run =
    (place : ℕ) (timed : Timed) → slice_get run.events place ≡ Some timed → concerns run.script.scenario vrf timed.event ≡ true →
    list_any (says_full timed.line) (lines_of (report_of run.trace)) ≡ false

-- what was reported of it
abbrev pub reported_in : OneRun → Reported
reported_in run = record { events = run.events; refused = refused_lines (report_of run.trace); report = report_of run.trace }

-- The datagram at that place of one run has its counterpart in the other one; and where both lie in calm windows, they leave at the
-- same interfaces.
pub record LeavesAlike (vrf : VrfId) (one other : OneRun) (place : ℕ) (datagram : Datagram) : Type 0 where
  pub found : HasCounterpart other.script.scenario vrf (reported_in one) (reported_in other) datagram
  pub leaves :
      LiesInWindow (reported_in one) place datagram → LiesInWindow (reported_in other) found.place found.counterpart → (iface : IfaceId) →
      outs_at (report_of one.trace) (place + 1) iface ≡ outs_at (report_of other.trace) (found.place + 1) iface
