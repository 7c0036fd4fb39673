-- Windows of a run: the events after a calm network that send, land, drain or ask for the state.
use Rattle.std.specs.Prelude.{◌≡◌, ⊤, ℕ, ◌+◌, ◌≤◌, Bool, List, [], ◌∷◌, ◌++◌, None, Some, length, slice_get, if◌then◌else◌}
use Rattle.mv_base.specs.declared.addr.Addr.{Addr}
use Rattle.mv_base.specs.declared.ids.IfaceId.{IfaceId}
use Rattle.mv_base.specs.declared.ids.SiteId.{SiteId}
use Rattle.scenario_defs.specs.declared.event.Script.{Script}
use Rattle.scenario_defs.specs.declared.event.Timed.{Timed}
use Rattle.mvpn_model.specs.Once.{IsOfWindow}
use Rattle.mvpn_model.specs.Report.{outs_at}
use Rattle.network_defs.specs.Costs.{Cores}
use Rattle.network_defs.specs.Events.{Happened, Done}
use Rattle.network_defs.specs.Refusals.{refusal}
use Rattle.network_defs.specs.Run.{Traced, outcome, Runs, Run, report_of, IsDrained}
use Rattle.network_defs.specs.World.{World, Datagram}
use Rattle.delivery_laws.specs.Calm.{CalmWorld}

-- each event that is not refused sends, lands, drains or asks for the state
abbrev pub AreOfWindow : World → List Timed → Type 0
AreOfWindow world [] = ⊤
AreOfWindow world (timed ∷ more) =
    (refusal world timed.event ≡ None → IsOfWindow timed.event)
    × ((acts : List Happened) (next : World) → outcome world timed ≡ Done acts next → AreOfWindow next more)

-- A run with a window: its events up to a calm network, those of the window, after which no copy is on a link, and later ones.
pub record WindowRun (receives : SiteId → Addr → Addr → IfaceId → Bool) (cores : Cores) (script : Script)
    (before within after : List Timed) (trace : List Traced) (calm last new : World) : Type 0 where
  pub first : List Traced
  pub middle : List Traced
  pub rest : List Traced
  pub whole : trace ≡ first ++ (middle ++ rest)
  pub up_to : Run cores script before first calm
  pub is_calm : CalmWorld receives calm
  pub of_window : AreOfWindow calm within
  pub window : Runs calm (length before) within middle last
  pub drained : IsDrained last
  pub later : Runs last (length before + length within) after rest new

-- Each datagram that was sent in the window leaves once at each interface that receives it, and nowhere else, over the whole report.
abbrev pub AreDeliveredOnce : (SiteId → Addr → Addr → IfaceId → Bool) → List Traced → World → World → Type 0
AreDeliveredOnce receives trace calm last =
    (place : ℕ) (datagram : Datagram) (iface : IfaceId) → length calm.datagrams ≤ place → slice_get last.datagrams place ≡ Some datagram
    → outs_at (report_of trace) (place + 1) iface ≡ (if receives datagram.site datagram.source datagram.group iface then 1 else 0)
