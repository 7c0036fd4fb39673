-- In a calm network every joined receiver gets each datagram exactly once.
use Rattle.std.specs.Prelude.{◌≡◌, ℕ, ◌+◌, ◌≤◌, ◌⊎◌, true, List, take, slice_get, Some, Contains, if◌then◌else◌}
use Rattle.std.specs.List.{list_any}
use Rattle.std.specs.Prelude.{◌==◌}
use Rattle.mv_base.specs.declared.ids.IfaceId.{IfaceId}
use Rattle.scenario_defs.specs.declared.scenario.Scenario.{Scenario}
use Rattle.scenario_defs.specs.declared.event.Timed.{Timed}
use Rattle.scenario_defs.specs.declared.event.Event.{Event}
use Rattle.scenario_defs.specs.declared.event.Event.TheVariants as event
use Rattle.scenario_defs.specs.declared.report.ReportLine.TheVariants as lines
use Rattle.mvpn_model.specs.Past.{Past, is_accepted, receivers}
use Rattle.mvpn_model.specs.Report.{Entry, Datagram, datagrams, outs_at}

-- The event at that place is `state`, and its line tells these numbers.
pub record TellsState (events : List Timed) (report : List Entry) (place bytes copies buffers due unready : ℕ) : Type 0 where
  pub line : ℕ
  pub at : slice_get events place ≡ Some (record { line = line; event = event.State })
  pub entry : Entry
  pub reported : Contains report entry
  pub of_event : entry.event ≡ place
  pub told : Contains entry.lines (lines.State bytes copies buffers due unready)

-- A calm line has five zeros.
abbrev pub IsCalm : List Timed → List Entry → ℕ → Type 0
IsCalm events report place = TellsState events report place 0 0 0 0 0

-- The event at that place ends a window: it is `drain`, or a `state` that tells of no copy on a link.
abbrev pub EndsWindow : List Timed → List Entry → ℕ → Type 0
EndsWindow events report place =
    ((line : ℕ) × (slice_get events place ≡ Some (record { line = line; event = event.Drain })))
    ⊎ ((bytes : ℕ) × (buffers : ℕ) × (due : ℕ) × (unready : ℕ) × TellsState events report place bytes 0 buffers due unready)

-- The event sends, lands or drains, or asks for the state.
abbrev pub IsOfWindow : Event → Type 0
IsOfWindow (event.Send site source group payload) = Unit {0}
IsOfWindow (event.Packet site bytes) = Unit {0}
IsOfWindow (event.Hop from to place) = Unit {0}
IsOfWindow event.Drain = Unit {0}
IsOfWindow event.State = Unit {0}
IsOfWindow other = ⊥

-- A window: the events after a calm `state` up to a `drain` or a `state` without copies, all of which send, land, drain
-- or ask for the state, but for those of the refused lines.
pub record IsWindow (events : List Timed) (refused : List ℕ) (report : List Entry) (first last : ℕ) : Type 0 where
  pub calm : ℕ
  pub opens : first ≡ calm + 1
  pub is_calm : IsCalm events report calm
  pub closes : EndsWindow events report last
  pub within : (place : ℕ) (timed : Timed) → first ≤ place → place ≤ last → slice_get events place ≡ Some timed →
      is_accepted refused timed ≡ true → IsOfWindow timed.event

-- what happened before the event of that number
abbrev pub past_at : Scenario → List Timed → List ℕ → ℕ → Past
past_at scenario events refused number = record { scenario = scenario; events = take number events; refused = refused }

-- The datagram left exactly once at each of its receivers, and nowhere else.
abbrev pub IsDeliveredOnce : Scenario → List Timed → List ℕ → List Entry → ℕ → Datagram → Type 0
IsDeliveredOnce scenario events refused report number datagram =
    let past = past_at scenario events refused datagram.event in
    (iface : IfaceId) → outs_at report number iface ≡
    (if list_any (λ receiver. receiver.0 == iface.0) (receivers past datagram.site datagram.source datagram.group) then 1 else 0)

-- Each datagram that was accepted in a window was delivered once, over the whole report.
abbrev pub Once : Scenario → List Timed → List ℕ → List Entry → Type 0
Once scenario events refused report =
    (first last : ℕ) → IsWindow events refused report first last →
    (place : ℕ) (datagram : Datagram) → slice_get (datagrams refused 0 events) place ≡ Some datagram →
    first ≤ datagram.event → datagram.event ≤ last →
    IsDeliveredOnce scenario events refused report (place + 1) datagram
