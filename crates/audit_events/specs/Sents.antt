-- The datagrams that were accepted, each with its receivers where it is of a window.
use Rattle.std.specs.Prelude.{◌≡◌, ℕ, ◌+◌, ◌≤◌, ◌&&◌, Bool, false, List, [], ◌∷◌, map, take, slice_get, Option, None, Some, if◌then◌else◌}
use Rattle.audit_defs.specs.scenario_defs.declared.event.Event.{Event}
use Rattle.audit_defs.specs.scenario_defs.declared.event.Event.TheVariants as events
use Rattle.audit_defs.specs.mvpn_model.Packets.{source_in, group_in}
use Rattle.audit_defs.specs.mvpn_model.Past.{receivers, ticks_in}
use Rattle.audit_defs.specs.mvpn_model.Report.{Datagram, datagrams}
use Rattle.audit_events.specs.declared.case.Case.{Case}
use Rattle.audit_events.specs.declared.fate.Fate.{Fate}
use Rattle.audit_events.specs.declared.fate.Fate.TheVariants as fates
use Rattle.audit_events.specs.declared.receivers.Flow.{Flow}
use Rattle.audit_events.specs.declared.sents.Sent.{Sent}
use Rattle.audit_events.specs.declared.sents.Walk.{Walk}
use Rattle.audit_events.specs.Case.{scenario_of, events_of, audited_of, past_of, is_open, is_windowed}
use Rattle.audit_events.specs.Joined.{Kept, kept_of, Follows}
use Rattle.audit_events.specs.Receivers.{receivers_now}

-- ---- what an event sends

-- the flow of the datagram that an event sends
abbrev pub flow_of : Event → Option Flow
flow_of (events.Send site source group payload) = Some (record { site = site; source = source; group = group })
flow_of (events.Packet site octets) = Some (record { site = site; source = source_in octets; group = group_in octets })
flow_of other = None

-- what became of the event of that number
abbrev pub fate_in : List Fate → ℕ → Fate
fate_in all number = elim (slice_get all number) [ None ↦ fates.Accepted | Some fate ↦ fate ]

-- whether a window that is open before the event of that number ends with it or later
abbrev pub closing_in : List Bool → ℕ → Bool
closing_in closings number = elim (slice_get closings number) [ None ↦ false | Some closing ↦ closing ]

-- what is said of a datagram of the event of that number, by what is kept, and by whether its window closes
abbrev pub sent_now : Case → Kept → Bool → ℕ → Flow → Sent
sent_now case kept windowed number flow = record {
  event = number;
  site = flow.site;
  asked = if windowed then Some (receivers_now (scenario_of case) kept case.vpns flow) else None;
}

-- the same of the event of that number, if it sends one, by what is known after those before it
abbrev pub sent_if_any : Case → Walk → ℕ → Event → Option Sent
sent_if_any case walk number event =
    elim (flow_of event) [
      | None ↦ None
      | Some flow ↦ Some (sent_now case (kept_of walk.joined) (walk.is_open && closing_in case.closings number) number flow)
    ]

-- ---- what is said of datagrams

-- what is said of a datagram
abbrev pub sent_of : Case → Datagram → Sent
sent_of case datagram = record {
  event = datagram.event;
  site = datagram.site;
  asked =
      if is_windowed case datagram.event
      then Some (receivers (past_of case datagram.event) datagram.site datagram.source datagram.group)
      else None;
}

-- what is said of the datagrams of the first events
abbrev pub sents_before : Case → ℕ → List Sent
sents_before case number = map (sent_of case) (datagrams (audited_of case).refused 0 (take number (events_of case)))

-- the datagram of one event, as a list: one event sends one at most
abbrev pub listed : Option Sent → List Sent
listed None = []
listed (Some sent) = sent ∷ []

-- what is said of all datagrams
abbrev pub sents_of : Case → List Sent
sents_of case = map (sent_of case) (datagrams (audited_of case).refused 0 (events_of case))

-- ---- the walk over the events

-- What is known after that many events is what they mean.
pub record IsWalked (case : Case) (number : ℕ) (walk : Walk) : Type 0 where
  pub follows : Follows (past_of case number) (kept_of walk.joined)
  pub clock : walk.joined.clock ≤ ticks_in (take number (events_of case))
  pub count : walk.joined.count ≤ number
  pub opened : walk.is_open ≡ is_open case number

-- The same but for the window, which is still that before the event of that number.
pub record IsStepped (case : Case) (number : ℕ) (walk : Walk) : Type 0 where
  pub follows : Follows (past_of case (number + 1)) (kept_of walk.joined)
  pub clock : walk.joined.clock ≤ ticks_in (take (number + 1) (events_of case))
  pub count : walk.joined.count ≤ number + 1
  pub opened : walk.is_open ≡ is_open case number
