-- What the events so far mean: which entries stand, and who receives a flow.
use Rattle.std.specs.Prelude.{ℕ, ◌+◌, ◌==◌, ◌&&◌, ◌||◌, Bool, false, not, List, [], ◌∷◌, take, slice_get, Option, None, Some, if◌then◌else◌}
use Rattle.std.specs.List.{list_any, fold}
use Rattle.mv_base.specs.declared.ids.NodeId.{NodeId}
use Rattle.mv_base.specs.declared.ids.IfaceId.{IfaceId}
use Rattle.mv_base.specs.declared.ids.SiteId.{SiteId}
use Rattle.mv_base.specs.declared.ids.VrfId.{VrfId}
use Rattle.mv_base.specs.declared.addr.Addr.{Addr}
use Rattle.mv_base.specs.Address.{same_addr}
use Rattle.scenario_defs.specs.declared.scenario.Iface.{Iface}
use Rattle.scenario_defs.specs.declared.scenario.Scenario.{Scenario}
use Rattle.scenario_defs.specs.declared.event.Timed.{Timed}
use Rattle.scenario_defs.specs.declared.event.Event.{Event}
use Rattle.scenario_defs.specs.declared.event.CustomerEvent.{CustomerEvent}
use Rattle.scenario_defs.specs.declared.event.CustomerEvent.TheVariants as customers
use Rattle.scenario_defs.specs.declared.event.Event.TheVariants as events
use Rattle.scenario_defs.specs.declared.event.JoinEntry.{JoinEntry}
use Rattle.scenario_defs.specs.declared.event.JoinEntry.TheVariants as entries
use Rattle.scenario_defs.specs.Vpn.{same_vpn, is_of_site, vrf_of_site, edge_of, ifaces_where}
use Rattle.scenario_defs.specs.Home.{home}
use Rattle.pim_defs.specs.declared.expiry.Expiry.{Expiry}
use Rattle.pim_defs.specs.Expiry.{remaining}
use Rattle.pim_defs.specs.Mention.{mention_of, expiry_after}
use Rattle.pim_defs.specs.Asking.{asks_by}
use Rattle.mvpn_model.specs.declared.history.History.{History}
use Rattle.mvpn_model.specs.declared.message.Given.{Given}
use Rattle.mvpn_model.specs.declared.standing.Standing.{Standing}
use Rattle.mvpn_model.specs.Messages.{message_of}

-- the scenario, the events so far, and the lines of those that were refused
pub record Past : Type 0 where
  pub scenario : Scenario
  pub events : List Timed
  pub refused : List ℕ

-- the past that a history tells
abbrev pub past_of : History → Past
past_of history =
    record { scenario = history.script.now.scenario; events = take history.upto history.script.now.events; refused = history.refused.now }

-- whether the event's line is none of the refused ones
abbrev pub is_accepted : List ℕ → Timed → Bool
is_accepted refused timed = not (list_any (λ line. line == timed.line) refused)

-- ---- joined state

-- the ticks by which an event moves the clock
abbrev pub ticks_of : Event → ℕ
ticks_of (events.Tick count) = count
ticks_of other = 0

abbrev pub ticks_in : List Timed → ℕ
ticks_in [] = 0
ticks_in (timed ∷ more) = ticks_of timed.event + ticks_in more

-- whether the interface is one of the edge
abbrev pub is_of_edge : Scenario → NodeId → IfaceId → Bool
is_of_edge scenario node iface = elim (edge_of scenario iface) [ None ↦ false | Some edge ↦ edge.0 == node.0 ]

-- the expiry of an entry of the interface after a message that is taken at the clock
abbrev pub expiry_given : IfaceId → JoinEntry → ℕ → Option Expiry → Option Given → Option Expiry
expiry_given iface entry clock old None = old
expiry_given iface entry clock old (Some given) =
    if iface.0 == given.iface.0 then expiry_after entry (mention_of given.message entry) clock given.message.holdtime old else old

-- What an accepted event at that clock makes of the expiry of an entry of the interface: a run of its edge's timers ends
-- it where it has come, and `settle` runs those of all nodes; a restart of its edge ends it, and a message changes it.
abbrev pub expiry_by : Scenario → IfaceId → JoinEntry → ℕ → Event → Option Expiry → Option Expiry
expiry_by scenario iface entry clock (events.Timers node) old = if is_of_edge scenario node iface then remaining clock old else old
expiry_by scenario iface entry clock (events.Restart node) old = if is_of_edge scenario node iface then None else old
expiry_by scenario iface entry clock events.Settle old = remaining clock old
expiry_by scenario iface entry clock event old = expiry_given iface entry clock old (message_of scenario event)

-- the clock and the entry's expiry after an event, by those before it; a refused event changes neither
abbrev pub stands_after : Scenario → List ℕ → IfaceId → JoinEntry → Standing → Timed → Standing
stands_after scenario refused iface entry old timed =
    if is_accepted refused timed
    then record { clock = old.clock + ticks_of timed.event; expiry = expiry_by scenario iface entry old.clock timed.event old.expiry }
    else old

-- The clock, and the expiry of an entry of the interface, after all events. At first the clock is 0 and no entry is
-- there.
abbrev pub standing : Past → IfaceId → JoinEntry → Standing
standing past iface entry = fold (stands_after past.scenario past.refused iface entry) (record { clock = 0; expiry = None }) past.events

-- ---- events at an interface

-- the interface at which an event of a customer is; a selection is at none
abbrev pub event_iface : CustomerEvent → Option IfaceId
event_iface (customers.Join iface entry) = Some iface
event_iface (customers.Prune iface entry) = Some iface
event_iface (customers.Pim iface bytes) = Some iface
event_iface (customers.Active iface source group) = Some iface
event_iface (customers.Idle iface source group) = Some iface
event_iface other = None

-- ---- active sources

-- whether both are one flow at one interface
abbrev pub is_flow_at : IfaceId → Addr → Addr → IfaceId → Addr → Addr → Bool
is_flow_at iface source group own own_source own_group =
    (iface.0 == own.0) && same_addr source own_source && same_addr group own_group

-- Whether S is noted at the interface as a sender to G after an accepted event, by whether it was before: `active` for them
-- there notes it, and `idle` for them there, or a restart of the interface's edge, ends that.
abbrev pub noted_by : Scenario → IfaceId → Addr → Addr → Event → Bool → Bool
noted_by scenario iface source group (events.Customer (customers.Active own own_source own_group)) old =
    old || is_flow_at iface source group own own_source own_group
noted_by scenario iface source group (events.Customer (customers.Idle own own_source own_group)) old =
    old && not (is_flow_at iface source group own own_source own_group)
noted_by scenario iface source group (events.Restart node) old = old && not (is_of_edge scenario node iface)
noted_by scenario iface source group other old = old

-- the same after any event; a refused one changes nothing
abbrev pub noted_after : Scenario → List ℕ → IfaceId → Addr → Addr → Bool → Timed → Bool
noted_after scenario refused iface source group old timed =
    if is_accepted refused timed then noted_by scenario iface source group timed.event old else old

-- whether S is noted at the interface as a sender to G after all events; at first none is
abbrev pub is_noted : Past → IfaceId → Addr → Addr → Bool
is_noted past iface source group = fold (noted_after past.scenario past.refused iface source group) false past.events

-- whether S is known in the VRF's VPN to send to G: it is noted at some interface of that VPN
abbrev pub is_active : Past → VrfId → Addr → Addr → Bool
is_active past vrf source group =
    list_any (λ iface. is_noted past iface source group)
    (ifaces_where (λ number iface. same_vpn past.scenario vrf iface.vrf) 0 past.scenario.ifaces)

-- the same, in the VPN of an interface
abbrev pub is_active_at : Past → IfaceId → Addr → Addr → Bool
is_active_at past iface source group = elim (slice_get past.scenario.ifaces iface.0) [
  | None ↦ false
  | Some own ↦ is_active past own.vrf source group
]

-- ---- what interfaces ask for

-- Whether the interface asks for (S,G): (S,G) is joined there; or (*,G) is joined, (S,G) is not pruned off the shared
-- tree, and S is known to send to G (RFC 7761 section 4.1.5).
abbrev pub asks : Past → IfaceId → Addr → Addr → Bool
asks past iface source group =
    let joined = standing past iface (entries.Source source group) in
    let shared = standing past iface (entries.Star group) in
    let pruned = standing past iface (entries.Rpt source group) in
    asks_by joined.clock (is_active_at past iface source group) joined.expiry shared.expiry pruned.expiry

-- ---- who receives a flow

-- whether the site is the home of the source in the VRF's VPN
abbrev pub is_home : Scenario → VrfId → Addr → SiteId → Bool
is_home scenario vrf source site = elim (home scenario vrf source) [ None ↦ false | Some found ↦ found.0 == site.0 ]

-- whether an interface is of the VRF's VPN, belongs to another site, and asks for (S,G)
abbrev pub receives : Past → VrfId → SiteId → Addr → Addr → IfaceId → Iface → Bool
receives past vrf site source group number iface =
    same_vpn past.scenario vrf iface.vrf && not (is_of_site site iface) && asks past number source group

-- The receivers of (S,G) from a site: where the site is attached to a VPN and is the home of S there, all interfaces of
-- that VPN that belong to another site and ask for (S,G); otherwise none.
abbrev pub receivers : Past → SiteId → Addr → Addr → List IfaceId
receivers past site source group = elim (vrf_of_site past.scenario site) [
  | None ↦ []
  | Some vrf ↦
      if is_home past.scenario vrf source site then ifaces_where (receives past vrf site source group) 0 past.scenario.ifaces else []
]
