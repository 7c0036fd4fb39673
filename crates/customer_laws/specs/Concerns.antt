-- Which events concern a VPN, and when two histories of one scenario are alike for it.
use Rattle.std.specs.Prelude.{◌≡◌, ℕ, Bool, true, false, List, map, slice_get, Option, None, Some}
use Rattle.std.specs.List.{list_any, filter}
use Rattle.mv_base.specs.declared.ids.IfaceId.{IfaceId}
use Rattle.mv_base.specs.declared.ids.NodeId.{NodeId}
use Rattle.mv_base.specs.declared.ids.VrfId.{VrfId}
use Rattle.scenario_defs.specs.Vpn.{same_vpn, is_attached, ifaces_where}
use Rattle.scenario_defs.specs.declared.event.Event.{Event}
use Rattle.scenario_defs.specs.declared.event.Event.TheVariants as events
use Rattle.scenario_defs.specs.declared.event.Timed.{Timed}
use Rattle.scenario_defs.specs.declared.scenario.Scenario.{Scenario}
use Rattle.mvpn_model.specs.Past.{Past, event_iface, is_accepted, is_of_edge}

-- whether the interface is of the VRF's VPN
abbrev pub is_of_vpn : Scenario → VrfId → IfaceId → Bool
is_of_vpn scenario vrf iface = elim (slice_get scenario.ifaces iface.0) [ None ↦ false | Some own ↦ same_vpn scenario vrf own.vrf ]

-- whether there is such an interface, and it is of the VRF's VPN
abbrev pub is_at_vpn : Scenario → VrfId → Option IfaceId → Bool
is_at_vpn scenario vrf None = false
is_at_vpn scenario vrf (Some iface) = is_of_vpn scenario vrf iface

-- whether the node is an edge of the VRF's VPN: some interface of the VPN is one of the node
abbrev pub is_edge_of_vpn : Scenario → VrfId → NodeId → Bool
is_edge_of_vpn scenario vrf node =
    list_any (is_of_edge scenario node) (ifaces_where (λ number iface. same_vpn scenario vrf iface.vrf) 0 scenario.ifaces)

-- Whether an event concerns the VRF's VPN: it is at an interface of the VPN or at a site that is attached to it, it moves the
-- clock, or it runs the timers of an edge of the VPN or restarts one.
abbrev pub concerns : Scenario → VrfId → Event → Bool
concerns scenario vrf (events.Customer event) = is_at_vpn scenario vrf (event_iface event)
concerns scenario vrf (events.Send site source group payload) = is_attached scenario vrf site
concerns scenario vrf (events.Packet site bytes) = is_attached scenario vrf site
concerns scenario vrf (events.Tick count) = true
concerns scenario vrf (events.Timers node) = is_edge_of_vpn scenario vrf node
concerns scenario vrf events.Settle = true
concerns scenario vrf (events.Restart node) = is_edge_of_vpn scenario vrf node
concerns scenario vrf other = false

-- an event, and whether it was accepted
pub record Answered : Type 0 where
  pub event : Event
  pub accepted : Bool

-- an event of a script with the answer to it, by the lines of those that were refused
abbrev pub answered : List ℕ → Timed → Answered
answered refused timed = record { event = timed.event; accepted = is_accepted refused timed }

-- the events of a past that concern the VRF's VPN, in their order, each with its answer
abbrev pub own_events : VrfId → Past → List Answered
own_events vrf past = filter (λ own. concerns past.scenario vrf own.event) (map (answered past.refused) past.events)

-- Two histories are alike for the VRF's VPN: they are of one scenario, and the events that concern the VPN are the same, in the
-- same order and with the same ones refused.
pub record AreAlike (vrf : VrfId) (one other : Past) : Type 0 where
  pub scenario : one.scenario ≡ other.scenario
  pub events : own_events vrf one ≡ own_events vrf other
