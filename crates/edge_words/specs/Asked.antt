-- Which flows an edge has (RFC 7761 section 4.1.5; RFC 6514 section 14 for sources that other edges know to send).
use Rattle.std.specs.Prelude.{◌≡◌, ◌⊎◌, ℕ, true, slice_get, Option, Some}
use Rattle.std.specs.FinMap as maps
use Rattle.std.specs.FinSet as sets
use Rattle.mv_base.specs.declared.addr.Addr.{Addr}
use Rattle.mv_base.specs.declared.ids.IfaceId.{IfaceId}
use Rattle.mv_base.specs.declared.ids.NodeId.{NodeId}
use Rattle.mv_base.specs.declared.ids.VrfId.{VrfId}
use Rattle.bgp_messages.specs.declared.bgp_attributes.key.Key.{Key}
use Rattle.edge_defs.specs.pim_defs.Entries.{expiry_at}
use Rattle.edge_defs.specs.pim_defs.Expiry.{counts}
use Rattle.scenario_defs.specs.declared.event.JoinEntry.{JoinEntry}
use Rattle.scenario_defs.specs.declared.event.JoinEntry.TheVariants as entries
use Rattle.scenario_defs.specs.declared.scenario.Iface.{Iface}
use Rattle.scenario_defs.specs.declared.scenario.Scenario.{Scenario}
use Rattle.selective_defs.specs.Selective.{Among}
use Rattle.edge_defs.specs.Edge.{VrfFlow, Upstream, TakenRoute, Control}
use Rattle.edge_defs.specs.Imported.{active_of, is_admitted, taken_from}
use Rattle.edge_defs.specs.Place.{EdgePlace, OwnVrf, own_vrfs}
use Rattle.edge_defs.specs.Upstream.{upstream_for}

-- The interface belongs to the VRF.
pub record IsIfaceOf (scenario : Scenario) (vrf : VrfId) (iface : IfaceId) : Type 0 where
  pub found : Iface
  pub at : slice_get scenario.ifaces iface.0 ≡ Some found
  pub of_vrf : found.vrf.0 ≡ vrf.0

-- ---- sources that are known to send

-- The source is noted to send to the group at an interface of the VRF.
pub record IsNoted (place : EdgePlace) (control : Control) (own : OwnVrf) (source group : Addr) : Type 0 where
  pub iface : IfaceId
  pub of_vrf : IsIfaceOf place.scenario own.id iface
  pub noted : sets.contains control.notes (record { iface = iface; source = source; group = group }) ≡ true

-- A Source Active A-D route for source and group was taken from a peer, and has a Route Target of the VRF.
pub record IsTold (control : Control) (own : OwnVrf) (source group : Addr) : Type 0 where
  pub peer : NodeId
  pub key : Key
  pub route : TakenRoute
  pub taken : maps.get (taken_from control peer) key ≡ Some route
  pub active : active_of key ≡ Some (record { source = source; group = group })
  pub admitted : is_admitted own.vrf route.value.comms ≡ true

-- The source is known to send to the group in the VRF's VPN.
abbrev pub IsKnown : EdgePlace → Control → OwnVrf → Addr → Addr → Type 0
IsKnown place control own source group = IsNoted place control own source group ⊎ IsTold control own source group

-- ---- what interfaces ask for

-- The interface has the entry, and its expiry is after the clock.
abbrev pub Stands : Control → ℕ → IfaceId → JoinEntry → Type 0
Stands control now iface entry = counts now (expiry_at control.entries iface entry) ≡ true

-- The interface asks for (S,G): (S,G) is joined there; or (*,G) is joined there, S is not pruned off the shared tree there, and S is
-- known to send to G.
abbrev pub Asks : EdgePlace → ℕ → Control → OwnVrf → Addr → Addr → IfaceId → Type 0
Asks place now control own source group iface =
    Stands control now iface (entries.Source source group)
    ⊎ (Stands control now iface (entries.Star group)
    × (Stands control now iface (entries.Rpt source group) → ⊥)
    × IsKnown place control own source group)

-- Some interface of a VRF of the edge asks for the flow at the clock, and the upstream is what the VRF chooses for it.
pub record IsAsked (place : EdgePlace) (now : ℕ) (control : Control) (flow : VrfFlow) (upstream : Option Upstream) : Type 0 where
  pub own : OwnVrf
  pub of_edge : Among own (own_vrfs place)
  pub of_flow : own.id ≡ flow.vrf
  pub iface : IfaceId
  pub of_vrf : IsIfaceOf place.scenario own.id iface
  pub asks : Asks place now control own flow.source flow.group iface
  pub choice : upstream ≡ upstream_for place control own flow.source flow.group
