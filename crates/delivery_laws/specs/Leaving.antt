-- At which interfaces a datagram leaves an edge, as tests.
use Rattle.std.specs.Prelude.{ℕ, ◌&&◌, Bool, false, Option, None, Some, slice_get}
use Rattle.std.specs.List.{list_any}
use Rattle.std.specs.FinMap as maps
use Rattle.std.specs.FinSet as sets
use Rattle.mv_base.specs.declared.addr.Addr.{Addr}
use Rattle.mv_base.specs.declared.ids.IfaceId.{IfaceId}
use Rattle.mv_base.specs.declared.ids.SiteId.{SiteId}
use Rattle.mv_base.specs.declared.ids.VrfId.{VrfId}
use Rattle.mldp.specs.declared.mldp_fec.fec.Fec.{Fec}
use Rattle.scenario_defs.specs.Vpn.{is_of_vrf}
use Rattle.scenario_defs.specs.declared.scenario.Iface.{Iface}
use Rattle.scenario_defs.specs.declared.scenario.Scenario.{Scenario}
use Rattle.edge_defs.specs.Datagrams.{is_from_site, is_outside, is_from_edge, is_imported_from}
use Rattle.edge_defs.specs.Edge.{Control, EdgeData}
use Rattle.edge_defs.specs.Flows.{is_asking}
use Rattle.edge_defs.specs.Place.{EdgePlace, OwnVrf, own_vrfs}
use Rattle.edge_defs.specs.Upstream.{upstream_for}

abbrev pub passes : (Iface → Bool) → Option Iface → Bool
passes test None = false
passes test (Some found) = test found

-- whether the interface is one of the VRF
abbrev pub is_iface_of_vrf : Scenario → IfaceId → VrfId → Bool
is_iface_of_vrf scenario iface id = passes (is_of_vrf id) (slice_get scenario.ifaces iface.0)

-- whether the interface is one of the VRF and asks for the flow
abbrev pub asks_at : EdgePlace → ℕ → Control → Addr → Addr → IfaceId → OwnVrf → Bool
asks_at place now control source group iface own =
    is_iface_of_vrf place.scenario iface own.id && is_asking place now control own source group iface

-- whether the VRF imports a route of the tunnel from the edge that it chooses for the source and group
abbrev pub takes_from : EdgePlace → Control → Fec → Addr → Addr → OwnVrf → Bool
takes_from place control fec source group own =
    list_any (λ peer. is_imported_from place own fec peer && is_from_edge peer.0 (upstream_for place control own source group))
    (maps.entries control.peers)

-- whether a copy on the tunnel leaves at the interface
abbrev pub leaves_arriving : EdgePlace → ℕ → EdgeData → Fec → Addr → Addr → IfaceId → Bool
leaves_arriving place now edge fec source group iface =
    sets.contains edge.part.leaves fec
    && list_any (λ own. asks_at place now edge.control source group iface own && takes_from place edge.control fec source group own)
    (own_vrfs place)

-- whether a datagram of the site that enters at the VRF leaves at the interface
abbrev pub leaves_entering : EdgePlace → ℕ → EdgeData → OwnVrf → SiteId → Addr → Addr → IfaceId → Bool
leaves_entering place now edge own site source group iface =
    is_from_site site (upstream_for place edge.control own source group)
    && (asks_at place now edge.control source group iface own && is_outside place.scenario site iface)
