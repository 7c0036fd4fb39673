-- The routes that an edge originates (RFC 6514 sections 6, 7, 9.1.1, 12.1 and 14.1; RFC 4364 section 4.3).
use Rattle.std.specs.Prelude.{ℕ, ◌==◌, Bool, false, List, [], ◌∷◌, ◌++◌, map, slice_get, Option, None, Some}
use Rattle.std.specs.List.{filter, flat_map}
use Rattle.std.specs.Int.{w16, to_be_bytes}
use Rattle.std.specs.FinMap as maps
use Rattle.mv_base.specs.Address.{addr_octets}
use Rattle.mv_base.specs.declared.addr.Addr.{Addr}
use Rattle.mv_base.specs.declared.ids.IfaceId.{IfaceId}
use Rattle.mv_base.specs.declared.ids.VrfId.{VrfId}
use Rattle.mv_base.specs.declared.pattern.Pattern.{Pattern}
use Rattle.bgp_messages.specs.bgp_values.declared.mvpn_nlri.route.Afi.{Afi}
use Rattle.bgp_messages.specs.bgp_values.declared.mvpn_nlri.route.Afi.TheVariants.{Ipv4}
use Rattle.bgp_messages.specs.bgp_values.declared.mvpn_nlri.route.Route.TheVariants as routes
use Rattle.bgp_messages.specs.bgp_values.declared.pmsi_attr.pmsi.Pmsi.{Pmsi}
use Rattle.bgp_messages.specs.bgp_values.declared.pmsi_attr.pmsi.Tunnel.TheVariants as tunnels
use Rattle.mv_base.specs.route_targets.Communities.{import_octets, source_as_octets}
use Rattle.mv_base.specs.declared.route_targets.communities.ExtComm.{ExtComm}
use Rattle.bgp_messages.specs.declared.bgp_attributes.key.Key.{Key}
use Rattle.bgp_messages.specs.declared.bgp_attributes.key.Key.TheVariants.{Mcast, Unicast}
use Rattle.choice_defs.specs.scenario_defs.Home.{local_routes}
use Rattle.choice_defs.specs.scenario_defs.Vpn.{is_of_vrf}
use Rattle.choice_defs.specs.scenario_defs.declared.scenario.Scenario.{Scenario}
use Rattle.choice_defs.specs.scenario_defs.declared.scenario.Vrf.{Vrf}
use Rattle.bgp_messages.specs.bgp_update.Written.{afi_of}
use Rattle.edge_defs.specs.Edge.{Import, Note, Selected, VrfPattern, Control}
use Rattle.edge_defs.specs.Keys.{Value}
use Rattle.edge_defs.specs.Place.{EdgePlace, OwnVrf, own_addr, own_vrfs, lsp, tunnel_number}
use Rattle.label_defs.specs.Members.{in_order}

-- ---- communities

-- the VRF's Route Targets, as communities
abbrev pub target_comms : Vrf → List ExtComm
target_comms vrf = map (λ target. target.0) vrf.targets

-- a VRF Route Import, a Source AS, and the IPv4-address Route Target made of an import (RFC 6514 sections 6, 7 and 11.1.3)
abbrev pub import_comm : Import → ExtComm
import_comm import = record { 0 = import_octets (addr_octets import.addr) import.number }

abbrev pub source_as_comm : ℕ → ExtComm
source_as_comm number = record { 0 = source_as_octets number }

abbrev pub import_target : Import → ExtComm
import_target import = record { 0 = 0x01 ∷ 0x02 ∷ (addr_octets import.addr ++ to_be_bytes w16 import.number) }

-- the VRF, as other edges name it
abbrev pub own_import : EdgePlace → Vrf → Import
own_import place vrf = record { addr = own_addr place; number = vrf.number }

-- ---- keys and values

-- the AFI of a pattern's addresses, which is 1 where both are wildcards
abbrev pub afi_by : Option Addr → Option Addr → Afi
afi_by (Some source) group = afi_of source
afi_by None (Some group) = afi_of group
afi_by None None = Ipv4

abbrev pub inclusive_key : EdgePlace → Vrf → Key
inclusive_key place vrf = Mcast Ipv4 (routes.Intra vrf.rd (own_addr place))

abbrev pub selective_key : EdgePlace → Vrf → Pattern → Key
selective_key place vrf pattern =
    Mcast (afi_by pattern.source pattern.group) (routes.Selective vrf.rd pattern.source pattern.group (own_addr place))

abbrev pub active_key : Vrf → Addr → Addr → Key
active_key vrf source group = Mcast (afi_of source) (routes.Active vrf.rd source group)

-- with the VRF's targets alone
abbrev pub plain_value : EdgePlace → Vrf → Value
plain_value place vrf = record { next_hop = own_addr place; comms = target_comms vrf; pmsi = None }

-- a unicast route also names the VRF and the autonomous system
abbrev pub unicast_value : EdgePlace → Vrf → Value
unicast_value place vrf =
    let own = import_comm (own_import place vrf) ∷ source_as_comm place.scenario.system ∷ [] in
    record (plain_value place vrf) { comms = target_comms vrf ++ own }

-- with the tunnel of that number, which this edge is the root of (RFC 6514 section 5)
abbrev pub tunnel_value : EdgePlace → Vrf → ℕ → Value
tunnel_value place vrf number =
    let tunnel : Pmsi = record { leaf_info = false; tunnel = tunnels.Mldp (lsp (own_addr place) number); label = None } in
    record (plain_value place vrf) { pmsi = Some tunnel }

-- ---- the routes

-- the Intra-AS I-PMSI A-D route of a VRF
abbrev pub inclusive_route : EdgePlace → OwnVrf → Key × Value
inclusive_route place own = (inclusive_key place own.vrf, tunnel_value place own.vrf (tunnel_number own.vrf 0))

-- a VPN-IPv4 route for each IPv4 prefix of each site that is attached at the VRF, and a VPN-IPv6 route for each IPv6 prefix (RFC 4659)
abbrev pub unicast_routes : EdgePlace → OwnVrf → List (Key × Value)
unicast_routes place own =
    map (λ route. (Unicast own.vrf.rd route.prefix, unicast_value place own.vrf)) (local_routes place.scenario own.id)

-- whether the interface is one of the VRF
abbrev pub is_iface_of : Scenario → VrfId → IfaceId → Bool
is_iface_of scenario vrf iface = elim (slice_get scenario.ifaces iface.0) [ None ↦ false | Some found ↦ is_of_vrf vrf found ]

-- the notes at the VRF's interfaces
abbrev pub notes_of : EdgePlace → Control → VrfId → List Note
notes_of place control vrf = filter (λ note. is_iface_of place.scenario vrf note.iface) (in_order control.notes)

-- a Source Active A-D route for each source and group that is noted there
abbrev pub active_routes : EdgePlace → Control → OwnVrf → List (Key × Value)
active_routes place control own =
    map (λ note. (active_key own.vrf note.source note.group, plain_value place own.vrf)) (notes_of place control own.id)

-- an S-PMSI A-D route for each selection of the VRF
abbrev pub selective_routes : EdgePlace → Control → OwnVrf → List (Key × Value)
selective_routes place control own =
    map (λ (entry : VrfPattern × Selected).
    (selective_key place own.vrf entry.0.pattern, tunnel_value place own.vrf (tunnel_number own.vrf entry.1.number)))
    (filter (λ (entry : VrfPattern × Selected). entry.0.vrf.0 == own.id.0) (maps.entries control.selections))

abbrev pub routes_of : EdgePlace → Control → OwnVrf → List (Key × Value)
routes_of place control own =
    inclusive_route place own ∷ (unicast_routes place own ++ (selective_routes place control own ++ active_routes place control own))

-- all routes that the edge originates, VRF by VRF
abbrev pub originated : EdgePlace → Control → List (Key × Value)
originated place control = flat_map (routes_of place control) (own_vrfs place)
