-- What a calm network has to meet, as tests on its edges and trees of labels.
use Rattle.std.specs.Prelude.{◌≡◌, ◌==◌, ◌&&◌, Bool, false, Option, None, Some, slice_get, count_by, if◌then◌else◌}
use Rattle.mv_base.specs.declared.ids.IfaceId.{IfaceId}
use Rattle.mv_base.specs.declared.ids.NodeId.{NodeId}
use Rattle.mv_base.specs.declared.ids.VrfId.{VrfId}
use Rattle.mldp.specs.declared.mldp_fec.fec.Fec.{Fec}
use Rattle.scenario_defs.specs.Vpn.{edge_of, entered}
use Rattle.scenario_defs.specs.declared.scenario.Vrf.{Vrf}
use Rattle.network_defs.specs.session_defs.Octets.{OctetNetwork}
use Rattle.edge_defs.specs.Datagrams.{is_from_site}
use Rattle.edge_defs.specs.Place.{OwnVrf}
use Rattle.edge_defs.specs.Tunnels.{transmit_tunnel, is_joined_in}
use Rattle.edge_defs.specs.Upstream.{upstream_for}
use Rattle.network_defs.specs.Nodes.{NodeState, Edge, CoreNode, Nodes, place_of}
use Rattle.network_defs.specs.World.{Datagram}
use Rattle.delivery_laws.specs.Calm.{CalmTree}
use Rattle.delivery_laws.specs.Leaving.{leaves_arriving, leaves_entering}

-- whether the datagram leaves at the interface as it enters at the VRF
abbrev pub serves_near : OctetNetwork Nodes → Datagram → IfaceId → OwnVrf → NodeState → Bool
serves_near network datagram iface own (Edge edge) =
    leaves_entering (place_of network.state own.vrf.edge) network.state.clock edge own datagram.site datagram.source datagram.group iface
serves_near network datagram iface own (CoreNode part) = false

-- the tunnel on which the datagram goes as it enters at the VRF, if it does
abbrev pub sends_on : OctetNetwork Nodes → Datagram → OwnVrf → NodeState → Option Fec
sends_on network datagram own (Edge edge) =
    if is_from_site datagram.site (upstream_for (place_of network.state own.vrf.edge) edge.control own datagram.source datagram.group)
    && is_joined_in (place_of network.state own.vrf.edge) edge.control own datagram.source datagram.group
    then Some (transmit_tunnel (place_of network.state own.vrf.edge) edge.control own datagram.source datagram.group)
    else None
sends_on network datagram own (CoreNode part) = None

-- whether a copy of the datagram on the tunnel leaves at the interface
abbrev pub serves_far : OctetNetwork Nodes → Datagram → IfaceId → Fec → NodeId → NodeState → Bool
serves_far network datagram iface fec n (Edge edge) =
    leaves_arriving (place_of network.state n) network.state.clock edge fec datagram.source datagram.group iface
serves_far network datagram iface fec n (CoreNode part) = false

-- whether the VRF serves an interface of that node
abbrev pub serves_at : OctetNetwork Nodes → Datagram → IfaceId → OwnVrf → NodeId → Bool
serves_at network datagram iface own n =
    if n.0 == own.vrf.edge.0 then serves_near network datagram iface own (network.state.node own.vrf.edge)
    else elim (sends_on network datagram own (network.state.node own.vrf.edge)) [
      | None ↦ false
      | Some fec ↦ serves_far network datagram iface fec n (network.state.node n)
    ]

abbrev pub serves_by : OctetNetwork Nodes → Datagram → IfaceId → OwnVrf → Option NodeId → Bool
serves_by network datagram iface own None = false
serves_by network datagram iface own (Some n) = serves_at network datagram iface own n

abbrev pub serves_from : OctetNetwork Nodes → Datagram → IfaceId → VrfId → Option Vrf → Bool
serves_from network datagram iface id None = false
serves_from network datagram iface id (Some vrf) =
    serves_by network datagram iface (record { id = id; vrf = vrf }) (edge_of network.state.scenario iface)

-- whether the datagram, entering at the VRF, is to reach the interface
abbrev pub is_served : OctetNetwork Nodes → Datagram → IfaceId → VrfId → Bool
is_served network datagram iface id = serves_from network datagram iface id (slice_get network.state.scenario.vrfs id.0)

-- Each interface that receives the datagram is served by one of the VRFs at which it enters, and each other one by none; and a tunnel
-- on which it goes is a tree.
pub record CalmChoice (network : OctetNetwork Nodes) (receives : IfaceId → Bool) (datagram : Datagram) : Type 0 where
  pub once : (iface : IfaceId)
      → count_by (λ vrf. is_served network datagram iface vrf) (entered network.state.scenario datagram.site)
      ≡ (if receives iface then 1 else 0)
  pub trees : (id : VrfId) (vrf : Vrf) (fec : Fec) → slice_get network.state.scenario.vrfs id.0 ≡ Some vrf
      → sends_on network datagram (record { id = id; vrf = vrf }) (network.state.node vrf.edge) ≡ Some fec → CalmTree network fec vrf.edge
