-- The whole network as a network of label nodes: what is read of it.
use Rattle.std.specs.Prelude.{ℕ, ◌+◌, ◌*◌, ◌&&◌, Bool, nat_le, nat_lt, List, [], ◌∷◌, map, drop, position, Option, None, Some}
use Rattle.std.specs.Int.{w32, from_be_bytes}
use Rattle.mv_base.specs.declared.ids.NodeId.{NodeId}
use Rattle.mldp.specs.declared.mldp_fec.fec.Fec.{Fec}
use Rattle.mldp.specs.declared.mldp_msgs.message.LabelMessage.{LabelMessage}
use Rattle.mv_base.specs.route_targets.Targets.{same}
use Rattle.mv_base.specs.declared.route_targets.communities.Target.{Target}
use Rattle.scenario_defs.specs.Vpn.{targets_of, vrf_of_site}
use Rattle.scenario_defs.specs.declared.event.Kind.TheVariants as kinds
use Rattle.scenario_defs.specs.declared.scenario.Scenario.{Scenario}
use Rattle.scenario_defs.specs.declared.scenario.Vrf.{Vrf}
use Rattle.label_defs.specs.LabelData.{same_fec}
use Rattle.network_defs.specs.session_defs.Message.{SessionMessage, Bgp, Label}
use Rattle.network_defs.specs.session_defs.System.{MessageNetwork}
use Rattle.edge_defs.specs.Place.{addr_of, lsp, is_tree, upstream}
use Rattle.label_laws.specs.Network.{PacketCopy, LabelNetwork}
use Rattle.label_laws.specs.Network as labels
use Rattle.network_defs.specs.Counts.{direction}
use Rattle.network_defs.specs.Nodes.{Nodes, part_of, core_at}
use Rattle.network_defs.specs.World.{Datagram, LinkCopy, numbered}

-- ---- VPNs as numbers

-- the first VRF of the VPN with these targets, counted from 2; 0 where there is none
abbrev pub vpn_number : Scenario → List Target → ℕ → ℕ
vpn_number scenario targets none = elim (position (λ vrf. same vrf.targets targets) scenario.vrfs) [ None ↦ none | Some place ↦ place + 2 ]

-- the number in the opaque value of a FEC
abbrev pub fec_number : Fec → ℕ
fec_number fec = from_be_bytes w32 (drop 3 fec.opaque)

-- whether the FEC is one of the VRF's tunnels
abbrev pub is_own_tunnel : Scenario → Fec → Vrf → Bool
is_own_tunnel scenario fec vrf =
    same_fec fec (lsp (addr_of scenario vrf.edge) (fec_number fec))
    && (nat_le (vrf.number * 1048576) (fec_number fec) && nat_lt (fec_number fec) (vrf.number * 1048576 + 1048576))

-- the VPN of a tunnel; 0 where the FEC is none of a VPN
abbrev pub vpn_of : Scenario → Fec → ℕ
vpn_of scenario fec = elim (position (is_own_tunnel scenario fec) scenario.vrfs) [
  | None ↦ 0
  | Some place ↦ vpn_number scenario (targets_of scenario (record { 0 = place })) 0
]

-- the VPN of the site of a datagram; 1 where there is none
abbrev pub vpn_of_datagram : Scenario → Option Datagram → ℕ
vpn_of_datagram scenario None = 1
vpn_of_datagram scenario (Some datagram) = elim (vrf_of_site scenario datagram.site) [
  | None ↦ 1
  | Some vrf ↦ vpn_number scenario (targets_of scenario vrf) 1
]

-- the VPN of a datagram by its number
abbrev pub origin : Scenario → List Datagram → ℕ → ℕ
origin scenario datagrams number = vpn_of_datagram scenario (numbered datagrams number)

-- ---- what is in transit

-- the label messages of a row
abbrev pub labels_in : List SessionMessage → List LabelMessage
labels_in [] = []
labels_in (Bgp message ∷ more) = labels_in more
labels_in (Label message ∷ more) = message ∷ labels_in more

-- a copy without its TTL
abbrev pub packet_copy : LinkCopy → PacketCopy
packet_copy copy = record { label = copy.label; put_at = copy.put_at; number = copy.number }

-- ---- the network

-- the copies on the links
abbrev pub Copies : Type 0
Copies = NodeId → NodeId → List LinkCopy

abbrev pub label_way : MessageNetwork Nodes → Copies → NodeId → NodeId → labels.Direction
label_way network copies u n = record {
  joined = network.joined (direction kinds.Ldp u n);
  transit = labels_in (network.transit (direction kinds.Ldp u n));
  copies = map packet_copy (copies u n);
}

-- The label parts of the nodes, with their LDP sessions, the copies, and the VPNs of tunnels and of these datagrams.
abbrev pub label_network : MessageNetwork Nodes → Copies → List Datagram → LabelNetwork
label_network network copies datagrams = record {
  clock = network.state.clock;
  life = network.state.scenario.life;
  labels = λ n. network.state.scenario.labels;
  is_tree = is_tree network.state.scenario;
  upstream = λ n. upstream network.state.scenario (core_at network.state n) n;
  vpn_of = vpn_of network.state.scenario;
  origin = origin network.state.scenario datagrams;
  node = λ n. part_of (network.state.node n);
  direction = label_way network copies;
}
