-- What is asked of a control plane.
use Rattle.std.specs.Prelude.{◌≡◌, ◌<◌, List, [], All, length, slice_get, None, Some}
use Rattle.mv_base.specs.declared.ids.NodeId.{NodeId}
use Rattle.mv_base.specs.declared.ids.VrfId.{VrfId}
use Rattle.label_defs.specs.Node.{waiting_for}
use Rattle.scenario_defs.specs.declared.event.Kind.{Kind}
use Rattle.scenario_defs.specs.declared.event.Kind.TheVariants as kinds
use Rattle.scenario_defs.specs.declared.scenario.Vrf.{Vrf}
use Rattle.network_defs.specs.session_defs.Octets.{OctetNetwork}
use Rattle.network_defs.specs.session_defs.PeerSession.{stream_at}
use Rattle.mvpn_model.specs.declared.session.Session.{Session}
use Rattle.mldp_node.specs.NodeData.{IsWaitingTowardRoots, NodeData}
use Rattle.network_defs.specs.Counts.{direction}
use Rattle.network_defs.specs.Nodes.{CoreNode, Edge, Nodes, core_at}
use Rattle.network_defs.specs.World.{World}
use Rattle.network_nodes.specs.Network.{IsNodeOf}
use Rattle.network_nodes.specs.NodeView.{IsPlacedAt, data_in, spent_in}
use Rattle.network_nodes.specs.wire_laws.Edges.{IsWay, session_with}
use Rattle.network_nodes.specs.declared.node.NetworkNode.{NetworkNode}
use Rattle.network_acts.specs.control_plane.Acted.{IsCurrent, Standing}
-- where nodes stand, and where datagrams go
pub use Rattle.network_nodes.specs.wire_laws.edge_routes.edge_home.Home.{home_of}
pub use Rattle.network_nodes.specs.node_laws.Places.{node_place}
pub use Rattle.network_nodes.specs.Edges.{EdgeView, Fate, IsFate, data_of, home_in, octets_waiting}
pub use Rattle.network_nodes.specs.Network.{landing_fate}

-- ---- nodes

-- The node is that of the number in the scenario, goes on, and keeps what the network says of it. Each tree that waits there for a label
-- does so towards its root, by the costs that the node has acted on.
pub record IsNodeThere (at : Standing) (n : NodeId) (node : NetworkNode) : Type 0 where
  pub placed : IsPlacedAt at.network.state.scenario n node
  pub unspent : spent_in node ≡ None
  pub keeps : at.network.state.node n ≡ data_in node
  pub is : IsNodeOf at.network n [] node

-- The edge is that of the number in the scenario, goes on, and keeps what the network says of the node. No octets wait in it for a session,
-- and its streams are those of the directions that lead to the node. Each tree that waits there for a label does so towards its root, by
-- the costs that the edge has acted on.
pub record IsEdgeThere (at : Standing) (n : NodeId) (edge : EdgeView) : Type 0 where
  pub home : home_in edge ≡ home_of at.scenario n
  pub unspent : edge.spent ≡ None
  pub keeps : at.network.state.node n ≡ Edge (data_of edge)
  pub waits : (kind : Kind) (peer : NodeId) → IsWay at.scenario (direction kind n peer) → octets_waiting edge kind peer ≡ []
  pub streams : (kind : Kind) (peer : NodeId) →
      stream_at edge.streams (session_with kind peer) ≡ at.network.stream (direction kind peer n)
  pub toward : IsWaitingTowardRoots (core_at at.network.state n) edge.labels

-- The label part is that of the core node of the number in the scenario, goes on, and is what the network says of the node. No octets wait
-- in it for a neighbour. Each tree that waits there for a label does so towards its root, by the costs that the node has acted on.
pub record IsCoreThere (at : Standing) (n : NodeId) (labels : NodeData) : Type 0 where
  pub place : labels.place ≡ node_place at.scenario n
  pub unspent : labels.node.spent ≡ None
  pub keeps : at.network.state.node n ≡ CoreNode labels.node.part
  pub waits : (peer : NodeId) → IsWay at.scenario (direction kinds.Ldp n peer) → waiting_for labels.node.waiting peer ≡ []
  pub toward : IsWaitingTowardRoots (core_at at.network.state n) labels

-- The node is the edge of the VRF of that number, and has acted on the present costs.
pub record IsEdgeOf (number : VrfId) (n : NodeId) (at : Standing) : Type 0 where
  pub current : IsCurrent n at
  pub vrf : Vrf
  pub stands : slice_get at.scenario.vrfs number.0 ≡ Some vrf
  pub edge : vrf.edge ≡ n

-- ---- sessions

-- both ends of the session are nodes of the scenario
pub record HasEnds (session : Session) (at : Standing) : Type 0 where
  pub first : session.a.0 < length at.scenario.nodes
  pub second : session.b.0 < length at.scenario.nodes

abbrev pub HaveEnds : List Session → Standing → Type 0
HaveEnds sessions at = All (λ session. HasEnds session at) sessions

-- the world of that network, without copies and datagrams
abbrev pub without_copies : OctetNetwork Nodes → World
without_copies network = record { network = network; copies = λ u n. []; datagrams = [] }
