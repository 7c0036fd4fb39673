-- A node of a scenario as its callers see it, and which node of the definitions it is.
use Rattle.std.specs.Prelude.{◌≡◌, ℕ, true, false, length, List, [], Option, if◌then◌else◌}
use Rattle.mv_base.specs.declared.ids.IfaceId.{IfaceId}
use Rattle.mv_base.specs.declared.ids.NodeId.{NodeId}
use Rattle.mv_base.specs.declared.ids.VrfId.{VrfId}
use Rattle.label_defs.specs.Node.{Spent, waiting_for}
use Rattle.scenario_defs.specs.declared.event.Kind.{Kind}
use Rattle.scenario_defs.specs.declared.event.Kind.TheVariants as kinds
use Rattle.scenario_defs.specs.declared.scenario.Scenario.{Scenario}
use Rattle.network_defs.specs.session_defs.Message.{SessionFault}
use Rattle.network_defs.specs.session_defs.PeerSession.{fault_at}
use Rattle.edge_core.specs.edge_routes.edge_home.Home.{home_of}
use Rattle.edge_core.specs.edge_control.Places.{is_own_iface, is_own_vrf}
use Rattle.edge_defs.specs.Steps.{Call}
use Rattle.network_defs.specs.node_defs.EdgeState.{fresh_state, handed_out, waiting_at}
use Rattle.edge_core.specs.node_laws.Places.{node_place}
use Rattle.network_defs.specs.Nodes as world
use Rattle.network_defs.specs.Nodes.{NodeState, is_edge}
use Rattle.wire_laws.specs.AnyNodes as any
use Rattle.wire_laws.specs.AnyNodes.{AnyNode}
use Rattle.wire_laws.specs.CoreNodes.{core_handed_out, fresh_core, ldp_with}
use Rattle.wire_laws.specs.Edges.{session_with}
use Rattle.edge_core.specs.Calls.{Fits}
use Rattle.edge_core.specs.State as edges
use Rattle.edge_core.specs.State.{IsIn, data_of}
use Rattle.mldp_node.specs.NodeData.{NodeData}
use Rattle.network_nodes.specs.core_node.View.{state_of}
use Rattle.network_nodes.specs.declared.node.NetworkNode.{NetworkNode}
use Rattle.network_nodes.specs.declared.node.NetworkNode.TheVariants as nodes

-- why the node is spent, if it is
abbrev pub spent_in : NetworkNode → Option Spent
spent_in (nodes.Edge edge) = edge.spent
spent_in (nodes.CoreNode core) = core.labels.node.spent

-- the node is that of the number in the scenario, an edge exactly where the scenario has one
abbrev pub IsPlacedAt : Scenario → NodeId → NetworkNode → Type 0
IsPlacedAt scenario n (nodes.Edge edge) = (edges.home_of edge ≡ home_of scenario n) × (is_edge scenario n ≡ true)
IsPlacedAt scenario n (nodes.CoreNode core) = (core.labels.place ≡ node_place scenario n) × (is_edge scenario n ≡ false)

-- how many nodes its scenario has
abbrev pub count_around : NetworkNode → ℕ
count_around (nodes.Edge edge) = length (edges.home_of edge).scenario.nodes
count_around (nodes.CoreNode core) = length core.labels.place.addrs

-- the node is this one of the definitions, as its callers have it
abbrev pub IsNode : AnyNode → NetworkNode → Type 0
IsNode (any.Edge state) (nodes.Edge edge) = IsIn state edge
IsNode (any.CoreNode state) (nodes.CoreNode core) = state_of core ≡ state
IsNode state node = ⊥

-- what it keeps, in the words of the whole network
abbrev pub data_in : NetworkNode → NodeState
data_in (nodes.Edge edge) = world.Edge (data_of edge)
data_in (nodes.CoreNode core) = world.CoreNode core.labels.node.part

-- its label part
abbrev pub labels_in : NetworkNode → NodeData
labels_in (nodes.Edge edge) = edge.labels
labels_in (nodes.CoreNode core) = core.labels

-- the node of that number before anything has happened
abbrev pub first_node : Scenario → NodeId → AnyNode
first_node scenario n = if is_edge scenario n then any.Edge (fresh_state scenario.labels) else any.CoreNode (fresh_core scenario.labels)

-- ---- sessions

-- The node may be at the other end of a session of that protocol: over BGP both are edges (RFC 4364 section 4.3.2).
abbrev pub MayBePeer : NetworkNode → Kind → NodeId → Type 0
MayBePeer (nodes.Edge edge) kind peer = edges.IsPeer edge kind peer
MayBePeer (nodes.CoreNode core) kind peer = kind ≡ kinds.Ldp

-- the octets that wait for the session
abbrev pub waiting_in : AnyNode → Kind → NodeId → List ℕ
waiting_in (any.Edge state) kind peer = waiting_at state.waiting (session_with kind peer)
waiting_in (any.CoreNode state) kinds.Bgp peer = []
waiting_in (any.CoreNode state) kinds.Ldp peer = waiting_for state.node.waiting peer

-- nothing of it is left
abbrev pub handed_by : AnyNode → Kind → NodeId → AnyNode
handed_by (any.Edge state) kind peer = any.Edge (handed_out (session_with kind peer) state)
handed_by (any.CoreNode state) kinds.Bgp peer = any.CoreNode state
handed_by (any.CoreNode state) kinds.Ldp peer = any.CoreNode (core_handed_out peer state)

-- the first fault of the session's stream, if there was one
abbrev pub stream_fault : NetworkNode → Kind → NodeId → Option (ℕ × SessionFault)
stream_fault (nodes.Edge edge) kind from = fault_at edge.streams (session_with kind from)
stream_fault (nodes.CoreNode core) kind from = fault_at core.streams (ldp_with from)

-- ---- customers

-- the node is the edge of the interface, and the edge of the VRF
abbrev pub HasIface : NetworkNode → IfaceId → Type 0
HasIface (nodes.Edge edge) iface = is_own_iface (edges.home_of edge) iface ≡ true
HasIface (nodes.CoreNode core) iface = ⊥

abbrev pub HasVrf : NetworkNode → VrfId → Type 0
HasVrf (nodes.Edge edge) vrf = is_own_vrf (edges.home_of edge) vrf ≡ true
HasVrf (nodes.CoreNode core) vrf = ⊥

-- the node is an edge that the call fits
abbrev pub FitsIn : NetworkNode → Call → Type 0
FitsIn (nodes.Edge edge) call = Fits edge call
FitsIn (nodes.CoreNode core) call = ⊥
