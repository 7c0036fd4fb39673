-- What a node keeps is what the network has of it.
use Rattle.std.proofs.Common.{◌≡◌, ◌∙◌, sym, ap, List}
use Rattle.mv_base.specs.declared.ids.NodeId.{NodeId}
use Rattle.scenario_defs.specs.declared.event.Kind.{Kind}
use Rattle.scenario_defs.specs.declared.event.Kind.TheVariants as kinds
use Rattle.network_defs.specs.session_defs.Octets.{OctetNetwork, Stream}
use Rattle.network_defs.specs.session_defs.PeerSession.{fault_at}
use Rattle.network_defs.specs.session_defs.System.{Put}
use Rattle.control_laws.proofs.Parts.{no_core}
use Rattle.network_defs.specs.Counts.{direction}
use Rattle.network_defs.specs.Nodes as world
use Rattle.network_defs.specs.Nodes.{NodeState, Nodes}
use Rattle.network_nodes.specs.wire_laws.AnyNodes as any
use Rattle.network_nodes.specs.wire_laws.AnyNodes.{AnyNode, HasSessions, IsNodeAt, node_fault}
use Rattle.network_nodes.specs.wire_laws.CoreNodes.{CoreState, ldp_with}
use Rattle.network_nodes.specs.wire_laws.Edges.{session_with}
use Rattle.network_nodes.specs.Network.{IsNodeOf}
use Rattle.network_nodes.specs.NodeView.{IsNode, MayBePeer, data_in, stream_fault}
use Rattle.network_nodes.specs.declared.node.NetworkNode.{NetworkNode}
use Rattle.network_nodes.specs.declared.node.NetworkNode.TheVariants as nodes

data_at : (network : OctetNetwork Nodes) (n : NodeId) (puts : List Put) (state : AnyNode) (node : NetworkNode) → IsNode state node
    → IsNodeAt n network puts state → network.state.node n ≡ data_in node
data_at network n puts (any.Edge state) (nodes.Edge edge) is at =
    let parts = is.parts no_core in
    at.node ∙ (λ i. world.Edge (record { control = parts.keeps i; part = sym parts.label.part i; raised = is.raised i }))
data_at network n puts (any.CoreNode state) (nodes.CoreNode core) is at = at.node ∙ ap (λ (s : CoreState). world.CoreNode s.node.part) (sym is)
data_at network n puts (any.Edge state) (nodes.CoreNode core) is at = absurd is
data_at network n puts (any.CoreNode state) (nodes.Edge edge) is at = absurd is

pub data_same : (n : NodeId) (network : OctetNetwork Nodes) (puts : List Put) (node : NetworkNode) → IsNodeOf network n puts node
    → network.state.node n ≡ data_in node
data_same n network puts node of_it = data_at network n puts of_it.state node of_it.is of_it.at

-- ---- streams

-- a session that the node may have is one that its definition has
pub has_sessions : (state : AnyNode) (node : NetworkNode) (kind : Kind) (peer : NodeId) → IsNode state node → MayBePeer node kind peer
    → HasSessions kind state
has_sessions (any.Edge state) (nodes.Edge edge) kind peer is may = tt
has_sessions (any.CoreNode state) (nodes.CoreNode core) kind peer is may = may
has_sessions (any.Edge state) (nodes.CoreNode core) kind peer is may = absurd is
has_sessions (any.CoreNode state) (nodes.Edge edge) kind peer is may = absurd is

-- the fault of a session's stream is that of the direction to the node
pub fault_in : (network : OctetNetwork Nodes) (n : NodeId) (puts : List Put) (state : AnyNode) (kind : Kind) (from : NodeId) → HasSessions kind state
    → IsNodeAt n network puts state
    → node_fault state kind from ≡ (network.stream (direction kind from n)).fault
fault_in network n puts (any.Edge state) kind from has at = ap (λ (s : Stream). s.fault) (at.streams kind from)
fault_in network n puts (any.CoreNode state) kinds.Ldp from has at = ap (λ (s : Stream). s.fault) (at.streams from)
fault_in network n puts (any.CoreNode state) kinds.Bgp from has at = absurd cc

pub fault_of_node : (state : AnyNode) (node : NetworkNode) (kind : Kind) (from : NodeId) → HasSessions kind state → IsNode state node
    → stream_fault node kind from ≡ node_fault state kind from
fault_of_node (any.Edge state) (nodes.Edge edge) kind from has is = ap (λ streams. fault_at streams (session_with kind from)) (sym is.streams)
fault_of_node (any.CoreNode state) (nodes.CoreNode core) kinds.Ldp from has is = ap (λ (s : CoreState). fault_at s.streams (ldp_with from)) is
fault_of_node (any.CoreNode state) (nodes.CoreNode core) kinds.Bgp from has is = absurd cc
fault_of_node (any.Edge state) (nodes.CoreNode core) kind from has is = absurd is
fault_of_node (any.CoreNode state) (nodes.Edge edge) kind from has is = absurd is
