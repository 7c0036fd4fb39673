-- A node in the whole network, and what becomes there of a copy that lands.
use Rattle.std.specs.Prelude.{ℕ, List, [], None, Some}
use Rattle.mv_base.specs.declared.addr.Addr.{Addr}
use Rattle.mv_base.specs.declared.ids.NodeId.{NodeId}
use Rattle.label_defs.specs.LabelData.{LabelData, branches_of, use_of}
use Rattle.network_defs.specs.session_defs.Octets.{OctetNetwork}
use Rattle.network_defs.specs.session_defs.System.{Put}
use Rattle.edge_defs.specs.Datagrams.{Fate, arriving_fate, discarded, tree_of}
use Rattle.mldp_node.specs.NodeData.{IsWaitingTowardRoots}
use Rattle.network_defs.specs.Nodes.{NodeState, Nodes, Edge, CoreNode, core_at, place_of}
use Rattle.wire_laws.specs.AnyNodes.{AnyNode, IsNodeAt}
use Rattle.network_nodes.specs.NodeView.{IsNode, labels_in}
use Rattle.network_nodes.specs.declared.node.NetworkNode.{NetworkNode}

-- The node is that of the network, and this is what it has put and not handed out. Each tree that waits there for a label does so towards
-- its root, by the costs that the node has acted on.
pub record IsNodeOf (network : OctetNetwork Nodes) (n : NodeId) (puts : List Put) (node : NetworkNode) : Type 0 where
  pub state : AnyNode
  pub is : IsNode state node
  pub at : IsNodeAt n network puts state
  pub toward : IsWaitingTowardRoots (core_at network.state n) (labels_in node)

-- what a core node does with a copy that comes from a neighbour under a label
abbrev pub core_fate : LabelData → NodeId → ℕ → Fate
core_fate part from label =
    elim (tree_of from (use_of part label)) [ None ↦ discarded | Some fec ↦ record { outs = []; branches = branches_of part fec } ]

-- the same of the node of that number
abbrev pub landing_fate : Nodes → NodeId → NodeState → NodeId → ℕ → Addr → Addr → Fate
landing_fate network n (Edge edge) from label source group = arriving_fate (place_of network n) network.clock edge from label source group
landing_fate network n (CoreNode part) from label source group = core_fate part from label
