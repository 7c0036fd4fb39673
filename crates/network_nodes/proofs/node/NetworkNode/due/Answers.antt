use Rattle.std.proofs.Common.{◌≡◌, min, sym, subst, None}
use Rattle.mv_base.specs.declared.ids.NodeId.{NodeId}
use Rattle.network_defs.specs.Counts.{node_due}
use Rattle.network_defs.specs.Nodes.{Nodes}
use Rattle.network_nodes.specs.NodeView.{IsPlacedAt, data_in, spent_in}
use Rattle.network_nodes.specs.declared.node.NetworkNode.{NetworkNode}
use Rattle.network_nodes.proofs.NodeLemmas.{core_due, edge_due, few, most}
use Rattle.network_nodes.proofs.node.NetworkNode.due.Goals as goal

pub returns-in-Edge : goal.returns-in-Edge
returns-in-Edge c =
    subst (λ (node : NetworkNode). spent_in node ≡ None → (network : Nodes) (n : NodeId) → IsPlacedAt network.scenario n node
    → network.node n ≡ data_in node → network.clock ≡ c.args.now
    → c.due.result ≡ min (node_due network n) most) (sym c.in-Edge.is)
    (λ none network n placed is clock. edge_due c.in-Edge.edge c.args.now c.due.result network n (c.due.ensures none) placed is clock)

pub returns-in-CoreNode : goal.returns-in-CoreNode
returns-in-CoreNode c =
    subst (λ (node : NetworkNode). spent_in node ≡ None → (network : Nodes) (n : NodeId) → IsPlacedAt network.scenario n node
    → network.node n ≡ data_in node → network.clock ≡ c.args.now
    → c.due-in-CoreNode.result ≡ min (node_due network n) most) (sym c.in-CoreNode.is)
    (λ none network n placed is clock. core_due c.in-CoreNode.core_node c.args.now c.due-in-CoreNode.result network n (c.due-in-CoreNode.ensures none)
    (few c.due-in-CoreNode.result c.due-in-CoreNode.type_inv) placed is clock)
