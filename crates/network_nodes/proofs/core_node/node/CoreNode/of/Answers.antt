use Rattle.std.proofs.Common.{ap}
use Rattle.mldp_node.specs.NodeData.{NodeData}
use Rattle.network_nodes.proofs.core_node.CallLemmas.{first_live}
use Rattle.network_nodes.proofs.core_node.node.CoreNode.of.Goals as goal

pub invariant_of-result : goal.invariant_of-result
invariant_of-result c = λ goes.
    first_live c.in_ok-node.node c.of-streams.result c.args.labels (ap (λ (node : NodeData). node.node) c.in_ok-node.ensures) c.of-streams.ensures
