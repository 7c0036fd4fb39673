use Rattle.network_laws.proofs.Nodes.{honest_nodes}
use Rattle.network_laws.proofs.laws.nodes_are_honest.Goals as goal

pub returns : goal.returns
returns c = honest_nodes
