use Rattle.node_laws.proofs.EdgeLemmas.{node_after, both_lack}
use Rattle.node_laws.proofs.laws.edges_have_label_nodes.Goals as goal

pub returns : goal.returns
returns c = record { made = node_after; lacks = both_lack }
