use Rattle.edge_words.proofs.calm_laws.Leaves.{calm_flow}
use Rattle.edge_words.proofs.calm_laws.laws.egress_is_a_leaf_of_what_root_transmits.Goals as goal

pub returns : goal.returns
returns c = calm_flow
