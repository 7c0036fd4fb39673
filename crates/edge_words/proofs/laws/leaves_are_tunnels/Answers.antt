use Rattle.edge_words.proofs.Leaves.{leaf_is, learned_is}
use Rattle.edge_words.proofs.laws.leaves_are_tunnels.Goals as goal

pub returns-clause-leaves : goal.returns-clause-leaves
returns-clause-leaves c = leaf_is

pub returns-clause-learned : goal.returns-clause-learned
returns-clause-learned c = learned_is
