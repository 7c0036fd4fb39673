use Rattle.label_laws.proofs.CalmTrees.{reached}
use Rattle.label_laws.proofs.laws.calm_trees.Goals as goal

pub returns : goal.returns
returns c = reached
