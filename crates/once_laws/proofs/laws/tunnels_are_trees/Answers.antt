use Rattle.once_laws.proofs.Behind.{trees_calm}
use Rattle.once_laws.proofs.laws.tunnels_are_trees.Goals as goal

pub returns : goal.returns
returns c = trees_calm
