use Rattle.growth_laws.proofs.Starts.{growing_holds_few}
use Rattle.growth_laws.proofs.laws.growing_nodes_hold_few_labels.Goals as goal

pub returns : goal.returns
returns c = growing_holds_few
