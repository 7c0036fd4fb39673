use Rattle.selective.proofs.LeafLemmas.{in_order}
use Rattle.selective.proofs.laws.routes_in_order.Goals as goal

pub returns : goal.returns
returns c = in_order
