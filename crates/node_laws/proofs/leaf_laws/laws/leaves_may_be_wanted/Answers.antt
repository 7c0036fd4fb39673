use Rattle.node_laws.proofs.leaf_laws.Wanted.{leaf_wanted}
use Rattle.node_laws.proofs.leaf_laws.laws.leaves_may_be_wanted.Goals as goal

pub returns : goal.returns
returns c = λ place control fec rules peers is. leaf_wanted place control rules peers fec is
