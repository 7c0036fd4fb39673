use Rattle.edge_defs.proofs.CoreLemmas.{one_core}
use Rattle.edge_defs.proofs.laws.links_have_one_core.Goals as goal

pub returns : goal.returns
returns c = one_core
