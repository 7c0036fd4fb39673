use Rattle.vrf_words.proofs.tree_laws.Start.{started}
use Rattle.vrf_words.proofs.tree_laws.laws.trees_start.Goals as goal

pub returns : goal.returns
returns c = started
