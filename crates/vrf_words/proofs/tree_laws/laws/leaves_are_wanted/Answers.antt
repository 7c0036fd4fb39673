use Rattle.vrf_words.proofs.tree_laws.Wanting.{leaves_are}
use Rattle.vrf_words.proofs.tree_laws.laws.leaves_are_wanted.Goals as goal

pub returns : goal.returns
returns c = leaves_are
