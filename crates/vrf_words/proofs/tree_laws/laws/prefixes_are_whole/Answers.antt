use Rattle.vrf_words.proofs.tree_laws.Whole.{prefixes_whole}
use Rattle.vrf_words.proofs.tree_laws.laws.prefixes_are_whole.Goals as goal

pub returns : goal.returns
returns c = prefixes_whole
