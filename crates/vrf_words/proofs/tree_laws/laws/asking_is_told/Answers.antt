use Rattle.vrf_words.proofs.tree_laws.Asking.{all_asking}
use Rattle.vrf_words.proofs.tree_laws.laws.asking_is_told.Goals as goal

pub returns : goal.returns
returns c place now control own tree flow is = all_asking place control own tree is flow now
