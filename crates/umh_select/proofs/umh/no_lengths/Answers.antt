use Rattle.umh_select.proofs.ChosenLemmas.{none_marked}
use Rattle.umh_select.proofs.umh.no_lengths.Goals as goal

pub returns : goal.returns
returns c = λ bits. none_marked 256 bits
