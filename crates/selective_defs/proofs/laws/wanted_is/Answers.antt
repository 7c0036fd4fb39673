use Rattle.selective_defs.proofs.WantedLemmas.{wanted_when}
use Rattle.selective_defs.proofs.laws.wanted_is.Goals as goal

pub returns : goal.returns
returns c = wanted_when
