use Rattle.selective_defs.proofs.NumberLemmas.{least_number}
use Rattle.selective_defs.proofs.laws.next_number_is.Goals as goal

pub returns : goal.returns
returns c = least_number
