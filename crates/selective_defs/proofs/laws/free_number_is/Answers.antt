use Rattle.selective_defs.proofs.NumberLemmas.{least_unused, few_used}
use Rattle.selective_defs.proofs.laws.free_number_is.Goals as goal

pub returns-clause-least : goal.returns-clause-least
returns-clause-least c = least_unused

pub returns-clause-few : goal.returns-clause-few
returns-clause-few c = few_used
