use Rattle.choice_defs.proofs.ChoiceLemmas.{chosen_when, none_when}
use Rattle.choice_defs.proofs.laws.choice_is.Goals as goal

pub returns-clause-chosen : goal.returns-clause-chosen
returns-clause-chosen c = chosen_when

pub returns-clause-none : goal.returns-clause-none
returns-clause-none c = none_when
