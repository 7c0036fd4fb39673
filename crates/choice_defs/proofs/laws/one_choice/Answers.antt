use Rattle.choice_defs.proofs.ChoiceLemmas.{one_choice, all_chosen, any_order}
use Rattle.choice_defs.proofs.laws.one_choice.Goals as goal

pub returns-clause-one : goal.returns-clause-one
returns-clause-one c = one_choice

pub returns-clause-all : goal.returns-clause-all
returns-clause-all c = all_chosen

pub returns-clause-order : goal.returns-clause-order
returns-clause-order c = any_order
