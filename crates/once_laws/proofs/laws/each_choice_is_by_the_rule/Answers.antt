use Rattle.once_laws.proofs.Chooses.{choose_by_rule}
use Rattle.once_laws.proofs.laws.each_choice_is_by_the_rule.Goals as goal

pub returns : goal.returns
returns c = choose_by_rule
