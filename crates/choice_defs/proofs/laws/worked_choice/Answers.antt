use Rattle.choice_defs.proofs.Example.{worked}
use Rattle.choice_defs.proofs.laws.worked_choice.Goals as goal

pub returns : goal.returns
returns c = worked
