use Rattle.label_defs.proofs.StepLemmas.{step_settled}
use Rattle.label_defs.proofs.laws.steps_keep_settled.Goals as goal

pub returns : goal.returns
returns c = step_settled
