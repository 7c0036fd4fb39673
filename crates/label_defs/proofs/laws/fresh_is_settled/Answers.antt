use Rattle.label_defs.proofs.StepLemmas.{fresh_settled}
use Rattle.label_defs.proofs.laws.fresh_is_settled.Goals as goal

pub returns : goal.returns
returns c = fresh_settled
