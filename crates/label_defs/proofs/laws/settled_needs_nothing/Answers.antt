use Rattle.label_defs.proofs.StepLemmas.{needs_nothing}
use Rattle.label_defs.proofs.laws.settled_needs_nothing.Goals as goal

pub returns : goal.returns
returns c = needs_nothing
