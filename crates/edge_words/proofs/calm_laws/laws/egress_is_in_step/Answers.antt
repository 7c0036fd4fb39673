use Rattle.edge_words.proofs.calm_laws.InStep.{in_step}
use Rattle.edge_words.proofs.calm_laws.laws.egress_is_in_step.Goals as goal

pub returns : goal.returns
returns c = in_step
