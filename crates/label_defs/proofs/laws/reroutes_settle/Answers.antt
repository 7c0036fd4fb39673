use Rattle.label_defs.proofs.RerouteLemmas.{rerouted_settled}
use Rattle.label_defs.proofs.laws.reroutes_settle.Goals as goal

pub returns : goal.returns
returns c = rerouted_settled
