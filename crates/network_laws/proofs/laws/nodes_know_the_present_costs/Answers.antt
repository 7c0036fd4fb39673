use Rattle.network_laws.proofs.KnownCosts.{run_known}
use Rattle.network_laws.proofs.laws.nodes_know_the_present_costs.Goals as goal

pub returns : goal.returns
returns c = λ cores script events trace new run. run_known script cores events trace new run
