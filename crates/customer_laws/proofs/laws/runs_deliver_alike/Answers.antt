use Rattle.customer_laws.proofs.Runs.{runs_deliver_alike}
use Rattle.customer_laws.proofs.laws.runs_deliver_alike.Goals as goal

pub returns : goal.returns
returns c = runs_deliver_alike
