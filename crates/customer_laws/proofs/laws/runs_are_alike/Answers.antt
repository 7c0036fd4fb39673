use Rattle.customer_laws.proofs.Room.{runs_are_alike}
use Rattle.customer_laws.proofs.laws.runs_are_alike.Goals as goal

pub returns : goal.returns
returns c = runs_are_alike
