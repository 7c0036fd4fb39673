use Rattle.once_laws.proofs.Once.{deliver_once}
use Rattle.once_laws.proofs.laws.runs_deliver_once.Goals as goal

pub returns : goal.returns
returns c = deliver_once
