use Rattle.once_laws.proofs.Halting.{halt_delivers_once}
use Rattle.once_laws.proofs.laws.halting_runs_deliver_once.Goals as goal

pub returns : goal.returns
returns c = halt_delivers_once
