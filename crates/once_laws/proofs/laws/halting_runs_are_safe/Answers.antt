use Rattle.once_laws.proofs.Halting.{halt_is_safe}
use Rattle.once_laws.proofs.laws.halting_runs_are_safe.Goals as goal

pub returns : goal.returns
returns c = halt_is_safe
