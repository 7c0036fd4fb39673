use Rattle.license_laws.proofs.Halting.{halt_is_local}
use Rattle.license_laws.proofs.laws.halting_runs_are_local.Goals as goal

pub returns : goal.returns
returns c = halt_is_local
