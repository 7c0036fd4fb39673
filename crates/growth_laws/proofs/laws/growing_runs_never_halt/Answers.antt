use Rattle.growth_laws.proofs.Starts.{growing_never_halt, growing_run}
use Rattle.growth_laws.proofs.laws.growing_runs_never_halt.Goals as goal

pub returns-clause-no_halt : goal.returns-clause-no_halt
returns-clause-no_halt c = growing_never_halt

pub returns-clause-run : goal.returns-clause-run
returns-clause-run c = growing_run
