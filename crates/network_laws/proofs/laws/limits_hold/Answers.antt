use Rattle.network_laws.proofs.Limits.{runs_within, start_within}
use Rattle.network_laws.proofs.laws.limits_hold.Goals as goal

pub returns : goal.returns
returns c cores script events trace new run = runs_within events _ 0 trace new (start_within script.scenario cores) run
