use Rattle.once_laws.proofs.SafeRuns.{safe}
use Rattle.once_laws.proofs.laws.each_run_is_safe.Goals as goal

pub returns : goal.returns
returns c = safe
