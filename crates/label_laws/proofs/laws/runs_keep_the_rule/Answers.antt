use Rattle.label_laws.proofs.Runs.{run_kept}
use Rattle.label_laws.proofs.laws.runs_keep_the_rule.Goals as goal

pub returns : goal.returns
returns c = run_kept
