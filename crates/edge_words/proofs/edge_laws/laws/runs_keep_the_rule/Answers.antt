use Rattle.edge_words.proofs.edge_laws.Runs.{run_rule}
use Rattle.edge_words.proofs.edge_laws.laws.runs_keep_the_rule.Goals as goal

pub returns : goal.returns
returns c = run_rule
