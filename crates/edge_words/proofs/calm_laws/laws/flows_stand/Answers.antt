use Rattle.edge_words.proofs.calm_laws.Flows.{start_stands, run_stands}
use Rattle.edge_words.proofs.calm_laws.laws.flows_stand.Goals as goal

pub returns-clause-start : goal.returns-clause-start
returns-clause-start c = start_stands

pub returns-clause-runs : goal.returns-clause-runs
returns-clause-runs c = run_stands
