use Rattle.edge_defs.proofs.LeafSteps.{fresh_leaves, leaves_follow}
use Rattle.edge_defs.proofs.laws.leaves_are_those_wanted.Goals as goal

pub returns-clause-fresh : goal.returns-clause-fresh
returns-clause-fresh c = fresh_leaves

pub returns-clause-step : goal.returns-clause-step
returns-clause-step c = leaves_follow
