use Rattle.growth_laws.proofs.Calls.{fresh_grows, grows_on, grows_with}
use Rattle.growth_laws.proofs.Counts.{few_held}
use Rattle.growth_laws.proofs.laws.growing_nodes_never_lack_a_label.Goals as goal

pub returns-clause-fresh : goal.returns-clause-fresh
returns-clause-fresh c = fresh_grows

pub returns-clause-step : goal.returns-clause-step
returns-clause-step c = grows_on

pub returns-clause-more : goal.returns-clause-more
returns-clause-more c = grows_with

pub returns-clause-held : goal.returns-clause-held
returns-clause-held c = few_held
