use Rattle.edge_words.proofs.edge_laws.Start.{start_rule}
use Rattle.edge_words.proofs.edge_laws.laws.start_keeps_the_rule.Goals as goal

pub returns : goal.returns
returns c = start_rule
