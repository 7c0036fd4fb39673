use Rattle.edge_words.proofs.Flows.{flows_are}
use Rattle.edge_words.proofs.laws.flows_are_asked.Goals as goal

pub returns : goal.returns
returns c = flows_are
