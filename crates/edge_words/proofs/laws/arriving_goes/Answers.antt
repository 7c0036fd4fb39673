use Rattle.edge_words.proofs.Goes.{arrives_out, arrives_on}
use Rattle.edge_words.proofs.laws.arriving_goes.Goals as goal

pub returns-clause-outs : goal.returns-clause-outs
returns-clause-outs c = arrives_out

pub returns-clause-branches : goal.returns-clause-branches
returns-clause-branches c = arrives_on
