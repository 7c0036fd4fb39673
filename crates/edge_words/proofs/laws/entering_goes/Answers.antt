use Rattle.edge_words.proofs.Goes.{enters_out, enters_on}
use Rattle.edge_words.proofs.laws.entering_goes.Goals as goal

pub returns-clause-outs : goal.returns-clause-outs
returns-clause-outs c = enters_out

pub returns-clause-branches : goal.returns-clause-branches
returns-clause-branches c = enters_on
