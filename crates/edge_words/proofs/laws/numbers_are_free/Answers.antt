use Rattle.edge_words.proofs.Numbers.{numbered, few_numbered}
use Rattle.edge_words.proofs.laws.numbers_are_free.Goals as goal

pub returns-clause-least : goal.returns-clause-least
returns-clause-least c = numbered

pub returns-clause-few : goal.returns-clause-few
returns-clause-few c = few_numbered
