use Rattle.edge_words.proofs.held_laws.Originated.{held_both}
use Rattle.edge_words.proofs.held_laws.laws.held_are_originated.Goals as goal

pub returns : goal.returns
returns c = held_both
