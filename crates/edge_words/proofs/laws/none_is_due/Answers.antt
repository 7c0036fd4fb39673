use Rattle.edge_words.proofs.Quiet.{due_is}
use Rattle.edge_words.proofs.laws.none_is_due.Goals as goal

pub returns : goal.returns
returns c = due_is
