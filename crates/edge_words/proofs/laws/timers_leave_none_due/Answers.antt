use Rattle.edge_words.proofs.Quiet.{none_left}
use Rattle.edge_words.proofs.laws.timers_leave_none_due.Goals as goal

pub returns : goal.returns
returns c = none_left
