use Rattle.label_defs.proofs.HoldLemmas.{loss_frees, loss_drops, loss_downs}
use Rattle.label_defs.proofs.laws.losses_end_a_session.Goals as goal

pub returns-clause-labels : goal.returns-clause-labels
returns-clause-labels c = loss_frees

pub returns-clause-branches : goal.returns-clause-branches
returns-clause-branches c = loss_drops

pub returns-clause-down : goal.returns-clause-down
returns-clause-down c = loss_downs
