use Rattle.label_defs.proofs.HoldLemmas.{held_when, hold_runs}
use Rattle.label_defs.proofs.laws.holds_wait.Goals as goal

pub returns-clause-not_before : goal.returns-clause-not_before
returns-clause-not_before c = held_when

pub returns-clause-due : goal.returns-clause-due
returns-clause-due c = hold_runs
