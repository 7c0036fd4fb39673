use Rattle.label_defs.proofs.WithdrawLemmas.{mapped_then, withdraw_is}
use Rattle.label_defs.proofs.laws.withdraws_leave.Goals as goal

pub returns-clause-mapped : goal.returns-clause-mapped
returns-clause-mapped c = mapped_then

pub returns-clause-put : goal.returns-clause-put
returns-clause-put c = withdraw_is
