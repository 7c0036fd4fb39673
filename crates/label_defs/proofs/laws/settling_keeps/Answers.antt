use Rattle.label_defs.proofs.WithdrawLemmas.{same_branches, same_leaves}
use Rattle.label_defs.proofs.IdLemmas.{step_ends}
use Rattle.label_defs.proofs.laws.settling_keeps.Goals as goal

pub returns-clause-branches : goal.returns-clause-branches
returns-clause-branches c = same_branches

pub returns-clause-leaves : goal.returns-clause-leaves
returns-clause-leaves c = same_leaves

pub returns-clause-ends : goal.returns-clause-ends
returns-clause-ends c = step_ends
