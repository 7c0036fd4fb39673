use Rattle.label_defs.proofs.RestLemmas.{withdraw_answered, only_answers}
use Rattle.label_defs.proofs.laws.withdraws_are_answered.Goals as goal

pub returns-clause-first : goal.returns-clause-first
returns-clause-first c = withdraw_answered

pub returns-clause-only : goal.returns-clause-only
returns-clause-only c = only_answers
