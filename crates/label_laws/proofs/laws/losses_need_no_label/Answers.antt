use Rattle.label_laws.proofs.CalmTrees.{notice_steps, raise_steps}
use Rattle.label_laws.proofs.laws.losses_need_no_label.Goals as goal

pub returns-clause-noticed : goal.returns-clause-noticed
returns-clause-noticed c = notice_steps

pub returns-clause-raised : goal.returns-clause-raised
returns-clause-raised c = raise_steps
