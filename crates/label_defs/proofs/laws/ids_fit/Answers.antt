use Rattle.label_defs.proofs.IdLemmas.{fresh_fits, step_fits, puts_fit}
use Rattle.label_defs.proofs.laws.ids_fit.Goals as goal

pub returns-clause-fresh : goal.returns-clause-fresh
returns-clause-fresh c = fresh_fits

pub returns-clause-steps : goal.returns-clause-steps
returns-clause-steps c = step_fits

pub returns-clause-puts : goal.returns-clause-puts
returns-clause-puts c = puts_fit
