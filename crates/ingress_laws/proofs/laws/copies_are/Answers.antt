use Rattle.ingress_laws.proofs.LawLemmas.{copies_from, copies_none, copies_to, copy_from, copy_to}
use Rattle.ingress_laws.proofs.laws.copies_are.Goals as goal

pub returns-clause-each : goal.returns-clause-each
returns-clause-each c = λ request taken copy. (copy_from request taken copy, copy_to request taken copy)

pub returns-clause-all : goal.returns-clause-all
returns-clause-all c = λ request taken copies. (copies_from request taken copies, copies_to request taken copies)

pub returns-clause-none : goal.returns-clause-none
returns-clause-none c = copies_none
