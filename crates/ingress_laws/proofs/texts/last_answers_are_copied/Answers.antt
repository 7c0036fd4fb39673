use Rattle.ingress_laws.proofs.CopyLemmas.{last_are_under}
use Rattle.ingress_laws.proofs.LastLemmas.{last_from, last_to}
use Rattle.ingress_laws.proofs.texts.last_answers_are_copied.Goals as goal

pub returns-clause-one : goal.returns-clause-one
returns-clause-one c =
    λ root lines said n labels are label. (last_from root lines said n labels are label, last_to root lines said n labels are label)

pub returns-clause-all : goal.returns-clause-all
returns-clause-all c = λ root lines labels said answers peers are. last_are_under root lines said labels answers peers are
