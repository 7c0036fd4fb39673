use Rattle.ingress_laws.proofs.RefusedLemmas.{shown_from, shown_to}
use Rattle.ingress_laws.proofs.texts.refused_lines_bring_faults.Goals as goal

pub returns : goal.returns
returns c = λ root lines before more line said parts peer octets is place fault. (
  shown_from root lines before more line said parts peer octets is place fault,
  shown_to root lines before more line said parts peer octets is place fault,
)
