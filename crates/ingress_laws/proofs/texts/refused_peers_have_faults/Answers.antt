use Rattle.ingress_laws.proofs.RefusedLemmas.{refused_only, refused_told}
use Rattle.ingress_laws.proofs.texts.refused_peers_have_faults.Goals as goal

pub returns-clause-told : goal.returns-clause-told
returns-clause-told c = λ root lines said n heard there fault h. refused_told root lines said n heard there fault h

pub returns-clause-only : goal.returns-clause-only
returns-clause-only c = λ root lines said n place fault r. refused_only root lines said n place fault r
