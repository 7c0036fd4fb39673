use Rattle.ingress_laws.proofs.SaidLemmas.{text_peers, text_says}
use Rattle.ingress_laws.proofs.texts.texts_meet_the_premise.Goals as goal

pub returns-clause-said : goal.returns-clause-said
returns-clause-said c = text_says

pub returns-clause-peers : goal.returns-clause-peers
returns-clause-peers c = text_peers
