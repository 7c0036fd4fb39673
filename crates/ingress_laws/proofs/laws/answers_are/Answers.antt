use Rattle.ingress_laws.proofs.LawLemmas.{answered_from, answered_to, asks_from, asks_to, unanswered_from, unanswered_to}
use Rattle.ingress_laws.proofs.laws.answers_are.Goals as goal

pub returns-clause-asks : goal.returns-clause-asks
returns-clause-asks c = λ advert request. (asks_from advert request, asks_to advert request)

pub returns-clause-none : goal.returns-clause-none
returns-clause-none c = λ leaf label advert. (unanswered_from leaf label advert, unanswered_to leaf label advert)

pub returns-clause-some : goal.returns-clause-some
returns-clause-some c = λ leaf label advert octets. (answered_from leaf label advert octets, answered_to leaf label advert octets)
