use Rattle.node_laws.proofs.TakenLemmas.{none_left, others_left, spent_hands, unspent_hands}
use Rattle.node_laws.proofs.bgp.handed_octets_go.Goals as goal

pub returns : goal.returns
returns c = record { gone = none_left; others = others_left; unspent = unspent_hands; spent = spent_hands }
