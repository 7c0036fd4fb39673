use Rattle.node_laws.proofs.TakenLemmas.{spent_stays, unspent_streams}
use Rattle.node_laws.proofs.bgp.streams_are_prepared.Goals as goal

pub returns : goal.returns
returns c = record { unspent = unspent_streams; spent = spent_stays }
