use Rattle.node_laws.proofs.PeerLemmas.{labels_wait, others_wait, peers_wait}
use Rattle.node_laws.proofs.bgp.bgp_octets_wait.Goals as goal

pub returns : goal.returns
returns c = record { peers = peers_wait; others = others_wait; labels = labels_wait }
