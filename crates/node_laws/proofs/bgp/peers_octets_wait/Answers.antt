use Rattle.node_laws.proofs.PeerLemmas.{step_leaves, step_waits}
use Rattle.node_laws.proofs.bgp.peers_octets_wait.Goals as goal

pub returns : goal.returns
returns c = record { peers = step_waits; others = step_leaves }
