use Rattle.control_laws.proofs.PeersLost.{lost_leaves, removal_keeps, removal_spelled}
use Rattle.control_laws.proofs.peers.a_lost_peer_is_forgotten.Goals as goal

pub returns : goal.returns
returns c = record { kept = removal_keeps; spelled = removal_spelled; rest = lost_leaves }
