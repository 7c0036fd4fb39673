use Rattle.control_laws.proofs.PeersLost.{raise_down, raise_keeps, raise_spelled}
use Rattle.control_laws.proofs.peers.a_raised_peer_has_no_route.Goals as goal

pub returns : goal.returns
returns c = record { kept = raise_keeps; down = raise_down; spelled = raise_spelled }
