use Rattle.control_laws.proofs.PeersChange.{change_keeps, change_leaves, change_spelled}
use Rattle.control_laws.proofs.peers.a_changed_route_is_taken.Goals as goal

pub returns : goal.returns
returns c = record { kept = change_keeps; spelled = change_spelled; rest = change_leaves }
