use Rattle.control_laws.proofs.PeersInclusive.{fec_removed_gone, fec_removed_left, fec_removed_lost}
use Rattle.control_laws.proofs.peers.inclusive_tunnels_of_a_lost_peer_go.Goals as goal

pub returns : goal.returns
returns c = record { left = fec_removed_left; lost = fec_removed_lost; gone = fec_removed_gone }
