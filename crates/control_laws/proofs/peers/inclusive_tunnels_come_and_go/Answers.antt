use Rattle.control_laws.proofs.PeersInclusive.{fec_came, fec_new, fec_same, fec_went}
use Rattle.control_laws.proofs.peers.inclusive_tunnels_come_and_go.Goals as goal

pub returns : goal.returns
returns c = record { came = fec_came; went = fec_went; new = fec_new; same = fec_same }
