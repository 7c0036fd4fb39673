use Rattle.control_laws.proofs.PeersKept.{loss_makes}
use Rattle.control_laws.proofs.peers.trees_forget_a_lost_peer.Goals as goal

pub returns : goal.returns
returns c = λ kept between peer trees are. loss_makes kept between peer 0 trees are
