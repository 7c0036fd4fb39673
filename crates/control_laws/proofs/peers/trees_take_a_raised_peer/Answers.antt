use Rattle.control_laws.proofs.PeersKept.{down_makes, raise_makes}
use Rattle.control_laws.proofs.peers.trees_take_a_raised_peer.Goals as goal

pub returns : goal.returns
returns c = record { anew = λ kept between peer trees are. raise_makes kept between peer 0 trees are; down = down_makes }
