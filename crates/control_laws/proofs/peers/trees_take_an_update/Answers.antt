use Rattle.control_laws.proofs.PeersKept.{update_makes}
use Rattle.control_laws.proofs.peers.trees_take_an_update.Goals as goal

pub returns : goal.returns
returns c = update_makes
