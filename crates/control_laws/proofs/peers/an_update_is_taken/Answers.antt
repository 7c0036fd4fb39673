use Rattle.control_laws.proofs.PeersChange.{changes_keep}
use Rattle.control_laws.proofs.peers.an_update_is_taken.Goals as goal

pub returns : goal.returns
returns c = changes_keep
