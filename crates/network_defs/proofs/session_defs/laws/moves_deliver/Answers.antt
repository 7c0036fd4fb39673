use Rattle.network_defs.proofs.session_defs.Moves.{moves_first}
use Rattle.network_defs.proofs.session_defs.laws.moves_deliver.Goals as goal

pub returns : goal.returns
returns g c = moves_first
