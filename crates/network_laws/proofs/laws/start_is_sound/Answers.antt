use Rattle.network_laws.proofs.NodeCalls.{start_sound}
use Rattle.network_laws.proofs.laws.start_is_sound.Goals as goal

pub returns : goal.returns
returns c = start_sound
