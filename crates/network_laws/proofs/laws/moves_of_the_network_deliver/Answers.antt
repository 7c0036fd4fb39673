use Rattle.network_defs.proofs.session_defs.Moves.{moves_first_while}
use Rattle.network_laws.specs.Honest.{sound_system}
use Rattle.network_laws.specs.Sound.{Sound}
use Rattle.network_laws.proofs.Nodes.{honest_nodes}
use Rattle.network_laws.proofs.laws.moves_of_the_network_deliver.Goals as goal

pub returns : goal.returns
returns c scenario old pending direction count new good lines joined e =
    (moves_first_while (sound_system scenario) (Sound scenario) old pending direction count new (honest_nodes scenario) lines good joined e).0
