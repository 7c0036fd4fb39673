use Rattle.network_defs.proofs.session_defs.Runs.{run_refined_while, run_ended_while}
use Rattle.network_laws.specs.Honest.{sound_system}
use Rattle.network_laws.specs.Sound.{Sound}
use Rattle.network_laws.proofs.Nodes.{honest_nodes}
use Rattle.network_laws.proofs.laws.octets_of_the_network_carry_messages.Goals as goal

pub returns-clause-refined : goal.returns-clause-refined
returns-clause-refined c scenario old pending acts new good lines e =
    run_refined_while (sound_system scenario) (Sound scenario) old pending acts new (honest_nodes scenario) lines good e

pub returns-clause-ended : goal.returns-clause-ended
returns-clause-ended c scenario old pending acts good lines e =
    (run_ended_while (sound_system scenario) (Sound scenario) old pending acts (honest_nodes scenario) lines good e).0
