use Rattle.control_laws.proofs.PeersKept.{run_makes}
use Rattle.control_laws.proofs.peers.trees_run_delays.Goals as goal

pub returns : goal.returns
returns c = λ kept between now trees are core. run_makes kept between (record { 0 = 0 }) now trees are core
