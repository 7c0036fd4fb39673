use Rattle.control_laws.proofs.PeersInclusive.{fec_run}
use Rattle.control_laws.proofs.PeersTimers.{run_keeps, run_spelled}
use Rattle.control_laws.proofs.peers.delays_are_run.Goals as goal

pub returns : goal.returns
returns c = record { kept = run_keeps; spelled = run_spelled; inclusive = fec_run }
