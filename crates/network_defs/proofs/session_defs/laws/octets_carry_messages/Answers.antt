use Rattle.network_defs.proofs.session_defs.Runs.{run_refined, run_ended}
use Rattle.network_defs.proofs.session_defs.laws.octets_carry_messages.Goals as goal

pub returns-clause-refined : goal.returns-clause-refined
returns-clause-refined g c = run_refined

pub returns-clause-ended : goal.returns-clause-ended
returns-clause-ended g c = run_ended
