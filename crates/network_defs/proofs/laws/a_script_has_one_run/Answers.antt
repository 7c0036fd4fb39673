use Rattle.network_defs.proofs.OneRun.{one_of_script}
use Rattle.network_defs.proofs.laws.a_script_has_one_run.Goals as goal

pub returns : goal.returns
returns c = one_of_script
