use Rattle.network_laws.proofs.core_laws.CoresFound.{some_cores}
use Rattle.network_laws.proofs.core_laws.laws.each_scenario_has_cores.Goals as goal

pub returns : goal.returns
returns c = some_cores
