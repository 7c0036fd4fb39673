use Rattle.growth_laws.proofs.Tests.{homes_are_told, growing_told}
use Rattle.growth_laws.proofs.laws.growing_scripts_are_told.Goals as goal

pub returns-clause-homes : goal.returns-clause-homes
returns-clause-homes c = homes_are_told

pub returns-clause-scripts : goal.returns-clause-scripts
returns-clause-scripts c = growing_told
