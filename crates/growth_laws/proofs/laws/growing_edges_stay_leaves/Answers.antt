use Rattle.growth_laws.proofs.Leaves.{leaves_stay}
use Rattle.growth_laws.proofs.Flows.{flows_stay}
use Rattle.growth_laws.proofs.laws.growing_edges_stay_leaves.Goals as goal

pub returns-clause-flows : goal.returns-clause-flows
returns-clause-flows c = flows_stay

pub returns-clause-leaves : goal.returns-clause-leaves
returns-clause-leaves c = leaves_stay
