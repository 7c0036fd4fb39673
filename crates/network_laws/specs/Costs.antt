-- The costs that nodes know.
use Rattle.std.specs.Prelude.{◌≡◌, ◌<◌, length}
use Rattle.mv_base.specs.declared.ids.NodeId.{NodeId}
use Rattle.scenario_defs.specs.declared.scenario.Scenario.{Scenario}
use Rattle.mv_base.specs.core_walks.Core.{IsCoreOf}
use Rattle.network_defs.specs.Costs.{AreRepriced, Cores}
use Rattle.network_defs.specs.Nodes.{Nodes, core_at}

-- The present costs are costs of the scenario's links, and each node of the scenario has acted on them. The core that any node knows is
-- one by the costs of links that it has acted on.
pub record KnowCosts (scenario : Scenario) (cores : Cores) (nodes : Nodes) : Type 0 where
  pub cores_are : nodes.cores ≡ cores
  pub links : AreRepriced scenario.links nodes.links
  pub present : (n : NodeId) → n.0 < length scenario.nodes → nodes.known n ≡ nodes.links
  pub core : (n : NodeId) → IsCoreOf (length scenario.nodes) (nodes.known n) (core_at nodes n)
