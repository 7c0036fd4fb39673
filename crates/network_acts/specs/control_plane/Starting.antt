-- The nodes of a scenario before anything has happened.
use Rattle.std.specs.Prelude.{◌≡◌, ◌<◌, ℕ, List, length, slice_get, None, Some}
use Rattle.std.specs.FinMap as maps
use Rattle.mv_base.specs.declared.ids.NodeId.{NodeId}
use Rattle.scenario_defs.specs.declared.scenario.Scenario.{Scenario}
use Rattle.network_nodes.specs.NodeView.{IsNode, IsPlacedAt, first_node, labels_in, spent_in}
use Rattle.network_nodes.specs.declared.node.NetworkNode.{NetworkNode}

-- the node is that of the number, before anything has happened; no tree waits there
pub record IsFirst (scenario : Scenario) (n : NodeId) (node : NetworkNode) : Type 0 where
  pub placed : IsPlacedAt scenario n node
  pub unspent : spent_in node ≡ None
  pub is : IsNode (first_node scenario n) node
  pub waits : (labels_in node).awaited ≡ maps.empty

-- these are the first so many nodes of the scenario, in order
pub record AreFirst (scenario : Scenario) (count : ℕ) (nodes : List NetworkNode) : Type 0 where
  pub count_is : length nodes ≡ count
  pub each : (n : NodeId) → n.0 < count → (node : NetworkNode) × (slice_get nodes n.0 ≡ Some node) × IsFirst scenario n node
