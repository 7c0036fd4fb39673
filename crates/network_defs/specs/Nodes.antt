-- The nodes of a network: edges, and core nodes, which have a label part alone.
use Rattle.std.specs.Prelude.{ℕ, ◌==◌, Bool, false, List, slice_get, None, Some, if◌then◌else◌}
use Rattle.mv_base.specs.declared.core_link.Link.{Link}
use Rattle.mv_base.specs.declared.ids.NodeId.{NodeId}
use Rattle.scenario_defs.specs.declared.scenario.Scenario.{Scenario}
use Rattle.label_defs.specs.LabelData as labels
use Rattle.label_defs.specs.LabelData.{LabelData, Place}
use Rattle.edge_defs.specs.Edge as edges
use Rattle.edge_defs.specs.Edge.{EdgeData}
use Rattle.edge_defs.specs.Place.{EdgePlace, label_place}
use Rattle.mv_base.specs.core_walks.Core.{Core}
use Rattle.network_defs.specs.Costs.{Cores}

pub data NodeState : Type 0 where
  Edge : (edge : EdgeData) → NodeState
  CoreNode : (part : LabelData) → NodeState

-- All nodes of a scenario, with the cores by the costs of links; the links at their present costs, and at the costs that each node has
-- acted on; and the clock that the nodes share.
pub record Nodes : Type 0 where
  pub scenario : Scenario
  pub cores : Cores
  pub links : List Link
  pub known : NodeId → List Link
  pub clock : ℕ
  pub node : NodeId → NodeState

-- whether the node is an edge
abbrev pub is_edge : Scenario → NodeId → Bool
is_edge scenario n = elim (slice_get scenario.nodes n.0) [ None ↦ false | Some node ↦ node.edge ]

-- the node with its scenario lines alone
abbrev pub fresh_node : Scenario → NodeId → NodeState
fresh_node scenario n = if is_edge scenario n then Edge (edges.fresh scenario.labels) else CoreNode (labels.fresh scenario.labels)

-- Nothing has happened yet: the costs are those of the scenario.
abbrev pub start_nodes : Scenario → Cores → Nodes
start_nodes scenario cores = record {
  scenario = scenario;
  cores = cores;
  links = scenario.links;
  known = λ n. scenario.links;
  clock = 0;
  node = fresh_node scenario;
}

-- one node becomes another, and all others stay
abbrev pub with_node : Nodes → NodeId → NodeState → Nodes
with_node nodes at new = record nodes { node = λ n. if n.0 == at.0 then new else nodes.node n }

-- the node takes over the present costs
abbrev pub following : Nodes → NodeId → Nodes
following nodes at = record nodes { known = λ n. if n.0 == at.0 then nodes.links else nodes.known n }

-- the core that a node knows
abbrev pub core_at : Nodes → NodeId → Core
core_at nodes n = nodes.cores (nodes.known n)

abbrev pub place_of : Nodes → NodeId → EdgePlace
place_of nodes n = record { scenario = nodes.scenario; core = core_at nodes n; me = n }

-- the place of a node for its label steps
abbrev pub label_place_of : Nodes → NodeId → Place
label_place_of nodes n = label_place nodes.scenario (core_at nodes n) n

-- the label part of a node
abbrev pub part_of : NodeState → LabelData
part_of (Edge edge) = edge.part
part_of (CoreNode part) = part
