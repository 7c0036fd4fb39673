-- What the nodes of a network do with the messages that they take and at their calls.
use Rattle.std.specs.Prelude.{ℕ, ◌+◌, [], Option, None, Some}
use Rattle.mv_base.specs.Number.{◌>>?◌}
use Rattle.mv_base.specs.declared.ids.NodeId.{NodeId}
use Rattle.mv_base.specs.core_walks.Costs.{with_cost}
use Rattle.label_defs.specs.LabelData.{LabelData}
use Rattle.label_defs.specs.Steps as labels
use Rattle.label_defs.specs.Steps.{label_step}
use Rattle.network_defs.specs.session_defs.System.{Stepped, System}
use Rattle.edge_defs.specs.Edge.{EdgeData}
use Rattle.edge_defs.specs.Place.{addr_of}
use Rattle.edge_defs.specs.Steps as steps
use Rattle.edge_defs.specs.Steps.{edge_step, own_label_call}
use Rattle.network_defs.specs.Nodes.{NodeState, Edge, CoreNode, Nodes, fresh_node, with_node, following, place_of, label_place_of}
use Rattle.network_defs.specs.node_defs.Puts.{label_puts}
pub use Rattle.network_defs.specs.node_defs.EdgeState.{call_of}
use Rattle.network_defs.specs.node_defs.EdgeState.{edge_puts}

-- ---- steps of a node

-- an edge steps: it puts to its BGP peers, and then what the row of its label steps puts
abbrev pub edge_stepped : Nodes → NodeId → EdgeData → steps.Call → Option (Stepped Nodes)
edge_stepped nodes n edge call =
    edge_step (place_of nodes n) nodes.clock edge call >>? λ new.
    Some (record { state = with_node nodes n (Edge new.edge); puts = edge_puts (place_of nodes n) nodes.clock edge new })

-- a core node makes one label step
abbrev pub core_stepped : Nodes → NodeId → LabelData → labels.Call → Option (Stepped Nodes)
core_stepped nodes n part call =
    label_step (label_place_of nodes n) nodes.clock part call >>? λ new.
    Some (record {
      state = with_node nodes n (CoreNode new.part);
      puts = label_puts n (addr_of nodes.scenario n) (label_place_of nodes n) nodes.clock (record { old = part; call = call; new = new });
    })

abbrev pub unchanged : Nodes → Stepped Nodes
unchanged nodes = record { state = nodes; puts = [] }

-- a call that is none of the label part changes nothing at a core node
abbrev pub core_called : Nodes → NodeId → LabelData → Option labels.Call → Option (Stepped Nodes)
core_called nodes n part None = Some (unchanged nodes)
core_called nodes n part (Some call) = core_stepped nodes n part call

abbrev pub node_called : Nodes → NodeId → NodeState → steps.Call → Option (Stepped Nodes)
node_called nodes n (Edge edge) call = edge_stepped nodes n edge call
node_called nodes n (CoreNode part) call = core_called nodes n part (own_label_call call)

-- ---- the system

-- What may be called besides: a call of a node, time that passes, and a node that is set back to its scenario lines, whatever the costs
-- are; a link gets another cost; and a node takes over the present costs, and makes a step by them.
pub data NodeCall : Type 0 where
  Own : (node : NodeId) → (call : steps.Call) → NodeCall
  Elapse : (ticks : ℕ) → NodeCall
  Reset : (node : NodeId) → NodeCall
  Price : (a b : NodeId) → (cost : ℕ) → NodeCall
  Follow : (node : NodeId) → NodeCall

abbrev pub nodes_called : NodeCall → Nodes → Option (Stepped Nodes)
nodes_called (Own n call) nodes = node_called nodes n (nodes.node n) call
nodes_called (Elapse ticks) nodes = Some (unchanged (record nodes { clock = nodes.clock + ticks }))
nodes_called (Reset n) nodes = Some (unchanged (with_node nodes n (fresh_node nodes.scenario n)))
nodes_called (Price a b cost) nodes = Some (unchanged (record nodes { links = with_cost a b cost nodes.links }))
nodes_called (Follow n) nodes = node_called (following nodes n) n (nodes.node n) steps.Rerouted

-- The nodes of a network: the receiver of a direction takes its messages.
abbrev pub system : System Nodes NodeCall
system = record {
  taken = λ direction message nodes. node_called nodes direction.to (nodes.node direction.to) (call_of direction.from message);
  called = nodes_called;
}
