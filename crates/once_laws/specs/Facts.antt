-- What holds of the nodes of every run.
use Rattle.std.specs.Prelude.{◌≡◌, ℕ, ◌≢◌, ◌≤◌, true, false, is_some}
use Rattle.std.specs.FinMap as maps
use Rattle.std.specs.FinSet as sets
use Rattle.mv_base.specs.declared.ids.NodeId.{NodeId}
use Rattle.mldp.specs.declared.mldp_fec.fec.Fec.{Fec}
use Rattle.scenario_defs.specs.declared.event.Kind.{Kind}
use Rattle.scenario_defs.specs.declared.event.Kind.TheVariants as kinds
use Rattle.scenario_defs.specs.declared.scenario.Scenario.{Scenario}
use Rattle.edge_defs.specs.Edge.{EdgeData}
use Rattle.edge_defs.specs.Flows.{flows_at}
use Rattle.edge_defs.specs.Place.{EdgePlace}
use Rattle.edge_defs.specs.Tunnels.{leaves}
use Rattle.network_defs.specs.Nodes.{NodeState, Edge, CoreNode, Nodes, is_edge, place_of}

-- An edge is a leaf of the trees that it wants; its flows are those that were asked for at some clock; the peers whose sessions are up
-- are other edges.
pub record EdgeFact (place : EdgePlace) (now : ℕ) (edge : EdgeData) : Type 0 where
  pub leaves : edge.part.leaves ≡ leaves place edge.control
  pub flows : (moment : ℕ) × (moment ≤ now) × (edge.control.flows ≡ flows_at place moment edge.control)
  pub peers : (peer : NodeId) → is_some (maps.get edge.control.peers peer) ≡ true → (is_edge place.scenario peer ≡ true) × (place.me ≢ peer)

-- a core node is a leaf of no tree
abbrev pub NodeFact : EdgePlace → ℕ → NodeState → Type 0
NodeFact place now (Edge edge) = EdgeFact place now edge
NodeFact place now (CoreNode part) = (fec : Fec) → sets.contains part.leaves fec ≡ false

-- an end of a BGP session is an edge's, and so is the other end
abbrev pub FitEnd : Scenario → Kind → NodeId → NodeId → Type 0
FitEnd scenario kinds.Bgp n peer = (is_edge scenario peer ≡ true) × (n ≢ peer)
FitEnd scenario kinds.Ldp n peer = Unit {0}

pub record NodesFact (scenario : Scenario) (nodes : Nodes) : Type 0 where
  pub same : nodes.scenario ≡ scenario
  pub node : (n : NodeId) → NodeFact (place_of nodes n) nodes.clock (nodes.node n)
