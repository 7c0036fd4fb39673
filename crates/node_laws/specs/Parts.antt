-- An edge whose parts are kept apart: what it keeps of customers and of BGP, a label node, and what waits for each of its BGP peers.
use Rattle.std.specs.Prelude.{◌≡◌, ◌≢◌, ℕ, List, None}
use Rattle.mv_base.specs.Lists.{Among}
use Rattle.mv_base.specs.declared.ids.NodeId.{NodeId}
use Rattle.label_defs.specs.Node.{LabelNode}
use Rattle.network_defs.specs.mvpn_model.Sessions.{edges}
use Rattle.edge_defs.specs.Edge.{Control}
use Rattle.edge_defs.specs.Place.{EdgePlace}
use Rattle.network_defs.specs.node_defs.EdgeState.{EdgeState, waiting_at}
use Rattle.node_laws.specs.Rows.{IsLabelNode}
use Rattle.node_laws.specs.Waits.{bgp_session}

-- The edge is not spent, keeps this, has its label part in this label node, and for each other edge these octets wait.
pub record HasParts (place : EdgePlace) (state : EdgeState) (control : Control) (node : LabelNode) (waiting : NodeId → List ℕ) : Type 0 where
  pub unspent : state.spent ≡ None
  pub keeps : state.edge.control ≡ control
  pub label : IsLabelNode state node
  pub peers : (peer : NodeId) → Among peer (edges place.scenario) → peer ≢ place.me →
      waiting_at state.waiting (bgp_session peer) ≡ waiting peer
