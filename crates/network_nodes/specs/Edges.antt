-- Words of edges in which more is said of nodes above.
use Rattle.std.specs.Prelude.{ℕ, List}
use Rattle.mv_base.specs.declared.ids.NodeId.{NodeId}
use Rattle.label_defs.specs.Node.{waiting_for}
use Rattle.scenario_defs.specs.declared.event.Kind.{Kind}
use Rattle.scenario_defs.specs.declared.event.Kind.TheVariants as kinds
use Rattle.edge_core.specs.edge_control.edge_tables.Tables.{waiting_at}
use Rattle.edge_core.specs.View.{EdgeView}
pub use Rattle.edge_core.specs.Answers.{IsOneOf, OnTaken, spent_by}
pub use Rattle.edge_core.specs.Calls.{customer_call, is_full, refusals_of}
pub use Rattle.edge_core.specs.State.{IsFate, data_of, home_of as home_in}
pub use Rattle.edge_core.specs.View.{EdgeView}
pub use Rattle.edge_core.specs.declared.fate.Fate.{Fate}

-- the octets that wait in the edge for its session with the peer
abbrev pub octets_waiting : EdgeView → Kind → NodeId → List ℕ
octets_waiting edge kinds.Bgp peer = waiting_at edge.routing.tables peer
octets_waiting edge kinds.Ldp peer = waiting_for edge.labels.node.waiting peer
