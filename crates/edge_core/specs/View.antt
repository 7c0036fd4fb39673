-- An edge as its callers see it.
use Rattle.std.specs.Prelude.{ℕ, Option, refl}
use Rattle.std.specs.Coded.{Coded, code_by, coded×, coded_option, coded_ℕ}
use Rattle.std.specs.FinMap as maps
use Rattle.std.specs.FinMap.{FinMap}
use Rattle.mv_base.specs.contracts.ids.NodeId as nodes
use Rattle.label_defs.specs.Keys.{node_cmp}
use Rattle.label_defs.specs.Node.{Spent}
use Rattle.network_defs.specs.session_defs.Octets.{Stream}
use Rattle.network_defs.specs.session_defs.PeerSession.{peer_cmp}
use Rattle.edge_routing.specs.edge_control.Sound.{kept_code}
use Rattle.edge_routing.specs.edge_tables.Tables.{Tables, tables_code}
use Rattle.edge_routing.specs.control_laws.Control.{Kept}
use Rattle.mldp_node.specs.NodeData.{NodeData, node_code, spent_code}
use Rattle.edge_routing.specs.declared.routing.EdgeRouting.{EdgeRouting}
use Rattle.edge_routing.specs.edge_streams.Streams.{streams_code}

-- What it keeps of its customers and of its peers, with what it tells them; its label part; the stream of each session whose end is up;
-- when the end of each BGP session that is up came up; and whether it is spent.
pub record EdgeView : Type 0 where
  pub routing : EdgeRouting
  pub labels : NodeData
  pub streams : FinMap peer_cmp Stream
  pub raised : FinMap node_cmp ℕ
  pub spent : Option Spent

-- ---- its code

abbrev routing_code : Coded EdgeRouting
routing_code = code_by (Kept × Tables) (coded× kept_code tables_code)
    (λ r. (r.control, r.tables)) (λ p. record { control = p.0; tables = p.1 }) (λ _. refl)

abbrev pub raised_code : Coded (FinMap node_cmp ℕ)
raised_code = maps.code nodes.the_row.coded coded_ℕ

abbrev pub view_code : Coded EdgeView
view_code = code_by (EdgeRouting × (NodeData × (FinMap peer_cmp Stream × (FinMap node_cmp ℕ × Option Spent))))
    (coded× routing_code (coded× node_code (coded× streams_code (coded× raised_code (coded_option spent_code)))))
    (λ e. (e.routing, (e.labels, (e.streams, (e.raised, e.spent)))))
    (λ p. record { routing = p.0; labels = p.1.0; streams = p.1.1.0; raised = p.1.1.1.0; spent = p.1.1.1.1 }) (λ _. refl)
