-- A core node as its callers see it, and what holds of it between its calls.
use Rattle.std.specs.Prelude.{◌≡◌, Bool, [], None, is_some, refl}
use Rattle.std.specs.Coded.{Coded, code_by, coded×}
use Rattle.std.specs.FinMap as maps
use Rattle.std.specs.FinMap.{FinMap}
use Rattle.mv_base.specs.declared.ids.NodeId.{NodeId}
use Rattle.network_defs.specs.session_defs.Octets.{Stream}
use Rattle.network_defs.specs.session_defs.PeerSession.{PeerSession, peer_cmp, stream_at}
use Rattle.mldp_node.specs.NodeData.{NodeData, node_code}
use Rattle.edge_streams.specs.Streams.{streams_code}
use Rattle.wire_laws.specs.CoreNodes.{CoreState, ldp_with}

-- Its label part, which says whether the node is spent, and the stream of each session whose end is up.
pub record CoreView : Type 0 where
  pub labels : NodeData
  pub streams : FinMap peer_cmp Stream

abbrev pub view_code : Coded CoreView
view_code = code_by (NodeData × FinMap peer_cmp Stream) (coded× node_code streams_code)
    (λ v. (v.labels, v.streams)) (λ p. record { labels = p.0; streams = p.1 }) (λ _. refl)

-- the core node of the definitions
abbrev pub state_of : CoreView → CoreState
state_of view = record { node = view.labels.node; streams = view.streams }

-- whether the end of the session with the neighbour is up
abbrev pub is_up : CoreView → NodeId → Bool
is_up view peer = is_some (maps.get view.labels.node.part.ends peer)

-- What holds of a node that is not spent: its label part goes on; a session has a stream exactly while its end is up, and no message waits
-- in it, since those that octets spell are taken with them.
pub record IsLive (labels : NodeData) (streams : FinMap peer_cmp Stream) : Type 0 where
  pub unspent : labels.node.spent ≡ None
  pub up : (peer : NodeId) → is_some (maps.get streams (ldp_with peer)) ≡ is_some (maps.get labels.node.part.ends peer)
  pub quiet : (own : PeerSession) → (stream_at streams own).waiting ≡ []
