-- What holds of an edge between its calls, and which edge of the definitions it is.
use Rattle.std.specs.Prelude.{◌≡◌, ⊤, Bool, [], None, is_some}
use Rattle.std.specs.FinMap as maps
use Rattle.std.specs.FinMap.{FinMap}
use Rattle.mv_base.specs.Lists.{Among}
use Rattle.mv_base.specs.declared.ids.NodeId.{NodeId}
use Rattle.mv_base.specs.declared.ids.VrfId.{VrfId}
use Rattle.mv_base.specs.core_walks.Core.{Core}
use Rattle.scenario_defs.specs.declared.event.Kind.{Kind}
use Rattle.scenario_defs.specs.declared.event.Kind.TheVariants as kinds
use Rattle.network_defs.specs.session_defs.Octets.{Stream}
use Rattle.network_defs.specs.session_defs.PeerSession.{PeerSession, peer_cmp, stream_at}
use Rattle.edge_defs.specs.Datagrams as datagrams
use Rattle.edge_defs.specs.Edge.{EdgeData}
use Rattle.edge_defs.specs.Place.{OwnVrf}
use Rattle.edge_defs.specs.Tunnels.{leaves}
use Rattle.edge_routes.specs.edge_home.Home.{Home, peers_of, place_of}
use Rattle.edge_routing.specs.edge_control.Places.{vrfs_of}
use Rattle.edge_routing.specs.edge_tables.Tables.{waiting_at}
use Rattle.edge_routing.specs.vrf_words.tree_defs.Trees.{TreeData}
use Rattle.edge_routing.specs.vrf_words.tree_laws.TreeOf.{IsTreeOf}
use Rattle.edge_routing.specs.control_laws.Control.{control_of}
use Rattle.mldp_node.specs.NodeData.{NodeData}
use Rattle.network_defs.specs.node_defs.EdgeState.{EdgeState}
use Rattle.edge_routing.specs.edge_streams.Kept.{session}
use Rattle.node_laws.specs.Parts.{HasParts}
use Rattle.node_laws.specs.Places.{node_place}
use Rattle.edge_routing.specs.declared.routing.EdgeRouting.{EdgeRouting}
use Rattle.edge_routing.specs.Routing.{IsInStep}
use Rattle.edge_core.specs.declared.fate.Fate.{Fate}
use Rattle.edge_core.specs.View.{EdgeView}

-- where the edge stands
abbrev pub home_of : EdgeView → Home
home_of edge = edge.routing.control.home

-- its data, in the words of its steps
abbrev pub data_of : EdgeView → EdgeData
data_of edge = record { control = control_of edge.routing.control; part = edge.labels.node.part; raised = edge.raised }

-- whether the end of the session is up: over BGP the peer is one that is kept, and over LDP the label part has the end
abbrev pub is_up_in : EdgeRouting → NodeData → Kind → NodeId → Bool
is_up_in routing labels kinds.Bgp peer = is_some (maps.get routing.control.peers peer)
is_up_in routing labels kinds.Ldp peer = is_some (maps.get labels.node.part.ends peer)

abbrev pub is_up : EdgeView → Kind → NodeId → Bool
is_up edge kind peer = is_up_in edge.routing edge.labels kind peer

-- What holds of an edge that is not spent: what it tells its peers is in step with what it keeps; its label part stands where the edge
-- does, goes on, and is a leaf of the trees of which the edge is to be one; a session has a stream exactly while its end is up, and no
-- message waits in it, since those that octets spell are taken with them.
pub record IsLive (routing : EdgeRouting) (labels : NodeData) (streams : FinMap peer_cmp Stream) : Type 0 where
  pub step : IsInStep routing
  pub place : labels.place ≡ node_place routing.control.home.scenario routing.control.home.me
  pub unspent : labels.node.spent ≡ None
  pub leaves : (core : Core) → labels.node.part.leaves ≡ leaves (place_of routing.control.home core) (control_of routing.control)
  pub up : (kind : Kind) (peer : NodeId) → is_some (maps.get streams (session kind peer)) ≡ is_up_in routing labels kind peer
  pub quiet : (own : PeerSession) → (stream_at streams own).waiting ≡ []

-- The edge of the definitions that an edge is: it goes on, and keeps the same; the same octets wait for its sessions, its streams are
-- the same, and its ends came up at the same moments. What it keeps does not depend on the core that it knows.
pub record IsIn (state : EdgeState) (edge : EdgeView) : Type 0 where
  pub parts : (core : Core) → HasParts (place_of (home_of edge) core) state (control_of edge.routing.control) edge.labels.node
      (waiting_at edge.routing.tables)
  pub streams : state.streams ≡ edge.streams
  pub raised : state.edge.raised ≡ edge.raised

-- The tree is that of the VRF, which is one of the edge, by the edge's data: it has the entries, the notes and the selections of the VRF in
-- these, and the VRF's flows, each with its choice; and it knows what the VRF takes of the tables that are taken from the edge's peers.
pub record IsTreeIn (edge : EdgeView) (vrf : VrfId) (tree : TreeData) : Type 0 where
  pub own : OwnVrf
  pub of_edge : Among own (vrfs_of (home_of edge))
  pub id : own.id ≡ vrf
  pub is : (core : Core) → IsTreeOf (place_of (home_of edge) core) (data_of edge).control own tree

-- the node may be at the other end of a session of that protocol: over BGP it is another edge
abbrev pub IsPeer : EdgeView → Kind → NodeId → Type 0
IsPeer edge kinds.Bgp peer = Among peer (peers_of (home_of edge))
IsPeer edge kinds.Ldp peer = ⊤

-- what becomes of a datagram is what the definitions say
pub record IsFate (expected : datagrams.Fate) (fate : Fate) : Type 0 where
  pub outs : fate.outs ≡ expected.outs
  pub branches : fate.branches ≡ expected.branches
