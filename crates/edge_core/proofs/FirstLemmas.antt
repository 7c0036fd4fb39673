-- An edge before anything has happened.
use Rattle.std.proofs.Common.{◌≡◌, ◌∙◌, ap, sym, refl, ℕ, List, [], map, false, is_some, None, Some, Option, Result, Ok, Err, IfOk}
use Rattle.std.specs.FinMap as maps
use Rattle.std.specs.FinMap.{FinMap}
use Rattle.mv_base.specs.declared.addr.Addr.{Addr}
use Rattle.mv_base.specs.declared.ids.NodeId.{NodeId}
use Rattle.mv_base.specs.declared.memory.NoMemory.{NoMemory}
use Rattle.scenario_defs.specs.declared.event.Kind.{Kind}
use Rattle.scenario_defs.specs.declared.event.Kind.TheVariants as kinds
use Rattle.scenario_defs.specs.declared.scenario.Node.{Node}
use Rattle.scenario_defs.specs.declared.scenario.Scenario.{Scenario}
use Rattle.mv_base.specs.framing.Feed.{unfed}
use Rattle.network_defs.specs.session_defs.Message.{SessionMessage}
use Rattle.network_defs.specs.session_defs.Octets.{Stream}
use Rattle.network_defs.specs.session_defs.PeerSession.{PeerSession, peer_cmp}
use Rattle.label_defs.specs.Keys.{node_cmp}
use Rattle.label_defs.specs.Node.{LabelNode, fresh_node}
use Rattle.mldp_node.specs.NodeData.{NodeData}
use Rattle.label_defs.specs.declared.end.End.{End}
use Rattle.edge_routing.specs.edge_streams.Kept.{session}
use Rattle.edge_defs.specs.Edge.{Control, Taken, no_control}
use Rattle.edge_defs.specs.Tunnels.{leaves}
use Rattle.edge_defs.proofs.LeafSteps.{fresh_leaves}
use Rattle.edge_routes.specs.edge_home.Home as homes
use Rattle.edge_routes.specs.edge_home.Home.{Home, place_of}
use Rattle.edge_routing.specs.edge_tables.Tables.{waiting_at}
use Rattle.edge_routing.specs.control_laws.Control.{control_of}
use Rattle.network_defs.specs.node_defs.EdgeState as states
use Rattle.network_defs.specs.node_defs.EdgeState.{fresh_state}
use Rattle.node_laws.specs.Places.{label_session, node_place}
use Rattle.node_laws.specs.Waits.{bgp_session}
use Rattle.edge_routing.specs.declared.routing.EdgeRouting.{EdgeRouting}
use Rattle.edge_routing.specs.Routing.{IsInStep}
use Rattle.edge_core.specs.State.{IsIn, IsLive, is_up_in}

-- ---- sessions

abbrev stream_or : Option Stream → Stream
stream_or o = elim o [ None ↦ unfed | Some stream ↦ stream ]

abbrev waiting_of : Option Stream → List SessionMessage
waiting_of o = (stream_or o).waiting

abbrev no_streams : FinMap peer_cmp Stream
no_streams = maps.empty

no_stream : (own : PeerSession) → is_some (maps.get no_streams own) ≡ false
no_stream own = ap (λ (o : Option Stream). is_some o) (maps.get-empty {X = Stream} peer_cmp own)

-- ---- the label part

abbrev addr_of_node : Node → Addr
addr_of_node node = node.addr

abbrev first_data : Scenario → NodeId → List Addr → NodeData
first_data scenario me addrs =
    record { place = record { me = me; addrs = addrs; life = scenario.life }; node = fresh_node scenario.labels; awaited = maps.empty }

module _ (scenario : Scenario) (me : NodeId) (addrs : List Addr) (are : addrs ≡ map addr_of_node scenario.nodes) where
  -- no end is up
  none_up : (routing : EdgeRouting) (labels : NodeData) → labels ≡ first_data scenario me addrs → control_of routing.control ≡ no_control
      → (kind : Kind) (peer : NodeId)
      → is_up_in routing labels kind peer ≡ false
  none_up routing labels is nothing kinds.Bgp peer =
      ap (λ (c : Control). is_some (maps.get c.peers peer)) nothing ∙ ap (λ (o : Option Taken). is_some o) (maps.get-empty {X = Taken} node_cmp peer)
  none_up routing labels is nothing kinds.Ldp peer =
      ap (λ (l : NodeData). is_some (maps.get l.node.part.ends peer)) is ∙ ap (λ (o : Option End). is_some o) (maps.get-empty {X = End} node_cmp peer)

  live_first : (labels : NodeData) → labels ≡ first_data scenario me addrs → (routing : EdgeRouting) → IsInStep routing
      → routing.control.home ≡ homes.home_of scenario me
      → control_of routing.control ≡ no_control → IsLive routing labels maps.empty
  live_first labels is routing step home nothing = record {
    step = step;
    place = ap (λ (l : NodeData). l.place) is ∙ ((λ i. record { me = me; addrs = are i; life = scenario.life })
        ∙ ap (λ (h : Home). node_place h.scenario h.me) (sym home));
    unspent = ap (λ (l : NodeData). l.node.spent) is;
    leaves = λ core. ap (λ (l : NodeData). l.node.part.leaves) is
        ∙ (fresh_leaves (place_of routing.control.home core) scenario.labels
        ∙ ap (λ (c : Control). leaves (place_of routing.control.home core) c) (sym nothing));
    up = λ kind peer. no_stream (session kind peer) ∙ sym (none_up routing labels is nothing kind peer);
    quiet = λ own. ap waiting_of (maps.get-empty {X = Stream} peer_cmp own);
  }

  pub labels_live : (result : Result NodeData NoMemory) → IfOk result (λ labels. labels ≡ first_data scenario me addrs)
      → IfOk result (λ labels. (routing : EdgeRouting) → IsInStep routing → routing.control.home ≡ homes.home_of scenario me
      → control_of routing.control ≡ no_control → IsLive routing labels maps.empty)
  labels_live (Ok labels) is = live_first labels is
  labels_live (Err fault) is = tt

-- ---- the edge

abbrev octets_or : Option (List ℕ) → List ℕ
octets_or None = []
octets_or (Some octets) = octets

-- it is the one of the definitions in which nothing has happened
pub first_in : (count : ℕ) (routing : EdgeRouting) (labels : NodeData) (streams : FinMap peer_cmp Stream) (raised : FinMap node_cmp ℕ)
    → labels.node ≡ fresh_node count → control_of routing.control ≡ no_control
    → ((peer : NodeId) → waiting_at routing.tables peer ≡ []) → streams ≡ maps.empty → raised ≡ maps.empty
    → IsIn (fresh_state count) (record { routing = routing; labels = labels; streams = streams; raised = raised; spent = None })
first_in count routing labels streams raised fresh nothing silent is none_raised = record {
  parts = λ core. record {
    unspent = refl;
    keeps = sym nothing;
    label = record {
      part = ap (λ (n : LabelNode). n.part) fresh;
      waiting =
          λ peer. none (label_session peer) ∙ sym (ap (λ (n : LabelNode). octets_or (maps.get n.waiting peer)) fresh
          ∙ ap octets_or (maps.get-empty {X = List ℕ} node_cmp peer));
      raises = ap (λ (n : LabelNode). n.raises) fresh;
      spent = ap (λ (n : LabelNode). n.spent) fresh;
    };
    peers = λ peer among other. none (bgp_session peer) ∙ sym (silent peer);
  };
  streams = sym is;
  raised = sym none_raised;
}
  where
    none : (session : PeerSession) → states.waiting_at (fresh_state count).waiting session ≡ []
    none session = ap octets_or (maps.get-empty {X = List ℕ} peer_cmp session)
