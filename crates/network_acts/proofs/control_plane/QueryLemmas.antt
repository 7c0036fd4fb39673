-- What the nodes of the control plane keep, in the words of the network, and what is counted over nodes and sessions.
use Rattle.std.specs.Prelude.{count_by, sum_by}
use Rattle.std.specs.Slice.{IsItemAt}
use Rattle.std.specs.FinMap.{FinMap}
use Rattle.std.proofs.Common.{◌≡◌, ◌∙◌, refl, sym, ap, subst, arith, ℕ, ◌+◌, ◌<◌, ◌≤◌, min, not, List, [], ◌∷◌, ◌++◌, length, take, slice_get, get_or, Option, Some, None, IfSome, Bor}
use Rattle.std.proofs.lemmas.Option.{same_Some, slice_get_read, slice_get_within}
use Rattle.std.proofs.lemmas.List.{map-id}
use Rattle.std.proofs.lemmas.List.Sums.{sum_by-append, sum_by-cons}
use Rattle.mv_base.specs.Lists.{Among}
use Rattle.mv_base.specs.declared.ids.NodeId.{NodeId}
use Rattle.control_laws.proofs.Parts.{no_core}
use Rattle.label_defs.specs.Node.{LabelNode, waiting_for}
use Rattle.mldp_node.specs.NodeData.{NodeData}
use Rattle.scenario_defs.specs.declared.event.Kind.{Kind}
use Rattle.scenario_defs.specs.declared.event.Kind.TheVariants as kinds
use Rattle.scenario_defs.specs.declared.scenario.Scenario.{Scenario}
use Rattle.net_sessions.proofs.session_transit.Totals.{most}
use Rattle.net_sessions.proofs.session_ways.WayLemmas.{made_of_more}
use Rattle.mvpn_model.specs.Sessions.{edges}
use Rattle.mvpn_model.specs.declared.session.Session.{Session}
use Rattle.network_defs.specs.Counts.{all_nodes, direction, is_ready, node_due, node_ids}
use Rattle.network_defs.specs.Nodes.{Nodes}
use Rattle.network_defs.specs.session_defs.Octets.{OctetNetwork, Stream}
use Rattle.network_defs.specs.session_defs.PeerSession.{peer_cmp, stream_at}
use Rattle.network_nodes.specs.Edges.{EdgeView, home_in, octets_waiting}
use Rattle.network_nodes.specs.Network.{IsNodeOf}
use Rattle.network_nodes.specs.NodeView.{IsNode, IsPlacedAt, data_in, spent_in}
use Rattle.network_nodes.specs.core_node.View.{CoreView}
use Rattle.network_nodes.specs.declared.node.NetworkNode.{NetworkNode}
use Rattle.network_nodes.specs.declared.node.NetworkNode.TheVariants as nodes
use Rattle.network_nodes.specs.wire_laws.AnyNodes as any
use Rattle.network_nodes.specs.wire_laws.AnyNodes.{AnyNode, IsNodeAt}
use Rattle.network_nodes.specs.wire_laws.CoreNodes.{CoreState}
use Rattle.network_nodes.specs.wire_laws.Edges.{IsWay, session_with}
use Rattle.network_nodes.specs.wire_laws.edge_routes.edge_home.Home.{Home, home_of}
use Rattle.network_nodes.proofs.wire_laws.SessionPairs.{is_among}
use Rattle.network_nodes.proofs.wire_laws.WayLemmas.{way_has}
use Rattle.network_acts.specs.control_plane.Acted.{IsIn, IsSome, IsWithin, Standing}
use Rattle.network_acts.specs.control_plane.Plane.{HasNode}
use Rattle.network_acts.specs.control_plane.PlaneView.{PlaneView}
use Rattle.network_acts.specs.control_plane.Queries.{HasEnds, HaveEnds, IsCoreThere, IsEdgeThere, IsNodeThere, node_place, without_copies}
use Rattle.network_acts.proofs.control_plane.DataLemmas.{data_same}
use Rattle.network_acts.proofs.control_plane.ListLemmas.{found}

-- ---- nodes

-- the node at a place of the plane is that of the network
pub there : (at : Standing) (n : NodeId) (plane : PlaneView) (node : NetworkNode) → IsWithin n at → IsIn at plane
    → slice_get plane.nodes n.0 ≡ Some node → IsNodeThere at n node
there at n plane node within is place =
    let has : HasNode at.network plane.nodes n [] = is.nodes n within in
    subst (IsNodeThere at n) (same_Some has.node node (sym has.at ∙ place))
    (record { placed = has.placed; unspent = has.unspent; keeps = data_same n at.network [] has.node has.is; is = has.is })

-- what stands at a place of the plane, if anything does, is the node of that number
pub found_at : (own now : PlaneView) → own ≡ now → (n : NodeId) (nodes : List NetworkNode) → nodes ≡ own.nodes → (place : ℕ) → place ≡ n.0
    → (r : Option (Bor NetworkNode)) → IsItemAt nodes place r
    → IfSome r (λ node. (at : Standing) → IsIn at now → IsNodeThere at n node.now)
found_at own now same n nodes are place number None item = tt
found_at own now same n nodes are place number (Some node) item = λ at is.
    let in_own : IsIn at own = subst (IsIn at) (sym same) is in
    let here : slice_get own.nodes n.0 ≡ Some node.now =
    (λ i. slice_get (sym are i) (sym number i)) ∙ slice_get_read nodes (length nodes) place node.now refl item.3.0 item.1 in
    there at n own node.now (subst (λ (k : ℕ). n.0 < k) in_own.around.count (slice_get_within own.nodes n.0 node.now here)) in_own here

-- and stands there
pub stands_at : (own now : PlaneView) → own ≡ now → (n : NodeId) (nodes : List NetworkNode) → nodes ≡ own.nodes → (place : ℕ) → place ≡ n.0
    → (r : Option (Bor NetworkNode)) → IsItemAt nodes place r
    → IfSome r (λ node. slice_get now.nodes n.0 ≡ Some node.now)
stands_at own now same n nodes are place number None item = tt
stands_at own now same n nodes are place number (Some node) item =
    subst (λ (plane : PlaneView). slice_get plane.nodes n.0 ≡ Some node.now) same
    ((λ i. slice_get (sym are i) (sym number i)) ∙ slice_get_read nodes (length nodes) place node.now refl item.3.0 item.1)

-- ---- edges and core nodes that are lent

module _ (n : NodeId) (network : OctetNetwork Nodes) where
  module _ (edge : EdgeView) (home : home_in edge ≡ home_of network.state.scenario n) where
    edge_waits : (state : AnyNode) → IsNode state (nodes.Edge edge) → IsNodeAt n network [] state → (kind : Kind) (peer : NodeId)
        → IsWay network.state.scenario (direction kind n peer) → octets_waiting edge kind peer ≡ []
    edge_waits (any.Edge state) is at kinds.Ldp peer way = sym ((is.parts no_core).label.waiting peer) ∙ at.waiting kinds.Ldp peer way
    edge_waits (any.Edge state) is at kinds.Bgp peer way =
        let has = way_has network.state.scenario kinds.Bgp n peer way in
        let scenario_is : (home_in edge).scenario ≡ network.state.scenario = ap (λ (h : Home). h.scenario) home in
        let me_is : (home_in edge).me ≡ n = ap (λ (h : Home). h.me) home in
        sym ((is.parts no_core).peers peer (subst (λ (s : Scenario). Among peer (edges s)) (sym scenario_is)
        (is_among network.state.scenario peer has.1))
        (λ same. has.2 (ap (λ (m : NodeId). m.0) (sym me_is ∙ sym same))))
        ∙ at.waiting kinds.Bgp peer way
    edge_waits (any.CoreNode state) is at kind peer way = absurd is

    edge_streams : (state : AnyNode) → IsNode state (nodes.Edge edge) → IsNodeAt n network [] state → (kind : Kind) (peer : NodeId)
        → stream_at edge.streams (session_with kind peer) ≡ network.stream (direction kind peer n)
    edge_streams (any.Edge state) is at kind peer =
        ap (λ (streams : FinMap peer_cmp Stream). stream_at streams (session_with kind peer)) (sym is.streams) ∙ at.streams kind peer
    edge_streams (any.CoreNode state) is at kind peer = absurd is

  core_waits : (core : CoreView) (state : AnyNode) → IsNode state (nodes.CoreNode core) → IsNodeAt n network [] state → (peer : NodeId)
      → IsWay network.state.scenario (direction kinds.Ldp n peer) → waiting_for core.labels.node.waiting peer ≡ []
  core_waits core (any.CoreNode state) is at peer way = ap (λ (s : CoreState). waiting_for s.node.waiting peer) is ∙ at.waiting peer way
  core_waits core (any.Edge state) is at peer way = absurd is

-- an edge of the plane is the edge there
pub edge_there : (at : Standing) (n : NodeId) (plane : PlaneView) (edge : EdgeView) → IsIn at plane → IsNodeThere at n (nodes.Edge edge)
    → IsEdgeThere at n edge
edge_there at n plane edge is there = record {
  home = there.placed.0 ∙ ap (λ (s : Scenario). home_of s n) is.around.scenario_is;
  unspent = there.unspent;
  keeps = there.keeps;
  waits = λ kind peer way. edge_waits n at.network edge there.placed.0 there.is.state there.is.is there.is.at kind peer
      (subst (λ (s : Scenario). IsWay s (direction kind n peer)) (sym is.around.scenario_is) way);
  streams = edge_streams n at.network edge there.placed.0 there.is.state there.is.is there.is.at;
  toward = there.is.toward;
}

-- a core node of the plane is the core node there
pub core_there : (at : Standing) (n : NodeId) (plane : PlaneView) (core : CoreView) → IsIn at plane → IsNodeThere at n (nodes.CoreNode core)
    → IsCoreThere at n core.labels
core_there at n plane core is there = record {
  place = there.placed.0 ∙ ap (λ (s : Scenario). node_place s n) is.around.scenario_is;
  unspent = there.unspent;
  keeps = there.keeps;
  waits = λ peer way. core_waits n at.network core there.is.state there.is.is there.is.at peer
      (subst (λ (s : Scenario). IsWay s (direction kinds.Ldp n peer)) (sym is.around.scenario_is) way);
  toward = there.is.toward;
}

-- ---- timers

sum_more : (f : NodeId → ℕ) (count : ℕ) → sum_by f (node_ids 0 (count + 1)) ≡ sum_by f (node_ids 0 count) + f (record { 0 = count })
sum_more f count =
    let n : NodeId = record { 0 = count } in
    ap (sum_by f) (sym (map-id (node_ids 0 (count + 1)))
    ∙ (made_of_more (λ m. m) count ∙ ap (λ (l : List NodeId). l ++ n ∷ []) (map-id (node_ids 0 count))))
    ∙ (sum_by-append f (node_ids 0 count) (n ∷ []) ∙ (let last = sum_by-cons f n [] in omega (arith, last)))

min_sum : (count due sum a b c : ℕ) → count ≡ min a most → due ≡ min b most → c ≡ a + b → sum ≡ min (count + due) most → sum ≡ min c most
min_sum count due sum a b c before here more summed = omega (arith, before, here, more, summed)

-- What is counted of the first so many nodes: in each network that the plane is, the timers that are due there.
abbrev pub AreDue : PlaneView → ℕ → ℕ → Type 0
AreDue plane place count = (at : Standing) → IsIn at plane → count ≡ min (sum_by (node_due at.network.state) (node_ids 0 place)) most

-- one node more
pub due_more : (plane : PlaneView) (place count due sum : ℕ) (node : NetworkNode) → place < length plane.nodes → node ≡ get_or plane.nodes place node
    → AreDue plane place count
    → (spent_in node ≡ None → (network : Nodes) (n : NodeId) → IsPlacedAt network.scenario n node → network.node n ≡ data_in node
    → network.clock ≡ plane.clock
    → due ≡ min (node_due network n) most)
    → sum ≡ min (count + due) most → AreDue plane (place + 1) sum
due_more plane place count due sum node below is counted asked summed at in_plane =
    let n : NodeId = record { 0 = place } in
    let within : IsWithin n at = subst (λ (k : ℕ). place < k) in_plane.around.count below in
    let has : HasNode at.network plane.nodes n [] = in_plane.nodes n within in
    let same : has.node ≡ node = sym (is ∙ found plane.nodes place has.node node has.at) in
    let own : IsNodeThere at n node = there at n plane node within in_plane (has.at ∙ ap (λ (x : NetworkNode). Some x) same) in
    let here : due ≡ min (node_due at.network.state n) most = asked own.unspent at.network.state n own.placed own.keeps in_plane.around.clock in
    let before : count ≡ min (sum_by (node_due at.network.state) (node_ids 0 place)) most = counted at in_plane in
    min_sum count due sum (sum_by (node_due at.network.state) (node_ids 0 place)) (node_due at.network.state n)
    (sum_by (node_due at.network.state) (node_ids 0 (place + 1))) before here
    (sum_more (node_due at.network.state) place) summed

-- all of them
pub all_due : (plane : PlaneView) (place count : ℕ) → place ≡ length plane.nodes → AreDue plane place count → (at : Standing) → IsIn at plane
    → count ≡ min (sum_by (node_due at.network.state) (all_nodes at.scenario)) most
all_due plane place count all counted at in_plane =
    counted at in_plane ∙ ap (λ (k : ℕ). min (sum_by (node_due at.network.state) (node_ids 0 k)) most) (all ∙ in_plane.around.count)

-- ---- sessions

-- both ends of a session at a place are nodes
pub ends_at : (sessions : List Session) (place : ℕ) (d : Session) (plane : PlaneView) → place < length sessions → IsSome (HaveEnds sessions) plane
    → IsSome (HasEnds (get_or sessions place d)) plane
ends_at sessions place d plane below (at, have, is) = (at, have place d below, is)

-- What is counted of the first so many sessions: in each network that the plane is, those that are not ready.
abbrev pub AreUnready : PlaneView → List Session → ℕ → ℕ → Type 0
AreUnready plane sessions place count =
    (at : Standing) → HaveEnds sessions at → IsIn at plane
    → count ≡ min (count_by (λ session. not (is_ready (without_copies at.network) session)) (take place sessions)) most
