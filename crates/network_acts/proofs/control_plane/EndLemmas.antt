-- The end of a session that a call of its node moves.
use Rattle.std.proofs.Common.{◌≡◌, ◌∙◌, refl, sym, ap, subst, ℕ, ◌<◌, ◌==◌, ◌&&◌, Bool, true, false, cond, List, [], length, get_or}
use Rattle.std.proofs.lemmas.Bool.{and_parts}
use Rattle.std.proofs.lemmas.Option.{same_Some}
use Rattle.mv_base.specs.declared.ids.NodeId.{NodeId}
use Rattle.label_defs.proofs.KeyLemmas.{node_equal, node_itself}
use Rattle.scenario_defs.specs.Kinds.{same_kind}
use Rattle.scenario_defs.specs.declared.event.Kind.{Kind}
use Rattle.scenario_defs.specs.declared.scenario.Scenario.{Scenario}
use Rattle.network_defs.specs.session_defs.Octets.{OctetNetwork}
use Rattle.network_defs.specs.session_defs.System.{Put}
use Rattle.network_defs.specs.declared.session_defs.direction.Direction.{Direction}
use Rattle.network_defs.proofs.session_defs.Lines.{own_direction}
use Rattle.edge_defs.specs.Steps.{Raised}
use Rattle.mvpn_model.proofs.SessionLemmas.{one_kind}
use Rattle.network_defs.specs.Counts.{direction, is_end_up}
use Rattle.network_defs.specs.Nodes.{NodeState, Nodes}
use Rattle.network_nodes.specs.wire_laws.AnyNodes as any
use Rattle.network_nodes.specs.wire_laws.AnyNodes.{AnyNode, IsNodeAt}
use Rattle.network_nodes.specs.wire_laws.Edges.{IsWay}
use Rattle.network_nodes.specs.wire_laws.Ends.{HasCall}
use Rattle.network_nodes.specs.NodeView.{IsNode, IsPlacedAt, MayBePeer, data_in}
use Rattle.network_nodes.specs.declared.node.NetworkNode.{NetworkNode}
use Rattle.network_nodes.specs.declared.node.NetworkNode.TheVariants as nodes
use Rattle.network_acts.specs.control_plane.Acted.{IsIn, IsSome, Standing}
use Rattle.network_acts.specs.control_plane.Plane.{HasNode}
use Rattle.network_acts.specs.control_plane.PlaneView.{PlaneView}
use Rattle.network_acts.proofs.control_plane.DataLemmas.{data_same}
use Rattle.network_acts.proofs.control_plane.OwnLemmas.{may_be, node_here}

-- ---- the direction that leads to the end

-- a session is that of its own peer
pub session_itself : (kind : Kind) (peer : NodeId) → (same_kind kind kind && (peer.0 == peer.0)) ≡ true
session_itself kind peer = (and_parts (same_kind kind kind && (peer.0 == peer.0)) (peer.0 == peer.0) (own_direction (direction kind peer peer))).0

pub session_is : (n : NodeId) (kind : Kind) (peer : NodeId) (own : Kind) (from : NodeId) → (same_kind kind own && (peer.0 == from.0)) ≡ true
    → direction own from n ≡ direction kind peer n
session_is n kind peer own from e =
    let parts = and_parts (same_kind kind own) (peer.0 == from.0) e in
    let same = one_kind kind own parts.0 in
    let other = node_equal peer from parts.1 in
    λ i. direction (sym same i) (sym other i) n

-- the direction that leads to the end of n of its session with the peer, and no other one
pub here_is : (n : NodeId) (kind : Kind) (peer : NodeId) (over : Direction)
    → ((over.to.0 == n.0) && (same_kind kind over.kind && (peer.0 == over.from.0))) ≡ true → over ≡ direction kind peer n
here_is n kind peer over e =
    let parts = and_parts (over.to.0 == n.0) (same_kind kind over.kind && (peer.0 == over.from.0)) e in
    ap (λ (to : NodeId). direction over.kind over.from to) (node_equal over.to n parts.0) ∙ session_is n kind peer over.kind over.from parts.1

pub here_itself : (n : NodeId) (kind : Kind) (peer : NodeId) (over : Direction) → over ≡ direction kind peer n
    → ((over.to.0 == n.0) && (same_kind kind over.kind && (peer.0 == over.from.0))) ≡ true
here_itself n kind peer over e =
    subst (λ (d : Direction). ((d.to.0 == n.0) && (same_kind kind d.kind && (peer.0 == d.from.0))) ≡ true) (sym e)
    (λ i. node_itself n n refl i && session_itself kind peer i)

-- what is so of the end that is moved and of every other one is so of each
pub end_cases : (P : Type 0) (here raise old new : Bool) → new ≡ cond here raise old → (here ≡ true → new ≡ raise → P)
    → (here ≡ false → new ≡ old → P) → P
end_cases P true raise old new e moved stays = moved refl e
end_cases P false raise old new e moved stays = stays refl e

-- ---- the node of the end

raise_at : (n : NodeId) (network : OctetNetwork Nodes) (puts : List Put) (state : AnyNode) (node : NetworkNode) (kind : Kind) (peer : NodeId)
    → IsNode state node → IsNodeAt n network puts state
    → MayBePeer node kind peer → HasCall n network (Raised kind peer)
raise_at n network puts (any.Edge state) (nodes.Edge edge) kind peer is at may other e = (state.edge, at.node)
raise_at n network puts (any.CoreNode state) (nodes.CoreNode core) kind peer is at may other e = absurd cc
raise_at n network puts (any.Edge state) (nodes.CoreNode core) kind peer is at may other e = absurd is
raise_at n network puts (any.CoreNode state) (nodes.Edge edge) kind peer is at may other e = absurd is

module _ (at : Standing) (plane : PlaneView) (is : IsIn at plane) (n : NodeId) (within : n.0 < length at.scenario.nodes) (kind : Kind) (peer : NodeId)
    (way : IsWay at.scenario (direction kind n peer)) where
  abbrev has : HasNode at.network plane.nodes n []
  has = is.nodes n within

  pub peer_in : MayBePeer has.node kind peer
  peer_in = may_be at.scenario n has.node (subst (λ (s : Scenario). IsPlacedAt s n has.node) is.around.scenario_is has.placed) kind peer way

  -- a raise over BGP is one of an edge
  pub raise_has : HasCall n at.network (Raised kind peer)
  raise_has = raise_at n at.network [] has.is.state has.node kind peer has.is.is has.is.at peer_in

-- the node at a place
module _ (Fits : Standing → Type 0) (n : NodeId) (below : (at : Standing) → Fits at → n.0 < length at.scenario.nodes) (plane : PlaneView)
    (some : IsSome Fits plane) (place : ℕ)
    (own : place ≡ n.0) (node d : NetworkNode) (is : node ≡ get_or plane.nodes place d) where
  abbrev there : HasNode some.0.network plane.nodes n []
  there = some.2.nodes n (below some.0 some.1)

  same_node : there.node ≡ node
  same_node = same_Some there.node node (sym there.at ∙ node_here Fits n below plane some place own node d is)

  pub peer_here : (kind : Kind) (peer : NodeId) → ((at : Standing) → Fits at → IsWay at.scenario (direction kind n peer)) → MayBePeer node kind peer
  peer_here kind peer way =
      subst (λ (x : NetworkNode). MayBePeer x kind peer) same_node (peer_in some.0 plane some.2 n (below some.0 some.1) kind peer (way some.0 some.1))

  pub down_here : (kind : Kind) (peer : NodeId) → ((at : Standing) → Fits at → is_end_up kind (at.network.state.node n) peer ≡ false)
      → is_end_up kind (data_in node) peer ≡ false
  down_here kind peer down =
      ap (λ (s : NodeState). is_end_up kind s peer) (sym (data_same n some.0.network [] there.node there.is ∙ ap data_in same_node))
      ∙ down some.0 some.1
