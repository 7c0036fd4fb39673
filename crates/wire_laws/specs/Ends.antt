-- Which ends of sessions are up after an act of a node.
use Rattle.std.specs.Prelude.{◌≡◌, ℕ, ◌+◌, ◌==◌, ◌&&◌, ◌||◌, Bool, true, false, nat_le, None, Some, if◌then◌else◌}
use Rattle.std.specs.FinMap as maps
use Rattle.mv_base.specs.declared.ids.NodeId.{NodeId}
use Rattle.scenario_defs.specs.declared.event.Kind.{Kind}
use Rattle.scenario_defs.specs.declared.event.Kind.TheVariants as kinds
use Rattle.label_defs.specs.LabelData as labels
use Rattle.network_defs.specs.session_defs.Octets.{OctetNetwork}
use Rattle.edge_defs.specs.Edge.{EdgeData}
use Rattle.edge_defs.specs.Steps.{Call, Raised}
use Rattle.network_defs.specs.Nodes.{Nodes, NodeState, Edge, part_of}
use Rattle.wire_laws.specs.Edges.{begins}

-- whether an end comes up by the call
abbrev pub is_raise : Call → Bool
is_raise (Raised kind peer) = true
is_raise other = false

-- A raise over BGP is a call of an edge: a core node has no end over BGP.
abbrev pub HasCall : NodeId → OctetNetwork Nodes → Call → Type 0
HasCall n network call = (peer : NodeId) → call ≡ Raised kinds.Bgp peer → (edge : EdgeData) × (network.state.node n ≡ Edge edge)

-- whether the end of node m with the peer is up after a call of node n, by whether it was so before
abbrev pub end_after : NodeId → Call → Kind → NodeId → NodeId → Bool → Bool
end_after n call kind m peer old = if (m.0 == n.0) && begins call kind peer then is_raise call else old

-- whether the hold of the node's end over LDP with the peer was run
abbrev pub is_hold_run : NodeState → NodeId → Bool
is_hold_run node peer = labels.is_ready (part_of node) peer

-- the same after a call of node n that is none of its timers: an end that comes up has a hold to run, and one that is down has none
abbrev pub hold_after : NodeId → Call → NodeId → NodeId → Bool → Bool
hold_after n call m peer old = if (m.0 == n.0) && begins call kinds.Ldp peer then false else old

-- the same after the timers of the node: a hold that is due is run
abbrev pub hold_timed : ℕ → ℕ → NodeState → NodeId → Bool
hold_timed life now node peer = elim (maps.get (part_of node).ends peer) [
  | None ↦ false
  | Some end ↦ end.held || nat_le (end.raised + life + 1) now
]
