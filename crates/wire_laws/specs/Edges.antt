-- An edge of the whole network, as its callers have it.
use Rattle.std.specs.Prelude.{◌≡◌, ◌==◌, ◌&&◌, Bool, true, false, List, [], None}
use Rattle.mv_base.specs.framing.Feed.{unfed}
use Rattle.mv_base.specs.Lists.{Among}
use Rattle.mv_base.specs.declared.ids.NodeId.{NodeId}
use Rattle.scenario_defs.specs.Kinds.{same_kind}
use Rattle.scenario_defs.specs.declared.event.Kind.{Kind}
use Rattle.scenario_defs.specs.declared.scenario.Scenario.{Scenario}
use Rattle.network_defs.specs.session_defs.Octets.{OctetNetwork}
use Rattle.network_defs.specs.session_defs.PeerSession.{PeerSession, stream_at}
use Rattle.network_defs.specs.session_defs.System.{Put, octets_over}
use Rattle.network_defs.specs.declared.session_defs.direction.Direction.{Direction}
use Rattle.edge_defs.specs.Steps.{Call, Raised, Noticed}
use Rattle.network_defs.specs.node_defs.EdgeState.{EdgeState, waiting_at}
use Rattle.network_defs.specs.Counts.{direction, directions}
use Rattle.network_defs.specs.Nodes.{Nodes, Edge}

-- the session of a node with a peer
abbrev pub session_with : Kind → NodeId → PeerSession
session_with kind peer = record { kind = kind; peer = peer }

-- a direction of a session of the scenario
abbrev pub IsWay : Scenario → Direction → Type 0
IsWay scenario over = Among over (directions scenario)

-- The edge is that of the node in the network: it goes on and keeps the same; what waits for each of its sessions is what was put over it; and
-- its streams are those of the directions that lead to it.
pub record IsEdgeAt (n : NodeId) (network : OctetNetwork Nodes) (puts : List Put) (edge : EdgeState) : Type 0 where
  pub node : network.state.node n ≡ Edge edge.edge
  pub unspent : edge.spent ≡ None
  pub waiting : (kind : Kind) (peer : NodeId) → IsWay network.state.scenario (direction kind n peer) →
      waiting_at edge.waiting (session_with kind peer) ≡ octets_over (direction kind n peer) puts
  pub streams : (kind : Kind) (peer : NodeId) → stream_at edge.streams (session_with kind peer) ≡ network.stream (direction kind peer n)

-- whether the call begins a stream of the session: its end comes up, or notices the loss
abbrev pub begins : Call → Kind → NodeId → Bool
begins (Raised own from) kind peer = same_kind own kind && (from.0 == peer.0)
begins (Noticed own from) kind peer = same_kind own kind && (from.0 == peer.0)
begins other kind peer = false

-- The edge is that of the node before the call. The acts on sessions that come before a raise or a notice have begun its stream in the network
-- already, and the edge begins it in the call.
pub record IsEdgeBefore (n : NodeId) (network : OctetNetwork Nodes) (call : Call) (edge : EdgeState) : Type 0 where
  pub node : network.state.node n ≡ Edge edge.edge
  pub unspent : edge.spent ≡ None
  pub waiting : (kind : Kind) (peer : NodeId) → IsWay network.state.scenario (direction kind n peer) →
      waiting_at edge.waiting (session_with kind peer) ≡ []
  pub streams : (kind : Kind) (peer : NodeId) → begins call kind peer ≡ false →
      stream_at edge.streams (session_with kind peer) ≡ network.stream (direction kind peer n)
  pub begun : (kind : Kind) (peer : NodeId) → begins call kind peer ≡ true → network.stream (direction kind peer n) ≡ unfed
