-- The parts of a world that it lends, and what they are in the runs that it is after.
use Rattle.std.specs.Prelude.{◌≡◌, ◌↔◌, ◌==◌, ℕ, List, [], map, count_by, slice_get, None, Some}
use Rattle.std.specs.FinMap as maps
use Rattle.mv_base.specs.declared.ids.NodeId.{NodeId}
use Rattle.label_defs.specs.Node.{waiting_for}
use Rattle.scenario_defs.specs.declared.event.Kind.{Kind}
use Rattle.scenario_defs.specs.declared.event.Kind.TheVariants as kinds
use Rattle.scenario_defs.specs.declared.event.Timed.{Timed}
use Rattle.scenario_defs.specs.declared.scenario.Scenario.{Scenario}
use Rattle.mldp_node.specs.NodeData.{IsWaitingTowardRoots, NodeData}
use Rattle.network_defs.specs.Costs.{Cores}
use Rattle.network_defs.specs.Counts.{all_copies, direction}
use Rattle.network_defs.specs.Nodes.{CoreNode, Edge, core_at}
use Rattle.network_defs.specs.Run.{Traced}
use Rattle.network_defs.specs.World.{Datagram, World, numbered}
use Rattle.network_defs.specs.session_defs.PeerSession.{stream_at}
use Rattle.network_acts.specs.wire_laws.Edges.{IsWay, session_with}
pub use Rattle.network_acts.specs.Words.{EdgeView, IsLive, KeptCopy, data_of, held, home_in, home_of, kept_at, node_place, octets_waiting}
use Rattle.network_events.specs.Behind.{IsBehind}
use Rattle.network_events.specs.WorldView.{WorldView}

-- this holds in every run that the network is after, of its scenario and of the world of the definitions
abbrev pub InEachRun : WorldView → (Scenario → World → Type 0) → Type 0
InEachRun view Holds =
    (cores : Cores) (scenario : Scenario) (events : List Timed) (trace : List Traced) (world : World) →
    IsBehind cores scenario events trace world view → Holds scenario world

-- ---- nodes

-- The edge is that of the number in the scenario, goes on, and keeps what the world says of the node. No octets wait in it for any of its
-- sessions, since all are handed out in the act that puts them; and what it holds back of the stream of each session, how many octets came
-- before, and its first fault are those of the world. Each tree that waits there for a label does so towards its root, by the costs that
-- the edge has acted on.
pub record IsEdge (node : NodeId) (edge : EdgeView) (scenario : Scenario) (world : World) : Type 0 where
  pub home : home_in edge ≡ home_of scenario node
  pub unspent : edge.spent ≡ None
  pub keeps : world.network.state.node node ≡ Edge (data_of edge)
  pub waits : (kind : Kind) (peer : NodeId) → IsWay scenario (direction kind node peer) → octets_waiting edge kind peer ≡ []
  pub streams : (kind : Kind) (peer : NodeId) →
      stream_at edge.streams (session_with kind peer) ≡ world.network.stream (direction kind peer node)
  pub toward : IsWaitingTowardRoots (core_at world.network.state node) edge.labels

-- The label part is that of the core node of the number in the scenario, goes on, and is what the world says of the node. No octets wait in
-- it for any of its neighbours. Each tree that waits there for a label does so towards its root, by the costs that the node has acted on.
pub record IsCore (node : NodeId) (labels : NodeData) (scenario : Scenario) (world : World) : Type 0 where
  pub place : labels.place ≡ node_place scenario node
  pub unspent : labels.node.spent ≡ None
  pub keeps : world.network.state.node node ≡ CoreNode labels.node.part
  pub waits : (peer : NodeId) → IsWay scenario (direction kinds.Ldp node peer) → waiting_for labels.node.waiting peer ≡ []
  pub toward : IsWaitingTowardRoots (core_at world.network.state node) labels

-- ---- buffers

-- the copy, which names its buffer, is at that place of the way, counted from 0
abbrev pub IsCopyAt : WorldView → NodeId → NodeId → ℕ → KeptCopy → Type 0
IsCopyAt view from to place kept = slice_get (kept_at view.network.datagrams.copies from to) place ≡ Some kept

-- how many copies of the datagram of that number are on links
abbrev pub copies_of : ℕ → World → ℕ
copies_of number world = count_by (λ copy. copy.number == number) (all_copies world)

-- The buffer that the copy names is there: it has the octets of the copy's datagram, and counts the copies of that datagram on links.
pub record HasBuffer (world : World) (view : WorldView) (kept : KeptCopy) : Type 0 where
  pub datagram : Datagram
  pub is : numbered world.datagrams kept.copy.number ≡ Some datagram
  pub buffer : maps.get view.network.datagrams.copies.buffers kept.buffer ≡ Some (held datagram.octets (copies_of kept.copy.number world))

-- Some copy on a link names that buffer.
pub record IsNamed (view : WorldView) (name : ℕ) : Type 0 where
  pub from : NodeId
  pub to : NodeId
  pub place : ℕ
  pub kept : KeptCopy
  pub at : IsCopyAt view from to place kept
  pub names : kept.buffer ≡ name

-- The buffers are those of the copies on links. Each copy has its buffer; two copies name the same one exactly where they are of the same
-- datagram; and each buffer is named by a copy.
pub record IsPool (world : World) (view : WorldView) : Type 0 where
  pub copies : (from to : NodeId) → map (λ kept. kept.copy) (kept_at view.network.datagrams.copies from to) ≡ world.copies from to
  pub buffers : (from to : NodeId) (place : ℕ) (kept : KeptCopy) → IsCopyAt view from to place kept → HasBuffer world view kept
  pub shared : (from to other_from other_to : NodeId) (place other_place : ℕ) (kept other : KeptCopy) →
      IsCopyAt view from to place kept → IsCopyAt view other_from other_to other_place other →
      (kept.copy.number ≡ other.copy.number) ↔ (kept.buffer ≡ other.buffer)
  pub named : (name : ℕ) → IsLive view.network.datagrams.copies.buffers name → IsNamed view name
