-- A node of the whole network, an edge or a core node, as its callers have it.
use Rattle.std.specs.Prelude.{◌≡◌, ◌++◌, ℕ, List, [], drop, Option, None, Some, if◌then◌else◌}
use Rattle.mv_base.specs.declared.ids.NodeId.{NodeId}
use Rattle.scenario_defs.specs.declared.event.Kind.{Kind}
use Rattle.scenario_defs.specs.declared.event.Kind.TheVariants as kinds
use Rattle.label_defs.specs.Node.{Spent}
use Rattle.label_defs.specs.Steps as labels
use Rattle.network_defs.specs.session_defs.Message.{SessionFault, same_direction}
use Rattle.network_defs.specs.session_defs.Octets.{OctetNetwork}
use Rattle.network_defs.specs.session_defs.PeerSession.{fault_at}
use Rattle.network_defs.specs.session_defs.System.{Behind, Put, octets_over}
use Rattle.network_defs.specs.declared.session_defs.direction.Direction.{Direction}
use Rattle.edge_defs.specs.Steps.{Call, own_label_call}
use Rattle.network_defs.specs.node_defs.EdgeState.{EdgeState, called, took}
use Rattle.node_laws.specs.Places.{node_place}
use Rattle.network_defs.specs.Nodes.{Nodes, core_at, following, place_of}
use Rattle.wire_laws.specs.CoreNodes.{CoreState, IsCoreAt, IsCoreBefore, core_called, core_took, ldp_with}
use Rattle.wire_laws.specs.Edges.{IsEdgeAt, IsEdgeBefore, session_with}

pub data AnyNode : Type 0 where
  Edge : (edge : EdgeState) → AnyNode
  CoreNode : (core : CoreState) → AnyNode

-- why the node is spent, if it is
abbrev pub spent_of : AnyNode → Option Spent
spent_of (Edge edge) = edge.spent
spent_of (CoreNode core) = core.node.spent

-- ---- calls and octets

-- a call that is none of the label part changes nothing at a core node
abbrev pub core_after : Nodes → NodeId → CoreState → Option labels.Call → CoreState
core_after nodes n core None = core
core_after nodes n core (Some own) = core_called (node_place nodes.scenario n) (core_at nodes n) nodes.clock core own

-- the node after a call of its own
abbrev pub node_after : Nodes → NodeId → AnyNode → Call → AnyNode
node_after nodes n (Edge edge) call = Edge (called (place_of nodes n) nodes.clock edge call)
node_after nodes n (CoreNode core) call = CoreNode (core_after nodes n core (own_label_call call))

-- a core node has no session over BGP
abbrev pub core_taking : Nodes → NodeId → CoreState → Kind → NodeId → List ℕ → CoreState
core_taking nodes n core kinds.Bgp from octets = core
core_taking nodes n core kinds.Ldp from octets = core_took (node_place nodes.scenario n) (core_at nodes n) nodes.clock from octets core

-- the node after octets that come from another over a session
abbrev pub node_taking : Nodes → NodeId → AnyNode → Kind → NodeId → List ℕ → AnyNode
node_taking nodes n (Edge edge) kind from octets = Edge (took (place_of nodes n) nodes.clock (session_with kind from) octets edge)
node_taking nodes n (CoreNode core) kind from octets = CoreNode (core_taking nodes n core kind from octets)

-- the first fault of the stream of a session, if there was one
abbrev pub node_fault : AnyNode → Kind → NodeId → Option (ℕ × SessionFault)
node_fault (Edge edge) kind from = fault_at edge.streams (session_with kind from)
node_fault (CoreNode core) kinds.Bgp from = None
node_fault (CoreNode core) kinds.Ldp from = fault_at core.streams (ldp_with from)

-- a core node has sessions over LDP alone
abbrev pub HasSessions : Kind → AnyNode → Type 0
HasSessions kind (Edge edge) = Unit {0}
HasSessions kind (CoreNode core) = kind ≡ kinds.Ldp

-- ---- in the network

-- the node is that of the network, and this is what it has put
abbrev pub IsNodeAt : NodeId → OctetNetwork Nodes → List Put → AnyNode → Type 0
IsNodeAt n network puts (Edge edge) = IsEdgeAt n network puts edge
IsNodeAt n network puts (CoreNode core) = IsCoreAt n network puts core

-- the node is that of the network, before the call
abbrev pub IsNodeBefore : NodeId → OctetNetwork Nodes → Call → AnyNode → Type 0
IsNodeBefore n network call (Edge edge) = IsEdgeBefore n network call edge
IsNodeBefore n network call (CoreNode core) = IsCoreBefore n network call core

-- the network once the node knows the present costs
abbrev pub with_known : NodeId → OctetNetwork Nodes → OctetNetwork Nodes
with_known n network = record network { state = following network.state n }

-- what is left in transit once the first so many octets over a direction are taken
abbrev pub rest_of : OctetNetwork Nodes → Direction → ℕ → Direction → List ℕ
rest_of network over count other = if same_direction other over then drop count (network.transit over) else network.transit other

-- ---- elsewhere

-- What an act of a node leaves, where these octets were in transit when it began: what is said of the whole network is the same, all
-- other nodes and the streams that lead to them are, and what the node puts goes after what is in transit, where the session is joined.
pub record IsElsewhere (n : NodeId) (old : OctetNetwork Nodes) (moving : Direction → List ℕ) (new : Behind (OctetNetwork Nodes)) : Type 0 where
  pub scenario : new.network.state.scenario ≡ old.state.scenario
  pub cores : new.network.state.cores ≡ old.state.cores
  pub links : new.network.state.links ≡ old.state.links
  pub known : (m : NodeId) → new.network.state.known m ≡ old.state.known m
  pub clock : new.network.state.clock ≡ old.state.clock
  pub nodes : (m : NodeId) → ¬ (m ≡ n) → new.network.state.node m ≡ old.state.node m
  pub streams : (over : Direction) → ¬ (over.to ≡ n) → new.network.stream over ≡ old.stream over
  pub joined : (over : Direction) → new.network.joined over ≡ old.joined over
  pub transit : (over : Direction) →
      new.network.transit over ≡ (if old.joined over then moving over ++ octets_over over new.puts else moving over)
  pub puts : (over : Direction) → ¬ (over.from ≡ n) → octets_over over new.puts ≡ []
