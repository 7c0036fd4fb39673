-- A core node as its callers see it, and a core node of the whole network.
use Rattle.std.specs.Prelude.{◌≡◌, ℕ, true, false, List, [], ◌∷◌, Option, None, Some}
use Rattle.std.specs.FinMap as maps
use Rattle.std.specs.FinMap.{FinMap}
use Rattle.mv_base.specs.declared.ids.NodeId.{NodeId}
use Rattle.mv_base.specs.core_walks.Core.{Core}
use Rattle.mv_base.specs.framing.Feed.{fed, unfed}
use Rattle.scenario_defs.specs.declared.event.Kind.TheVariants as kinds
use Rattle.label_defs.specs.Node.{LabelNode, NodePlace, Spent, called, fresh_node, handed_out, waiting_for}
use Rattle.label_defs.specs.Steps.{Call, Taken, Raised, Noticed}
use Rattle.network_defs.specs.session_defs.Message.{SessionFault, SessionMessage, Bgp, Label, front_of}
use Rattle.network_defs.specs.session_defs.Octets.{OctetNetwork, Stream}
use Rattle.network_defs.specs.session_defs.PeerSession.{PeerSession, fault_at, peer_cmp, stream_at}
use Rattle.network_defs.specs.session_defs.System.{Put, octets_over}
use Rattle.network_defs.specs.Counts.{direction}
use Rattle.network_defs.specs.Nodes.{Nodes, CoreNode}
use Rattle.edge_defs.specs.Steps as steps
use Rattle.wire_laws.specs.Edges.{IsWay, begins, session_with}

-- ---- a core node

-- its label part, with the octets that wait for its neighbours, and the streams of its sessions
pub record CoreState : Type 0 where
  pub node : LabelNode
  pub streams : FinMap peer_cmp Stream

-- the session with a neighbour
abbrev pub ldp_with : NodeId → PeerSession
ldp_with peer = session_with kinds.Ldp peer

-- nothing has happened yet, with so many labels
abbrev pub fresh_core : ℕ → CoreState
fresh_core count = record { node = fresh_node count; streams = maps.empty }

-- an end that comes up has a fresh stream, and one that notices a loss has none
abbrev pub streams_after : Call → FinMap peer_cmp Stream → FinMap peer_cmp Stream
streams_after (Raised peer) streams = maps.insert streams (ldp_with peer) unfed
streams_after (Noticed peer) streams = maps.remove streams (ldp_with peer)
streams_after other streams = streams

-- the node after a call, unless it is spent
abbrev pub core_called_unless : Option Spent → NodePlace → Core → ℕ → CoreState → Call → CoreState
core_called_unless None place core now old call = record { node = called place core now old.node call; streams = streams_after call old.streams }
core_called_unless (Some spent) place core now old call = old

abbrev pub core_called : NodePlace → Core → ℕ → CoreState → Call → CoreState
core_called place core now old call = core_called_unless old.node.spent place core now old call

-- the messages are taken one after another, each by a step; one of BGP changes nothing
abbrev pub core_all_taken : NodePlace → Core → ℕ → NodeId → List SessionMessage → CoreState → CoreState
core_all_taken place core now from [] old = old
core_all_taken place core now from (Bgp message ∷ more) old = core_all_taken place core now from more old
core_all_taken place core now from (Label message ∷ more) old = core_all_taken place core now from more (core_called place core now old (Taken from message))

-- The octets go to the session's stream, and the messages that are whole then are taken, those before its first fault too.
abbrev pub core_fed : NodePlace → Core → ℕ → NodeId → List ℕ → CoreState → CoreState
core_fed place core now from octets old =
    let new = fed (front_of kinds.Ldp) (stream_at old.streams (ldp_with from)) octets in
    core_all_taken place core now from new.waiting (record old { streams = maps.insert old.streams (ldp_with from) (record new { waiting = [] }) })

-- A stream that has had its first fault takes no more, and a node that is spent takes nothing.
abbrev pub core_took_unless : Option Spent → Option (ℕ × SessionFault) → NodePlace → Core → ℕ → NodeId → List ℕ → CoreState → CoreState
core_took_unless None None place core now from octets old = core_fed place core now from octets old
core_took_unless None (Some fault) place core now from octets old = old
core_took_unless (Some spent) fault place core now from octets old = old

abbrev pub core_took : NodePlace → Core → ℕ → NodeId → List ℕ → CoreState → CoreState
core_took place core now from octets old =
    core_took_unless old.node.spent (fault_at old.streams (ldp_with from)) place core now from octets old

-- nothing is left of what waits for the neighbour
abbrev pub core_handed_out : NodeId → CoreState → CoreState
core_handed_out peer old = record old { node = handed_out peer old.node }

-- ---- in the network

-- The core node is that of the network: it goes on and has that label part; what waits for each of its neighbours is what was put over the
-- session, and nothing was put over BGP; and its streams are those of the directions that lead to it.
pub record IsCoreAt (n : NodeId) (network : OctetNetwork Nodes) (puts : List Put) (core : CoreState) : Type 0 where
  pub node : network.state.node n ≡ CoreNode core.node.part
  pub unspent : core.node.spent ≡ None
  pub waiting : (peer : NodeId) → IsWay network.state.scenario (direction kinds.Ldp n peer) →
      waiting_for core.node.waiting peer ≡ octets_over (direction kinds.Ldp n peer) puts
  pub silent : (peer : NodeId) → octets_over (direction kinds.Bgp n peer) puts ≡ []
  pub streams : (peer : NodeId) → stream_at core.streams (ldp_with peer) ≡ network.stream (direction kinds.Ldp peer n)

-- The core node is that of the network before the call, as an edge is.
pub record IsCoreBefore (n : NodeId) (network : OctetNetwork Nodes) (call : steps.Call) (core : CoreState) : Type 0 where
  pub node : network.state.node n ≡ CoreNode core.node.part
  pub unspent : core.node.spent ≡ None
  pub waiting : (peer : NodeId) → IsWay network.state.scenario (direction kinds.Ldp n peer) → waiting_for core.node.waiting peer ≡ []
  pub streams : (peer : NodeId) → begins call kinds.Ldp peer ≡ false →
      stream_at core.streams (ldp_with peer) ≡ network.stream (direction kinds.Ldp peer n)
  pub begun : (peer : NodeId) → begins call kinds.Ldp peer ≡ true → network.stream (direction kinds.Ldp peer n) ≡ unfed
