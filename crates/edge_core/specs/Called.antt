-- An edge in the midst of a call: its customers' and its peers' part and its streams are after it, and its label part is not.
use Rattle.std.specs.Prelude.{◌≡◌, ◌<◌, ◌^◌, ℕ, length, Option, None, Result, Ok, Err, IfOk, option_map}
use Rattle.std.specs.FinMap.{FinMap}
use Rattle.mv_base.specs.declared.memory.NoMemory.{NoMemory}
use Rattle.mv_base.specs.core_walks.Core.{Core}
use Rattle.mv_base.specs.core_walks.Topology.{Topology}
use Rattle.label_defs.specs.Node.{Spent}
use Rattle.edge_defs.specs.Steps.{Call, own_label_call, raised_after}
use Rattle.mldp_node.specs.declared.fault.NodeFault.{NodeFault}
use Rattle.mldp_node.specs.NodeData.{cause}
use Rattle.network_defs.specs.node_defs.EdgeState.{EdgeState}
use Rattle.network_defs.specs.session_defs.Octets.{Stream}
use Rattle.network_defs.specs.session_defs.PeerSession.{peer_cmp}
use Rattle.edge_routing.specs.edge_labels.Calls.{MayMake, own_call}
use Rattle.edge_routing.specs.edge_labels.declared.own_call.OwnCall.{OwnCall}
use Rattle.edge_routing.specs.declared.routing.LeafCandidates.{LeafCandidates}
use Rattle.edge_routing.specs.Routing.{IsStepped}
use Rattle.edge_core.specs.declared.parts.Parts.{Parts}
use Rattle.edge_core.specs.declared.fault.EdgeFault.{EdgeFault}
use Rattle.edge_core.specs.Answers.{Answers, spent_by, step_of, streams_after}
use Rattle.edge_core.specs.State.{IsLive, home_of}
use Rattle.edge_core.specs.View.{EdgeView}

-- an edge of these parts that goes on
abbrev pub going : Parts → EdgeView
going parts = record { routing = parts.routing; labels = parts.labels; streams = parts.streams; raised = parts.raised; spent = None }

-- an edge of these parts, which is spent where it answered such a fault
abbrev pub seen : Parts → Option NodeFault → EdgeView
seen parts spent = record (going parts) { spent = option_map cause spent }

-- What a call asks of the parts that make it: the edge is not spent, the core has as many nodes as its scenario, and the clock is below 2^63.
pub record IsReady (core : Topology) (now : ℕ) (parts : Parts) : Type 0 where
  pub live : IsLive parts.routing parts.labels parts.streams
  pub nodes : core.nodes ≡ length parts.routing.control.home.scenario.nodes
  pub clock : now < 2 ^ 63

-- The call was made of what the edge keeps and sends its peers, of its streams, and of when its ends came up; and the label part is to
-- make its own call.
pub record IsMidway (core : Topology) (now : ℕ) (own : OwnCall) (call : Call) (old : EdgeView) (told : Result LeafCandidates NoMemory)
    (parts : Parts) : Type 0 where
  pub live : IsLive old.routing old.labels old.streams
  pub unspent : old.spent ≡ None
  pub nodes : core.nodes ≡ length (home_of old).scenario.nodes
  pub is_own : own_call own ≡ own_label_call call
  pub may : MayMake old.labels own
  pub labels : parts.labels ≡ old.labels
  pub streams : parts.streams ≡ streams_after call old.streams
  pub raised : parts.raised ≡ raised_after now old.raised call
  pub home : parts.routing.control.home ≡ home_of old
  pub stepped : IfOk told (IsStepped core now call old.routing parts.routing)

-- the parts with other streams
abbrev pub with_streams : FinMap peer_cmp Stream → Parts → Parts
with_streams streams parts = record parts { streams = streams }

-- A call is midway, whatever the streams of the parts are.
pub record IsCalled (core : Topology) (now : ℕ) (own : OwnCall) (told : Result LeafCandidates NoMemory) (parts : Parts) : Type 0 where
  pub call : Call
  pub old : EdgeView
  pub is : IsMidway core now own call old told (with_streams (streams_after call old.streams) parts)

-- an edge of these parts after an answer
abbrev pub spent_after : Result (Unit {0}) EdgeFault → Option Spent
spent_after (Ok done) = None
spent_after (Err fault) = spent_by fault

abbrev pub thereafter : Parts → Result (Unit {0}) EdgeFault → EdgeView
thereafter parts result = record (going parts) { spent = spent_after result }

-- What is answered and left where the edge is to make that step, by the parts after it. An edge that is not spent by the answer holds
-- together still.
pub record Settles (core : Topology) (step : Core → EdgeState → EdgeState) (old : EdgeView) (parts : Parts)
    (result : Result (Unit {0}) EdgeFault) : Type 0 where
  pub answers : Answers core step old (thereafter parts result) result
  pub live : spent_after result ≡ None → IsLive parts.routing parts.labels parts.streams

-- the same of a call
abbrev pub SettlesCall : Topology → ℕ → Call → EdgeView → Parts → Result (Unit {0}) EdgeFault → Type 0
SettlesCall core now call old parts result = Settles core (step_of old now call) old parts result
