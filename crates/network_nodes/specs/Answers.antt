-- What the calls of a node answer, and what they leave.
use Rattle.std.specs.Prelude.{◌≡◌, ◌⊎◌, ℕ, true, false, List, [], ◌∷◌, None, Some, Result, Ok, Err, OnOk}
use Rattle.mv_base.specs.Lists.{Among}
use Rattle.mv_base.specs.declared.ids.NodeId.{NodeId}
use Rattle.mv_base.specs.core_walks.Core.{IsCoreOf}
use Rattle.mv_base.specs.core_walks.Topology.{Topology}
use Rattle.label_defs.specs.Node.{Spent, LacksLabel}
use Rattle.scenario_defs.specs.declared.event.Kind.{Kind}
use Rattle.scenario_defs.specs.declared.scenario.Scenario.{Scenario}
use Rattle.edge_defs.specs.Steps.{Call}
use Rattle.network_defs.specs.Nodes.{Nodes, core_at}
use Rattle.network_defs.specs.Refusals.{control_of}
use Rattle.wire_laws.specs.AnyNodes.{AnyNode, node_after, node_taking, spent_of}
use Rattle.edge_streams.specs.Streams.{told_fault}
use Rattle.edge_streams.specs.declared.reason.SessionReason.{SessionReason}
use Rattle.edge_core.specs.Answers.{IsOneOf, OnTaken, fault_of, spent_by}
use Rattle.edge_core.specs.Calls.{is_full, refusals_of}
use Rattle.edge_core.specs.declared.fault.EdgeFault.{EdgeFault}
use Rattle.edge_core.specs.declared.fault.EdgeFault.TheVariants as faults
use Rattle.network_nodes.specs.declared.core_node.fault.CoreFault.{CoreFault}
use Rattle.network_nodes.specs.declared.core_node.fault.CoreFault.TheVariants as core_faults
use Rattle.mldp_node.specs.NodeData.{KeepsWaitingTowardRoots}
use Rattle.network_nodes.specs.NodeView.{IsNode, IsPlacedAt, data_in, labels_in, spent_in, stream_fault}
use Rattle.network_nodes.specs.declared.node.NetworkNode.{NetworkNode}
use Rattle.network_nodes.specs.declared.node.NetworkNode.TheVariants as nodes

-- The nodes of a network, of which this is the one of that number: it stands there, knows a core of this topology, and the clock is that.
pub record Stands (network : Nodes) (n : NodeId) (core : Topology) (now : ℕ) (node : NetworkNode) : Type 0 where
  pub placed : IsPlacedAt network.scenario n node
  pub known : IsCoreOf core.nodes core.links (core_at network n)
  pub clock : network.clock ≡ now

-- A step of the node of that number in a network.
abbrev pub NodeStep : Type 0
NodeStep = Nodes → NodeId → AnyNode → AnyNode

-- the step of a call, and that of octets that come over a session
abbrev pub after : Call → NodeStep
after call network n state = node_after network n state call

abbrev pub taking : Kind → NodeId → List ℕ → NodeStep
taking kind from octets network n state = node_taking network n state kind from octets

-- in each network in which it stands, the node of the definitions becomes this one by the step
abbrev pub Makes : Topology → ℕ → NodeStep → NetworkNode → NetworkNode → Type 0
Makes core now step old new =
    (network : Nodes) (n : NodeId) → Stands network n core now old → (state : AnyNode) → IsNode state old → IsNode (step network n state) new

-- in each such network it lacks a label after the step
abbrev pub Lacks : Topology → ℕ → NodeStep → NetworkNode → Type 0
Lacks core now step old =
    (network : Nodes) (n : NodeId) → Stands network n core now old → (state : AnyNode) → IsNode state old →
    spent_of (step network n state) ≡ Some LacksLabel

-- What a call answers and leaves. A spent node answers the same as before, and stays. Otherwise a node that answers Ok made the step.
-- `NoLabel` comes only where there is none; of want of memory no more is said than that the node is spent. Where each tree that waits for a
-- label did so towards its root, it does so still.
pub record Answers (core : Topology) (now : ℕ) (step : NodeStep) (old new : NetworkNode) (result : Result (Unit {0}) EdgeFault)
    : Type 0 where
  pub placed : (scenario : Scenario) (n : NodeId) → IsPlacedAt scenario n old → IsPlacedAt scenario n new
  pub before : (spent : Spent) → spent_in old ≡ Some spent → (result ≡ Err (fault_of spent)) × (new ≡ old)
  pub unspent : OnOk result (spent_in old ≡ None)
  pub made : OnOk result (Makes core now step old new)
  pub goes_on : OnOk result (spent_in new ≡ None)
  pub toward : spent_in new ≡ None → KeepsWaitingTowardRoots core (labels_in old) (labels_in new)
  pub lacks : result ≡ Err faults.NoLabel → spent_in old ≡ None → Lacks core now step old
  pub spends : (fault : EdgeFault) → result ≡ Err fault → spent_in old ≡ None → spent_in new ≡ spent_by fault

-- What a call of a customer answers and leaves. It is made where there is room, and labels run out only there; it is refused with no
-- change exactly where there is none.
pub record AnswersCall (core : Topology) (now : ℕ) (call : Call) (old new : NetworkNode) (result : Result (Unit {0}) EdgeFault) : Type 0 where
  pub answers : Answers core now (after call) old new result
  pub only : IsOneOf (refusals_of call) result
  pub fits : spent_in old ≡ None → OnTaken result (is_full (control_of (data_in old)) now call ≡ false)
  pub full : result ≡ Err faults.Full → (is_full (control_of (data_in old)) now call ≡ true) × (new ≡ old)

-- ---- octets

-- the fault is the first one of the session's stream
abbrev pub IsSessionFault : Kind → NodeId → NetworkNode → EdgeFault → Type 0
IsSessionFault kind from node fault =
    (place : ℕ) × (reason : SessionReason) × (fault ≡ faults.Session from place reason)
    × (told_fault (stream_fault node kind from) ≡ Some (place, reason))

-- What taking octets answers and leaves. They are taken where the answer is Ok, and also where it is the first fault of the session's
-- stream: what the messages before it say stands.
pub record AnswersOctets (core : Topology) (now : ℕ) (kind : Kind) (from : NodeId) (octets : List ℕ) (old new : NetworkNode)
    (result : Result (Unit {0}) EdgeFault) : Type 0 where
  pub answers : Answers core now (taking kind from octets) old new result
  pub sound : OnOk result (stream_fault new kind from ≡ None)
  pub taken : (fault : EdgeFault) → result ≡ Err fault → spent_in old ≡ None → spent_in new ≡ None →
      Makes core now (taking kind from octets) old new
  pub only : (fault : EdgeFault) → result ≡ Err fault →
      Among fault (faults.NoLabel ∷ faults.NoMemory ∷ []) ⊎ IsSessionFault kind from new fault

-- ---- answers of parts

-- what a node answers where its core node answers so
abbrev pub fault_as : CoreFault → EdgeFault
fault_as (core_faults.Session peer place reason) = faults.Session peer place reason
fault_as core_faults.NoLabel = faults.NoLabel
fault_as core_faults.NoMemory = faults.NoMemory

abbrev pub told_as : Result (Unit {0}) CoreFault → Result (Unit {0}) EdgeFault
told_as (Ok done) = Ok done
told_as (Err fault) = Err (fault_as fault)
