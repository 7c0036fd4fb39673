-- What is answered where octets of a session are taken, and the messages that they spell.
use Rattle.std.specs.Prelude.{◌≡◌, ◌⊎◌, ℕ, List, [], ◌∷◌, None, Some, Result, Err, OnOk}
use Rattle.mv_base.specs.Lists.{Among}
use Rattle.mv_base.specs.declared.ids.NodeId.{NodeId}
use Rattle.mv_base.specs.core_walks.Core.{Core}
use Rattle.mv_base.specs.core_walks.Topology.{Topology}
use Rattle.network_defs.specs.session_defs.Message.{SessionMessage}
use Rattle.network_defs.specs.session_defs.PeerSession.{fault_at}
use Rattle.edge_streams.specs.Streams.{told_fault}
use Rattle.edge_streams.specs.declared.reason.SessionReason.{SessionReason}
use Rattle.wire_laws.specs.CoreNodes.{CoreState, core_all_taken, core_took, ldp_with}
use Rattle.network_nodes.specs.declared.core_node.fault.CoreFault.{CoreFault}
use Rattle.network_nodes.specs.declared.core_node.fault.CoreFault.TheVariants as faults
use Rattle.network_nodes.specs.core_node.Answers.{Answers, Makes}
use Rattle.network_nodes.specs.core_node.View.{CoreView}

-- the messages from the neighbour are taken, one after another
abbrev pub taken_by : CoreView → ℕ → NodeId → List SessionMessage → Core → CoreState → CoreState
taken_by view now peer messages own state = core_all_taken view.labels.place own now peer messages state

-- the octets from the neighbour are taken
abbrev pub took_by : CoreView → ℕ → NodeId → List ℕ → Core → CoreState → CoreState
took_by view now peer octets own state = core_took view.labels.place own now peer octets state

-- the fault is the first one of the session's stream
abbrev pub IsSessionFault : NodeId → CoreView → CoreFault → Type 0
IsSessionFault peer view fault =
    (place : ℕ) × (reason : SessionReason) × (fault ≡ faults.Session peer place reason)
    × (told_fault (fault_at view.streams (ldp_with peer)) ≡ Some (place, reason))

-- What taking the octets answers and leaves. The octets are taken where the answer is Ok, and also where it is the first fault of the
-- session's stream: what the messages before it say stands.
pub record AnswersOctets (core : Topology) (now : ℕ) (peer : NodeId) (octets : List ℕ) (old new : CoreView)
    (result : Result (Unit {0}) CoreFault) : Type 0 where
  pub answers : Answers core (took_by old now peer octets) old new result
  pub sound : OnOk result (fault_at new.streams (ldp_with peer) ≡ None)
  pub taken : (fault : CoreFault) → result ≡ Err fault → old.labels.node.spent ≡ None → new.labels.node.spent ≡ None →
      Makes core (took_by old now peer octets) old new
  pub only : (fault : CoreFault) → result ≡ Err fault → Among fault (faults.NoLabel ∷ faults.NoMemory ∷ []) ⊎ IsSessionFault peer new fault
