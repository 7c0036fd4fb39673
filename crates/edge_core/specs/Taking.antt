-- What is answered where octets of a session are taken, and the messages that they spell.
use Rattle.std.specs.Prelude.{◌≡◌, ◌⊎◌, ℕ, List, [], ◌∷◌, None, Some, Result, Err, OnOk}
use Rattle.mv_base.specs.Lists.{Among}
use Rattle.mv_base.specs.declared.ids.NodeId.{NodeId}
use Rattle.mv_base.specs.core_walks.Core.{Core}
use Rattle.mv_base.specs.core_walks.Topology.{Topology}
use Rattle.network_defs.specs.session_defs.Message.{SessionMessage}
use Rattle.network_defs.specs.session_defs.PeerSession.{PeerSession, fault_at}
use Rattle.edge_routes.specs.edge_home.Home.{place_of}
use Rattle.network_defs.specs.node_defs.EdgeState.{EdgeState, all_taken, took}
use Rattle.edge_routing.specs.edge_streams.Streams.{told_fault}
use Rattle.edge_routing.specs.edge_streams.declared.reason.SessionReason.{SessionReason}
use Rattle.edge_core.specs.declared.fault.EdgeFault.{EdgeFault}
use Rattle.edge_core.specs.declared.fault.EdgeFault.TheVariants as faults
use Rattle.edge_core.specs.Answers.{Answers, Makes}
use Rattle.edge_core.specs.State.{home_of}
use Rattle.edge_core.specs.View.{EdgeView}

-- the messages from the peer are taken, one after another
abbrev pub taken_by : EdgeView → ℕ → NodeId → List SessionMessage → Core → EdgeState → EdgeState
taken_by edge now peer messages own state = all_taken (place_of (home_of edge) own) now peer messages state

-- the octets of the session are taken
abbrev pub took_by : EdgeView → ℕ → PeerSession → List ℕ → Core → EdgeState → EdgeState
took_by edge now session octets own state = took (place_of (home_of edge) own) now session octets state

-- an edge that is not spent by the fault: the first fault of the session's stream
abbrev pub IsSessionFault : PeerSession → EdgeView → EdgeFault → Type 0
IsSessionFault session edge fault =
    (place : ℕ) × (reason : SessionReason) × (fault ≡ faults.Session session.peer place reason)
    × (told_fault (fault_at edge.streams session) ≡ Some (place, reason))

-- What taking the octets answers and leaves. The octets are taken where the answer is Ok, and also where it is the first fault of the
-- session's stream: what the messages before it say stands.
pub record AnswersOctets (core : Topology) (now : ℕ) (session : PeerSession) (octets : List ℕ) (old new : EdgeView)
    (result : Result (Unit {0}) EdgeFault) : Type 0 where
  pub answers : Answers core (took_by old now session octets) old new result
  pub sound : OnOk result (fault_at new.streams session ≡ None)
  pub taken : (fault : EdgeFault) → result ≡ Err fault → old.spent ≡ None → new.spent ≡ None →
      Makes core (took_by old now session octets) old new
  pub only : (fault : EdgeFault) → result ≡ Err fault → Among fault (faults.NoLabel ∷ faults.NoMemory ∷ []) ⊎ IsSessionFault session new fault
