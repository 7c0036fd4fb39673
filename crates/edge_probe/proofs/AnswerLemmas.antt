-- What an edge answers that was given lines, and what it does not.
use Rattle.std.specs.Option.{IsSome}
use Rattle.std.proofs.Common.{◌≡◌, ◌⊎◌, ℕ, ◌<◌, Bool, true, false, cond, not, List, [], ◌∷◌, ◌++◌, length, Option, Some, None, Ok, Err, inl, inr, refl, sym, ap, subst, ◌∙◌}
use Rattle.mv_base.specs.Address.{same_addr_equiv}
use Rattle.mv_base.specs.Lists.{Among}
use Rattle.mv_base.specs.core_walks.Topology.{Topology}
use Rattle.mv_base.specs.declared.addr.Addr.{Addr}
use Rattle.mv_base.specs.declared.ids.IfaceId.{IfaceId}
use Rattle.mv_base.specs.declared.ids.NodeId.{NodeId}
use Rattle.pim_joinprune.specs.declared.message.JoinPrune.{JoinPrune}
use Rattle.pim_joinprune.specs.Reading.{decoded}
use Rattle.network_defs.specs.session_defs.PeerSession.{PeerSession, fault_at}
use Rattle.edge_streams.specs.Streams.{told_fault}
use Rattle.edge_streams.specs.declared.reason.SessionReason.{SessionReason}
use Rattle.edge_core.specs.Answers.{spent_by}
use Rattle.edge_core.specs.Pim.{is_ours, is_over, refusal}
use Rattle.edge_core.specs.State.{home_of}
use Rattle.edge_core.specs.Taking.{IsSessionFault}
use Rattle.edge_core.specs.View.{EdgeView}
use Rattle.edge_core.specs.declared.fault.EdgeFault.{EdgeFault}
use Rattle.edge_core.specs.declared.fault.EdgeFault.TheVariants as faults
use Rattle.edge_core.specs.Pim.{AnswersPim}
use Rattle.edge_core.specs.Taking.{AnswersOctets}
use Rattle.mv_base.specs.Octets.{IsOctets}
use Rattle.bgp_messages.specs.declared.bgp_attributes.fault.StreamFault.{StreamFault}
use Rattle.edge_streams.specs.declared.reason.SessionReason.TheVariants as reasons
use Rattle.scenario_defs.specs.declared.event.JoinEntry.TheVariants.{Source}
use Rattle.pim_defs.specs.Single.{join_of}
use Rattle.network_defs.specs.mvpn_model.Messages.{own_addr}
use Rattle.probe_defs.specs.Given.{fault_in, peer_session}
use Rattle.probe_defs.specs.Lines.{joins_of, octets_of}
use Rattle.probe_defs.specs.declared.probe.ProbeLine.{ProbeLine}
use Rattle.probe_defs.specs.declared.probe.ProbeLine.TheVariants.{Join, Piece}
use Rattle.edge_probe.specs.Behind.{IsGiven, IsPeerFault, IsTold, stream_fault}
use Rattle.edge_probe.proofs.GivenLemmas.{both_octets, fits_join, fits_piece, has_room, never_lacks, next, none_given, none_some, told_given}

-- the fault of the session that was answered is the one that the stream has
pub session_of : (session : PeerSession) (new : EdgeView) (peer : NodeId) (place : ℕ) (reason : SessionReason)
    → Among (faults.Session peer place reason) (faults.NoLabel ∷ faults.NoMemory ∷ []) ⊎ IsSessionFault session new (faults.Session peer place reason)
    → told_fault (fault_at new.streams session) ≡ Some (place, reason)
session_of session new peer place reason (inl (inl e)) = absurd cc
session_of session new peer place reason (inl (inr (inl e))) = absurd cc
session_of session new peer place reason (inl (inr (inr e))) = absurd e
session_of session new peer place reason (inr is) =
    let places : place ≡ is.0 = (let e = is.2 in cc) in
    let own : reason ≡ is.1 = (let e = is.2 in cc) in
    is.3 ∙ λ i. Some (sym places i, sym own i)

-- a message for the interface itself, for which there is room, is not refused
pub not_refused : (old : EdgeView) (iface : IfaceId) (octets : List ℕ) (message : JoinPrune) (fault : EdgeFault) → decoded octets ≡ Ok message
    → is_ours (home_of old).scenario iface message ≡ true → is_over old 0 iface message ≡ false
    → refusal old 0 iface (decoded octets) ≡ Some fault → ⊥
not_refused old iface octets message fault read ours room refused =
    let none : refusal old 0 iface (decoded octets) ≡ None =
    ap (refusal old 0 iface) read
    ∙ ap (λ (b : Bool). cond (not b) (Some faults.NotOurs) (cond (is_over old 0 iface message) (Some faults.Full) None)) ours
    ∙ ap (λ (b : Bool). cond b (Some faults.Full) None) room in
    none_some fault (sym none ∙ refused)

-- a fault that is none of these two, and is no session's
no_session : (session : PeerSession) (new : EdgeView) (fault : EdgeFault)
    → ((peer : NodeId) (place : ℕ) (reason : SessionReason) → fault ≡ faults.Session peer place reason → ⊥) → (fault ≡ faults.NoLabel → ⊥)
    → (fault ≡ faults.NoMemory → ⊥)
    → Among fault (faults.NoLabel ∷ faults.NoMemory ∷ []) ⊎ IsSessionFault session new fault → ⊥
no_session session new fault other label memory (inl (inl e)) = label e
no_session session new fault other label memory (inl (inr (inl e))) = memory e
no_session session new fault other label memory (inl (inr (inr e))) = e
no_session session new fault other label memory (inr is) = other session.peer is.0 is.1 is.2

-- one of both, and not the first
pub memory_alone : (fault : EdgeFault) → Among fault (faults.NoLabel ∷ faults.NoMemory ∷ []) → (fault ≡ faults.NoLabel → ⊥) → fault ≡ faults.NoMemory
memory_alone fault (inl e) label = absurd (label e)
memory_alone fault (inr (inl e)) label = e
memory_alone fault (inr (inr e)) label = absurd e

module _ (core : Topology) (peer : NodeId) (done : List ProbeLine) (old : EdgeView) (g : IsGiven core peer done old) where
  -- ---- a join

  module _ (iface : IfaceId) (source group : Addr) (octets : List ℕ) (new : EdgeView)
      (read : decoded octets ≡ Ok (join_of (own_addr (home_of old).scenario iface) (Source source group))) where
    abbrev message : JoinPrune
    message = join_of (own_addr (home_of old).scenario iface) (Source source group)

    pub join_given : (done_it : Unit {0}) → AnswersPim core 0 iface octets old new (Ok done_it)
        → IsGiven core peer (done ++ Join iface source group ∷ []) new
    join_given done_it answers =
        let a = answers.answers message read in
        next core peer done old g (Join iface source group) new a.home a.goes_on (fits_join core peer done old g iface source group) a.made

    pub join_memory : (fault : EdgeFault) → length (joins_of done) < 1024 → AnswersPim core 0 iface octets old new (Err fault)
        → fault ≡ faults.NoMemory
    join_memory fault room answers = by fault answers
      where
        not_this : (fault : EdgeFault) → spent_by fault ≡ None → AnswersPim core 0 iface octets old new (Err fault) → ⊥
        not_this fault none answers =
            not_refused old iface octets message fault read (same_addr_equiv.refl (own_addr (home_of old).scenario iface))
            (has_room core peer done old g iface source group room) (answers.refused fault refl none).0

        by : (fault : EdgeFault) → AnswersPim core 0 iface octets old new (Err fault) → fault ≡ faults.NoMemory
        by faults.NoMemory answers = refl
        by faults.NoLabel answers =
            absurd (never_lacks core peer done old g (Join iface source group) (fits_join core peer done old g iface source group)
            ((answers.answers message read).lacks refl g.unspent))
        by faults.Full answers = absurd (not_this faults.Full refl answers)
        by faults.NotOurs answers = absurd (not_this faults.NotOurs refl answers)
        by (faults.Pim place own) answers = absurd (not_this (faults.Pim place own) refl answers)
        by (faults.Session other place reason) answers = absurd (not_this (faults.Session other place reason) refl answers)

  -- ---- octets

  module _ (piece : List ℕ) (octets : IsOctets piece) (new : EdgeView) where
    fits : IsOctets (octets_of (done ++ Piece piece ∷ []))
    fits = fits_piece core peer done old g piece (both_octets (octets_of done) piece g.octets octets)

    pub piece_told : (done_it : Unit {0}) → AnswersOctets core 0 (peer_session peer) piece old new (Ok done_it)
        → IsTold core peer (done ++ Piece piece ∷ []) None new
    piece_told done_it e =
        let own = next core peer done old g (Piece piece) new e.answers.home e.answers.goes_on fits e.answers.made in
        record { given = own; fault_is = sym (none_given core peer (done ++ Piece piece ∷ []) new own e.sound) }

    -- an edge that answers another fault than the two by which it is spent took the octets
    faulty_given : (fault : EdgeFault) → spent_by fault ≡ None → AnswersOctets core 0 (peer_session peer) piece old new (Err fault)
        → IsGiven core peer (done ++ Piece piece ∷ []) new
    faulty_given fault none e =
        let unspent : new.spent ≡ None = e.answers.spends fault refl g.unspent ∙ none in
        next core peer done old g (Piece piece) new e.answers.home unspent fits (e.taken fault refl g.unspent unspent)

    session_given : (other : NodeId) (place : ℕ) (reason : SessionReason)
        → AnswersOctets core 0 (peer_session peer) piece old new (Err (faults.Session other place reason))
        → (own : StreamFault) × (reason ≡ reasons.Bgp own) × (fault_in (octets_of (done ++ Piece piece ∷ [])) ≡ Some (place, own))
    session_given other place reason e =
        told_given core peer (done ++ Piece piece ∷ []) new (faulty_given (faults.Session other place reason) refl e) place reason
        (session_of (peer_session peer) new other place reason (e.only (faults.Session other place reason) refl))

    pub piece_fault : (fault : EdgeFault) → AnswersOctets core 0 (peer_session peer) piece old new (Err fault) → IsPeerFault fault
    piece_fault faults.NoMemory e = inl refl
    piece_fault faults.NoLabel e = absurd (never_lacks core peer done old g (Piece piece) fits (e.answers.lacks refl g.unspent))
    piece_fault faults.Full e =
        absurd (no_session (peer_session peer) new faults.Full (λ p q r h. absurd cc) (λ h. absurd cc) (λ h. absurd cc) (e.only faults.Full refl))
    piece_fault faults.NotOurs e =
        absurd (no_session (peer_session peer) new faults.NotOurs (λ p q r h. absurd cc) (λ h. absurd cc) (λ h. absurd cc)
        (e.only faults.NotOurs refl))
    piece_fault (faults.Pim place own) e =
        absurd (no_session (peer_session peer) new (faults.Pim place own) (λ p q r h. absurd cc) (λ h. absurd cc) (λ h. absurd cc)
        (e.only (faults.Pim place own) refl))
    piece_fault (faults.Session other place (reasons.Bgp own)) e = inr refl
    piece_fault (faults.Session other place (reasons.Ldp own)) e = let same = (session_given other place (reasons.Ldp own) e).1 in absurd cc

    pub first_told : (fault : EdgeFault) (first : Option (ℕ × StreamFault)) → AnswersOctets core 0 (peer_session peer) piece old new (Err fault)
        → first ≡ stream_fault fault → IsSome first
        → IsTold core peer (done ++ Piece piece ∷ []) first new
    first_told (faults.Session other place (reasons.Bgp own)) first e is some =
        let t = session_given other place (reasons.Bgp own) e in
        let same : own ≡ t.0 = (let h = t.1 in cc) in
        record {
          given = faulty_given (faults.Session other place (reasons.Bgp own)) refl e;
          fault_is =
              is ∙ ap (λ (f : StreamFault). Some (place, f)) same ∙ sym t.2;
        }
    first_told (faults.Session other place (reasons.Ldp own)) first e is some = let none : false ≡ true = subst IsSome is some in absurd cc
    first_told faults.NoMemory first e is some = let none : false ≡ true = subst IsSome is some in absurd cc
    first_told faults.NoLabel first e is some = let none : false ≡ true = subst IsSome is some in absurd cc
    first_told faults.Full first e is some = let none : false ≡ true = subst IsSome is some in absurd cc
    first_told faults.NotOurs first e is some = let none : false ≡ true = subst IsSome is some in absurd cc
    first_told (faults.Pim place own) first e is some = let none : false ≡ true = subst IsSome is some in absurd cc
