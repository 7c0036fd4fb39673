-- Streams of an edge, octets that it hands out, and messages that it takes.
use Rattle.std.proofs.Common.{◌≡◌, ◌≢◌, ◌∙◌, refl, sym, ap, ℕ, Bool, true, false, cond, List, [], ◌∷◌, Option, None, Some, arith}
use Rattle.std.specs.Cmp.{Equal-is}
use Rattle.std.specs.FinMap.{nat_cmp-IsAntisymmetric, slice_cmp-IsAntisymmetric}
use Rattle.std.specs.Ordering.{eq_by_cmp}
use Rattle.std.proofs.lemmas.Cmp.{eq_by_cmp_equiv}
use Rattle.mv_base.specs.declared.ids.NodeId.{NodeId}
use Rattle.scenario_defs.specs.declared.event.Kind.{Kind}
use Rattle.scenario_defs.specs.declared.event.Kind.TheVariants as kinds
use Rattle.label_defs.specs.Node.{Spent}
use Rattle.network_defs.specs.session_defs.Message.{SessionMessage, Bgp, Label}
use Rattle.network_defs.specs.session_defs.PeerSession.{PeerSession, kind_number, peer_cmp}
use Rattle.edge_defs.specs.Place.{EdgePlace}
use Rattle.edge_defs.specs.Steps.{Call, EdgeStepped, edge_step}
use Rattle.network_defs.specs.node_defs.EdgeState.{EdgeState, all_taken, thereafter, call_of, called, called_unless, handed, handed_out, handed_unless, prepared, stepped, stepped_unless, waiting_at}
use Rattle.node_laws.proofs.EdgeLemmas.{edge_called}
use Rattle.node_laws.proofs.OctetLemmas.{peer_total, waiting_less}

-- ---- streams

after_streams : (place : EdgePlace) (now : ℕ) (old : EdgeState) (new : Option EdgeStepped) → (thereafter place now old new).streams ≡ old.streams
after_streams place now old None = refl
after_streams place now old (Some new) = refl

pub unspent_streams : (place : EdgePlace) (now : ℕ) (call : Call) (old : EdgeState) → old.spent ≡ None
    → (called place now old call).streams ≡ (prepared call old).streams
unspent_streams place now call old e =
    ap (λ (x : EdgeState). x.streams) (edge_called place now call old (edge_step place now old.edge call) e refl)
    ∙ after_streams place now (prepared call old) (edge_step place now old.edge call)

pub spent_stays : (place : EdgePlace) (now : ℕ) (call : Call) (old : EdgeState) (cause : Spent) → old.spent ≡ Some cause
    → called place now old call ≡ old
spent_stays place now call old cause e = λ i. called_unless (e i) place now old call

-- ---- octets that are handed out

one_kind : (a b : Kind) → kind_number a ≡ kind_number b → a ≡ b
one_kind kinds.Bgp kinds.Bgp e = refl
one_kind kinds.Bgp kinds.Ldp e = absurd (omega (arith, e))
one_kind kinds.Ldp kinds.Bgp e = absurd (omega (arith, e))
one_kind kinds.Ldp kinds.Ldp e = refl

one_session : (a b : PeerSession) → eq_by_cmp peer_cmp a b ≡ true → a ≡ b
one_session a b h =
    let keys =
    slice_cmp-IsAntisymmetric nat_cmp-IsAntisymmetric (kind_number a.kind ∷ a.peer.0 ∷ []) (kind_number b.kind ∷ b.peer.0 ∷ [])
    ((Equal-is (peer_cmp a b)).0 h) in
    let number : kind_number a.kind ≡ kind_number b.kind = cc in
    let peer : a.peer.0 ≡ b.peer.0 = cc in
    let kind = one_kind a.kind b.kind number in
    λ i. record { kind = kind i; peer = record { 0 = peer i } }

pub none_left : (session : PeerSession) (old : EdgeState) → waiting_at (handed_out session old).waiting session ≡ []
none_left session old =
    waiting_less old.waiting session session
    ∙ ap (λ (b : Bool). cond b [] (waiting_at old.waiting session)) ((eq_by_cmp_equiv peer_total).refl session)

pub others_left : (session other : PeerSession) (old : EdgeState) → other ≢ session
    → waiting_at (handed_out session old).waiting other ≡ waiting_at old.waiting other
others_left session other old unequal = waiting_less old.waiting session other ∙ by (eq_by_cmp peer_cmp other session) refl
  where
    by : (b : Bool) → eq_by_cmp peer_cmp other session ≡ b → cond b [] (waiting_at old.waiting other) ≡ waiting_at old.waiting other
    by true e = absurd (unequal (one_session other session e))
    by false e = refl

pub unspent_hands : (session : PeerSession) (old : EdgeState) → old.spent ≡ None → handed session old ≡ waiting_at old.waiting session
unspent_hands session old e = λ i. handed_unless (e i) session old

pub spent_hands : (session : PeerSession) (old : EdgeState) (cause : Spent) → old.spent ≡ Some cause → handed session old ≡ []
spent_hands session old cause e = λ i. handed_unless (e i) session old

-- ---- messages that are taken

unprepared : (from : NodeId) (message : SessionMessage) (old : EdgeState) → prepared (call_of from message) old ≡ old
unprepared from (Bgp message) old = refl
unprepared from (Label message) old = refl

pub message_called : (place : EdgePlace) (now : ℕ) (from : NodeId) (message : SessionMessage) (old : EdgeState)
    → stepped place now old (call_of from message) ≡ called place now old (call_of from message)
message_called place now from message old = by old.spent refl
  where
    by : (spent : Option Spent) → old.spent ≡ spent
        → stepped_unless spent place now old (call_of from message) ≡ called_unless spent place now old (call_of from message)
    by None e =
        (λ i. stepped_unless (sym e i) place now old (call_of from message))
        ∙ ap (λ (x : EdgeState). stepped place now x (call_of from message)) (sym (unprepared from message old))
    by (Some cause) e = refl

pub spent_takes : (place : EdgePlace) (now : ℕ) (from : NodeId) (messages : List SessionMessage) (old : EdgeState) (cause : Spent)
    → old.spent ≡ Some cause → all_taken place now from messages old ≡ old
spent_takes place now from [] old cause e = refl
spent_takes place now from (message ∷ more) old cause e =
    ap (λ (x : EdgeState). all_taken place now from more x) (λ i. stepped_unless (e i) place now old (call_of from message))
    ∙ spent_takes place now from more old cause e
