-- Where the sessions stand by the events and by the acts: alike at each session, also after a raise.
use Rattle.std.specs.Prelude.{if◌then◌else◌, find}
use Rattle.std.proofs.Common.{◌≡◌, ◌==◌, Bool, true, false, cond, ◌&&◌, ◌||◌, List, [], ◌∷◌, Option, Some, None, inl, inr, refl, sym, ap, ◌∙◌}
use Rattle.std.proofs.lemmas.Bool.{and_parts, or_parts, or_cases}
use Rattle.mv_base.specs.declared.ids.NodeId.{NodeId}
use Rattle.scenario_defs.specs.declared.event.Kind.{Kind}
use Rattle.scenario_defs.specs.declared.event.Kind.TheVariants as kinds
use Rattle.scenario_defs.specs.declared.scenario.Scenario.{Scenario}
use Rattle.network_defs.specs.mvpn_model.declared.readiness.UpEnd.{UpEnd}
use Rattle.label_defs.proofs.KeyLemmas.{node_equal}
use Rattle.network_defs.specs.mvpn_model.Sessions.{sessions}
use Rattle.network_defs.specs.mvpn_model.declared.session.Session.{Session}
use Rattle.scenario_defs.specs.Kinds.{same_kind}
use Rattle.network_defs.specs.Acts.{RaiseFirst, RaiseSecond, Notice}
use Rattle.network_defs.specs.Events.{is_session_of}
use Rattle.network_defs.specs.mvpn_model.Unready.{SessionsStand, is_that, raised}
use Rattle.network_defs.proofs.mvpn_model.SessionLemmas.{IsIn, other_order, one_kind}
use Rattle.network_laws.proofs.ready_laws.Ends.{new_end}
use Rattle.network_laws.proofs.ready_laws.ActsStand.{act_stand}

-- A session is joined in both or in neither, and the ends of a session over LDP are the same.
pub record AlikeAt (told standing : SessionsStand) (session : Session) : Type 0 where
  pub joined : told.joined session.kind session.a session.b ≡ standing.joined session.kind session.a session.b
  pub near : session.kind ≡ kinds.Ldp → told.end kinds.Ldp session.a session.b ≡ standing.end kinds.Ldp session.a session.b
  pub far : session.kind ≡ kinds.Ldp → told.end kinds.Ldp session.b session.a ≡ standing.end kinds.Ldp session.b session.a

-- The clock is the same, and each session of the scenario stands alike.
pub record Alike (scenario : Scenario) (told standing : SessionsStand) : Type 0 where
  pub clock : told.clock ≡ standing.clock
  pub each : (session : Session) → IsIn session (sessions scenario) → AlikeAt told standing session

-- ---- the session of two nodes

-- the session that is found is that of the two nodes
pub that_session : (kind : Kind) (a b : NodeId) (found : Session) → is_session_of kind a b found ≡ true → (own : Kind) (u n : NodeId)
    → is_that kind a b own u n ≡ is_that found.kind found.a found.b own u n
that_session kind a b found e own u n =
    let x = and_parts (same_kind kind found.kind) (((found.a.0 == a.0) && (found.b.0 == b.0)) || ((found.a.0 == b.0) && (found.b.0 == a.0))) e in
    let k = one_kind kind found.kind x.0 in
    elim (or_cases ((found.a.0 == a.0) && (found.b.0 == b.0)) ((found.a.0 == b.0) && (found.b.0 == a.0)) x.1) [
      | inl t ↦ (let y = and_parts (found.a.0 == a.0) (found.b.0 == b.0) t in
          λ i. is_that (k i) (sym (node_equal found.a a y.0) i) (sym (node_equal found.b b y.1) i) own u n)
      | inr t ↦ (let y = and_parts (found.a.0 == b.0) (found.b.0 == a.0) t in
          sym (other_order kind a b own u n) ∙ (λ i. is_that (k i) (sym (node_equal found.a b y.0) i) (sym (node_equal found.b a y.1) i) own u n))
    ]

pub found_passes : (test : Session → Bool) (all : List Session) (found : Session) → find test all ≡ Some found → test found ≡ true
found_passes test [] found e = absurd cc
found_passes test (first ∷ more) found e = by (test first) refl e (found_passes test more found)
  where
    by : (t : Bool) → test first ≡ t → (if t then Some first else find test more) ≡ Some found → (find test more ≡ Some found → test found ≡ true)
        → test found ≡ true
    by true is h later = (let same : first ≡ found = cc in ap test (sym same) ∙ is)
    by false is h later = later h

pub none_passes : (test : Session → Bool) (all : List Session) → find test all ≡ None → (session : Session) → IsIn session all → test session ≡ false
none_passes test [] e session h = absurd h
none_passes test (first ∷ more) e session h = by (test first) refl e (λ none later. none_passes test more none session later)
  where
    by : (t : Bool) → test first ≡ t → (if t then Some first else find test more) ≡ None
        → (find test more ≡ None → IsIn session more → test session ≡ false) → test session ≡ false
    by true is g thereafter = absurd cc
    by false is g thereafter = elim h [ inl same ↦ ap test same ∙ is | inr later ↦ thereafter g later ]

-- ---- a raise

-- Alike, but for the ends of a session that is raised.
pub record AlikeAway (kind : Kind) (a b : NodeId) (told standing : SessionsStand) (session : Session) : Type 0 where
  pub joined : told.joined session.kind session.a session.b ≡ standing.joined session.kind session.a session.b
  pub near : session.kind ≡ kinds.Ldp → is_that kind a b kinds.Ldp session.a session.b ≡ false
      → told.end kinds.Ldp session.a session.b ≡ standing.end kinds.Ldp session.a session.b
  pub far : session.kind ≡ kinds.Ldp → is_that kind a b kinds.Ldp session.b session.a ≡ false
      → told.end kinds.Ldp session.b session.a ≡ standing.end kinds.Ldp session.b session.a

pub alike_away : (kind : Kind) (a b : NodeId) (told standing : SessionsStand) (session : Session) → AlikeAt told standing session
    → AlikeAway kind a b told standing session
alike_away kind a b told standing session h = record { joined = h.joined; near = λ k e. h.near k; far = λ k e. h.far k }

pub same_both : (t : Bool) (old : Option UpEnd) → cond t old old ≡ old
same_both true old = refl
same_both false old = refl

-- both ends come up, one after the other
both_rise : (x y z w : Bool) (new old : Option UpEnd)
    → cond ((x && y) || (z && w)) new old ≡ cond z (cond w new (cond x (cond y new old) old)) (cond x (cond y new old) old)
both_rise true true true true new old = refl
both_rise true true true false new old = refl
both_rise true true false w new old = refl
both_rise true false true true new old = refl
both_rise true false true false new old = refl
both_rise true false false w new old = refl
both_rise false y true true new old = refl
both_rise false y true false new old = refl
both_rise false y false w new old = refl

risen : (t : Bool) (new next old before : Option UpEnd) → new ≡ next → (t ≡ false → old ≡ before) → cond t new old ≡ cond t next before
risen true new next old before e h = e
risen false new next old before e h = h refl

-- where the sessions stand after the two acts of a raise
abbrev pub raise_stand : Scenario → Kind → NodeId → NodeId → SessionsStand → SessionsStand
raise_stand scenario kind a b old = act_stand scenario (RaiseSecond kind a b) (act_stand scenario (RaiseFirst kind a b) old)

rise_end : (scenario : Scenario) (kind : Kind) (a b : NodeId) (told standing : SessionsStand) (m peer : NodeId) → told.clock ≡ standing.clock
    → (is_that kind a b kinds.Ldp m peer ≡ false → told.end kinds.Ldp m peer ≡ standing.end kinds.Ldp m peer)
    → (raised kind a b told).end kinds.Ldp m peer ≡ (raise_stand scenario kind a b standing).end kinds.Ldp m peer
rise_end scenario kinds.Ldp a b told standing m peer e h =
    let old = standing.end kinds.Ldp m peer in
    risen (is_that kinds.Ldp a b kinds.Ldp m peer) (Some (new_end told.clock)) (Some (new_end standing.clock)) (told.end kinds.Ldp m peer) old
    (λ i. Some (new_end (e i))) h
    ∙ both_rise (m.0 == a.0) (peer.0 == b.0) (m.0 == b.0) (peer.0 == a.0) (Some (new_end standing.clock)) old
rise_end scenario kinds.Bgp a b told standing m peer e h =
    let old = standing.end kinds.Ldp m peer in
    h refl ∙ sym (same_both (m.0 == a.0) old) ∙ sym (same_both (m.0 == b.0) (cond (m.0 == a.0) old old))

-- A raise covers what its ends were before.
pub raise_covers : (scenario : Scenario) (kind : Kind) (a b : NodeId) (told standing : SessionsStand) (session : Session)
    → told.clock ≡ standing.clock → AlikeAway kind a b told standing session
    → AlikeAt (raised kind a b told) (raise_stand scenario kind a b standing) session
raise_covers scenario kind a b told standing session e h =
    record {
      joined = ap (λ t. t || is_that kind a b session.kind session.a session.b) h.joined;
      near = λ k. rise_end scenario kind a b told standing session.a session.b e (h.near k);
      far = λ k. rise_end scenario kind a b told standing session.b session.a e (h.far k);
    }

-- ---- a notice before a raise

end_cut : (x y : Bool) (old : Option UpEnd) → (x && y) ≡ false → cond x (cond y None old) old ≡ old
end_cut true true old e = absurd cc
end_cut true false old e = refl
end_cut false y old e = refl

notice_end : (scenario : Scenario) (kind : Kind) (a b : NodeId) (standing : SessionsStand) (m peer : NodeId)
    → is_that kind a b kinds.Ldp m peer ≡ false → (act_stand scenario (Notice kind a b) standing).end kinds.Ldp m peer ≡ standing.end kinds.Ldp m peer
notice_end scenario kinds.Ldp a b standing m peer e =
    end_cut (m.0 == a.0) (peer.0 == b.0) (standing.end kinds.Ldp m peer)
    (or_parts ((m.0 == a.0) && (peer.0 == b.0)) ((m.0 == b.0) && (peer.0 == a.0)) e).0
notice_end scenario kinds.Bgp a b standing m peer e = same_both (m.0 == a.0) (standing.end kinds.Ldp m peer)

-- the first end of the session notices its loss
pub near_notices : (scenario : Scenario) (kind : Kind) (a b : NodeId) (told standing : SessionsStand) (session : Session)
    → AlikeAway kind a b told standing session → AlikeAway kind a b told (act_stand scenario (Notice kind a b) standing) session
near_notices scenario kind a b told standing session h =
    record {
      joined = h.joined;
      near = λ k e. h.near k e ∙ sym (notice_end scenario kind a b standing session.a session.b e);
      far = λ k e. h.far k e ∙ sym (notice_end scenario kind a b standing session.b session.a e);
    }

-- the second end
pub far_notices : (scenario : Scenario) (kind : Kind) (a b : NodeId) (told standing : SessionsStand) (session : Session)
    → AlikeAway kind a b told standing session → AlikeAway kind a b told (act_stand scenario (Notice kind b a) standing) session
far_notices scenario kind a b told standing session h =
    record {
      joined = h.joined;
      near = λ k e. h.near k e ∙ sym (notice_end scenario kind b a standing session.a session.b
          (other_order kind a b kinds.Ldp session.a session.b ∙ e));
      far = λ k e. h.far k e ∙ sym (notice_end scenario kind b a standing session.b session.a
          (other_order kind a b kinds.Ldp session.b session.a ∙ e));
    }
