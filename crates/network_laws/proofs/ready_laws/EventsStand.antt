-- A raise, and `heal`, change alike where the sessions stand by the events and in the network.
use Rattle.std.specs.Prelude.{if◌then◌else◌, find}
use Rattle.std.proofs.Common.{◌≡◌, Bool, true, false, cond, ◌||◌, ◌++◌, List, [], ◌∷◌, Option, Some, None, inl, inr, refl, sym, ap, subst, ◌∙◌}
use Rattle.std.specs.List.{fold}
use Rattle.std.proofs.lemmas.Bool.{cond-false}
use Rattle.mv_base.specs.declared.ids.NodeId.{NodeId}
use Rattle.scenario_defs.specs.declared.event.Kind.{Kind}
use Rattle.scenario_defs.specs.declared.event.Kind.TheVariants as kinds
use Rattle.scenario_defs.specs.declared.scenario.Scenario.{Scenario}
use Rattle.network_defs.specs.mvpn_model.declared.readiness.UpEnd.{UpEnd}
use Rattle.network_defs.specs.mvpn_model.Sessions.{sessions}
use Rattle.network_defs.specs.mvpn_model.declared.session.Session.{Session}
use Rattle.network_defs.specs.Acts.{Act, Notice}
use Rattle.network_defs.specs.Counts.{is_joined, is_up}
use Rattle.network_defs.specs.Events.{Outcome, Done, row, each, raise_acts, is_session_of, raises, notices}
use Rattle.network_defs.specs.Events as by_acts
use Rattle.network_defs.specs.mvpn_model.Unready.{SessionsStand, is_that, raised, healed}
use Rattle.network_defs.specs.World.{World}
use Rattle.network_laws.proofs.ready_laws.ActsStand.{WorldStands}
use Rattle.network_laws.proofs.ready_laws.Outcomes.{Comes, then_comes, comes_as, acts_stand, row_comes}
use Rattle.network_defs.proofs.mvpn_model.SessionLemmas.{IsIn, other_way}
use Rattle.network_laws.proofs.ready_laws.Alike.{Alike, AlikeAway, that_session, found_passes, none_passes, alike_away, raise_stand, raise_covers, near_notices, far_notices}

-- The sessions of the world stand as the events tell.
pub record Tells (scenario : Scenario) (told : SessionsStand) (world : World) : Type 0 where
  pub standing : SessionsStand
  pub stands : WorldStands scenario standing world
  pub alike : Alike scenario told standing

-- after a row of acts
pub row_tells : (scenario : Scenario) (told standing : SessionsStand) (acts : List Act) (world : World) → WorldStands scenario standing world
    → Alike scenario told (acts_stand scenario acts standing) → Comes (Tells scenario told) (row acts world)
row_tells scenario told standing acts world s h =
    comes_as (WorldStands scenario (acts_stand scenario acts standing)) (Tells scenario told) (row acts world)
    (λ new p. record { standing = acts_stand scenario acts standing; stands = p; alike = h }) (row_comes scenario standing acts world s)

-- after acts that change nothing of it
pub still_tells : (scenario : Scenario) (told : SessionsStand) (o : Outcome) (world : World) → Tells scenario told world
    → ((standing : SessionsStand) → WorldStands scenario standing world → Comes (WorldStands scenario standing) o) → Comes (Tells scenario told) o
still_tells scenario told o world t h =
    comes_as (WorldStands scenario t.standing) (Tells scenario told) o (λ new p. record { standing = t.standing; stands = p; alike = t.alike })
    (h t.standing t.stands)

-- ---- raises

raise_alike : (scenario : Scenario) (told standing : SessionsStand) (kind : Kind) (a b : NodeId) (found : Session)
    → is_session_of kind a b found ≡ true → Alike scenario told standing
    → Alike scenario (raised kind a b told) (raise_stand scenario found.kind found.a found.b standing)
raise_alike scenario told standing kind a b found e h =
    let that = that_session kind a b found e in
    let new : Option UpEnd = Some (record { raised = told.clock; held = false }) in
    record {
      clock = h.clock;
      each = λ session is.
          let x = raise_covers scenario found.kind found.a found.b told standing session h.clock
          (alike_away found.kind found.a found.b told standing session (h.each session is)) in
          record {
            joined = ap (λ t. told.joined session.kind session.a session.b || t) (that session.kind session.a session.b) ∙ x.joined;
            near = λ k. ap (λ t. cond t new (told.end kinds.Ldp session.a session.b)) (that kinds.Ldp session.a session.b) ∙ x.near k;
            far = λ k. ap (λ t. cond t new (told.end kinds.Ldp session.b session.a)) (that kinds.Ldp session.b session.a) ∙ x.far k;
          };
    }

or_not : (t u : Bool) → u ≡ false → (t || u) ≡ t
or_not true false e = refl
or_not false false e = refl
or_not t true e = absurd cc

-- No session of the scenario is of the two nodes.
absent_alike : (scenario : Scenario) (told standing : SessionsStand) (kind : Kind) (a b : NodeId)
    → find (is_session_of kind a b) (sessions scenario) ≡ None → Alike scenario told standing → Alike scenario (raised kind a b told) standing
absent_alike scenario told standing kind a b none h =
    let new : Option UpEnd = Some (record { raised = told.clock; held = false }) in
    record {
      clock = h.clock;
      each = λ session is.
          let x = h.each session is in
          let other : is_that kind a b session.kind session.a session.b ≡ false =
          none_passes (is_session_of kind a b) (sessions scenario) none session is in
          let near : session.kind ≡ kinds.Ldp → is_that kind a b kinds.Ldp session.a session.b ≡ false =
          λ k. ap (λ own. is_that kind a b own session.a session.b) (sym k) ∙ other in
          record {
            joined = or_not (told.joined session.kind session.a session.b) (is_that kind a b session.kind session.a session.b) other ∙ x.joined;
            near = λ k. cond-false (is_that kind a b kinds.Ldp session.a session.b) new (told.end kinds.Ldp session.a session.b) (near k) ∙ x.near k;
            far = λ k. cond-false (is_that kind a b kinds.Ldp session.b session.a) new (told.end kinds.Ldp session.b session.a)
                (other_way kind a b kinds.Ldp session.a session.b ∙ near k) ∙ x.far k;
          };
    }

pub raise_tells : (scenario : Scenario) (told : SessionsStand) (world : World) (kind : Kind) (a b : NodeId) → Tells scenario told world
    → Comes (Tells scenario (raised kind a b told)) (row (raises (sessions scenario) kind a b) world)
raise_tells scenario told world kind a b t = by (find (is_session_of kind a b) (sessions scenario)) refl
  where
    by : (o : Option Session) → find (is_session_of kind a b) (sessions scenario) ≡ o
        → Comes (Tells scenario (raised kind a b told)) (row (elim o [ None ↦ [] | Some session ↦ raise_acts session ]) world)
    by None e = (refl, record { standing = t.standing; stands = t.stands; alike = absent_alike scenario told t.standing kind a b e t.alike })
    by (Some found) e =
        row_tells scenario (raised kind a b told) t.standing (raise_acts found) world t.stands
        (raise_alike scenario told t.standing kind a b found (found_passes (is_session_of kind a b) (sessions scenario) found e) t.alike)

-- ---- heal

-- the acts that raise a session again, by which of its ends are up
abbrev heal_acts : Session → Bool → Bool → List Act
heal_acts session near far =
    (if near then Notice session.kind session.a session.b ∷ [] else [])
    ++ ((if far then Notice session.kind session.b session.a ∷ [] else []) ++ raise_acts session)

heal_alike : (scenario : Scenario) (told standing : SessionsStand) (own : Session) (near far : Bool) → Alike scenario told standing
    → Alike scenario (raised own.kind own.a own.b told) (acts_stand scenario (heal_acts own near far) standing)
heal_alike scenario told standing own near far h = by near far
  where
    away : (session : Session) → IsIn session (sessions scenario) → AlikeAway own.kind own.a own.b told standing session
    away session is = alike_away own.kind own.a own.b told standing session (h.each session is)

    by : (p q : Bool) → Alike scenario (raised own.kind own.a own.b told) (acts_stand scenario (heal_acts own p q) standing)
    by false false =
        record { clock = h.clock; each = λ session is. raise_covers scenario own.kind own.a own.b told _ session h.clock (away session is) }
    by true false =
        record {
          clock = h.clock;
          each =
              λ session is. raise_covers scenario own.kind own.a own.b told _ session h.clock
              (near_notices scenario own.kind own.a own.b told standing session (away session is));
        }
    by false true =
        record {
          clock = h.clock;
          each =
              λ session is. raise_covers scenario own.kind own.a own.b told _ session h.clock
              (far_notices scenario own.kind own.a own.b told standing session (away session is));
        }
    by true true = record {
      clock = h.clock;
      each = λ session is. raise_covers scenario own.kind own.a own.b told _ session h.clock
          (far_notices scenario own.kind own.a own.b told _ session
          (near_notices scenario own.kind own.a own.b told standing session (away session is)));
    }

one_healed : (scenario : Scenario) (told : SessionsStand) (world : World) (own : Session) → IsIn own (sessions scenario) → Tells scenario told world
    → Comes (Tells scenario (healed told own)) (by_acts.healed own world)
one_healed scenario told world own is t =
    let same : is_joined world own ≡ told.joined own.kind own.a own.b = t.stands.joined own.kind own.a own.b ∙ sym (t.alike.each own is).joined in
    subst (λ (up : Bool). Comes (Tells scenario (if up then told else raised own.kind own.a own.b told)) (by_acts.healed own world)) same
    (by (is_joined world own))
  where
    by : (up : Bool) → Comes (Tells scenario (if up then told else raised own.kind own.a own.b told))
        (if up then Done [] world else row (notices world own own.a own.b ++ (notices world own own.b own.a ++ raise_acts own)) world)
    by true = (refl, t)
    by false =
        row_tells scenario (raised own.kind own.a own.b told) t.standing
        (heal_acts own (is_up world own.kind own.a own.b) (is_up world own.kind own.b own.a)) world t.stands
        (heal_alike scenario told t.standing own (is_up world own.kind own.a own.b) (is_up world own.kind own.b own.a) t.alike)

pub all_healed : (scenario : Scenario) (all : List Session) → ((session : Session) → IsIn session all → IsIn session (sessions scenario))
    → (told : SessionsStand) (world : World) → Tells scenario told world
    → Comes (Tells scenario (fold healed told all)) (each by_acts.healed all world)
all_healed scenario [] within told world t = (refl, t)
all_healed scenario (own ∷ more) within told world t =
    then_comes (Tells scenario (healed told own)) (Tells scenario (fold healed told (own ∷ more))) (by_acts.healed own world)
    (each by_acts.healed more)
    (one_healed scenario told world own (within own (inl refl)) t)
    (λ next p. all_healed scenario more (λ session is. within session (inr is)) (healed told own) next p)
