-- After `heal`, `settle`, a tick of more than the life of a copy and `settle` each session stands ready.
use Rattle.std.specs.Prelude.{if◌then◌else◌}
use Rattle.std.proofs.Common.{◌≡◌, ◌<◌, ℕ, ◌+◌, ◌||◌, nat_le, Bool, true, false, cond, List, [], ◌∷◌, Option, Some, None, inl, inr, refl, sym, subst, ◌∙◌, arith}
use Rattle.std.specs.List.{fold}
use Rattle.std.proofs.lemmas.Bool.{or_left, or_right, le-leb}
use Rattle.mv_base.specs.declared.ids.NodeId.{NodeId}
use Rattle.scenario_defs.specs.declared.event.Event.TheVariants as events
use Rattle.scenario_defs.specs.declared.event.Kind.{Kind}
use Rattle.scenario_defs.specs.declared.event.Kind.TheVariants as kinds
use Rattle.scenario_defs.specs.declared.scenario.Scenario.{Scenario}
use Rattle.mvpn_model.specs.Sessions.{sessions}
use Rattle.mvpn_model.specs.declared.readiness.UpEnd.{UpEnd}
use Rattle.mvpn_model.specs.declared.session.Session.{Session}
use Rattle.mvpn_model.specs.Unready.{SessionsStand, hold_run, is_that, raised, healed, thereafter, is_held}
use Rattle.mvpn_model.proofs.SessionLemmas.{IsIn, other_way, own_session}
use Rattle.settle_laws.proofs.Raised.{IsUpBy, BothUp}

-- ---- heal

up_either : (now : ℕ) (t : Bool) (old : Option UpEnd) → (t ≡ false → IsUpBy now old)
    → IsUpBy now (cond t (Some (record { raised = now; held = false })) old)
up_either now true old h = omega arith
up_either now false old h = h refl

was_joined : (x t : Bool) → (x || t) ≡ true → t ≡ false → x ≡ true
was_joined true t e f = refl
was_joined false true e f = absurd cc
was_joined false false e f = e

-- A raise brings both its ends up, and leaves the others.
raised_up : (kind : Kind) (a b : NodeId) (old : SessionsStand) (u n : NodeId) → BothUp old u n → BothUp (raised kind a b old) u n
raised_up kind a b old u n up joined =
    let before : is_that kind a b kinds.Ldp u n ≡ false → old.joined kinds.Ldp u n ≡ true =
    was_joined (old.joined kinds.Ldp u n) (is_that kind a b kinds.Ldp u n) joined in (
      up_either old.clock (is_that kind a b kinds.Ldp u n) (old.end kinds.Ldp u n) (λ e. (up (before e)).0),
      up_either old.clock (is_that kind a b kinds.Ldp n u) (old.end kinds.Ldp n u)
          (λ e. (up (before (sym (other_way kind a b kinds.Ldp u n) ∙ e))).1),
    )

-- the session of two nodes is joined
abbrev IsJoined : SessionsStand → Session → Type 0
IsJoined standing session = standing.joined session.kind session.a session.b ≡ true

healed_up : (old : SessionsStand) (own : Session) (u n : NodeId) → BothUp old u n → BothUp (healed old own) u n
healed_up old own u n up = by (old.joined own.kind own.a own.b)
  where
    by : (t : Bool) → BothUp (if t then old else raised own.kind own.a own.b old) u n
    by true = up
    by false = raised_up own.kind own.a own.b old u n up

healed_stays : (old : SessionsStand) (own session : Session) → IsJoined old session → IsJoined (healed old own) session
healed_stays old own session joined = by (old.joined own.kind own.a own.b)
  where
    by : (t : Bool) → IsJoined (if t then old else raised own.kind own.a own.b old) session
    by true = joined
    by false = or_left (old.joined session.kind session.a session.b) (is_that own.kind own.a own.b session.kind session.a session.b) joined

healed_joins : (old : SessionsStand) (own : Session) → IsJoined (healed old own) own
healed_joins old own = by (old.joined own.kind own.a own.b) refl
  where
    by : (t : Bool) → old.joined own.kind own.a own.b ≡ t → IsJoined (if t then old else raised own.kind own.a own.b old) own
    by true e = e
    by false e = or_right (old.joined own.kind own.a own.b) (is_that own.kind own.a own.b own.kind own.a own.b) (own_session own)

all_up : (all : List Session) (old : SessionsStand) (u n : NodeId) → BothUp old u n → BothUp (fold healed old all) u n
all_up [] old u n up = up
all_up (own ∷ others) old u n up = all_up others (healed old own) u n (healed_up old own u n up)

all_stay : (all : List Session) (old : SessionsStand) (session : Session) → IsJoined old session → IsJoined (fold healed old all) session
all_stay [] old session joined = joined
all_stay (own ∷ others) old session joined = all_stay others (healed old own) session (healed_stays old own session joined)

all_join : (all : List Session) (old : SessionsStand) (session : Session) → IsIn session all → IsJoined (fold healed old all) session
all_join [] old session is = absurd is
all_join (own ∷ others) old session (inl e) =
    all_stay others (healed old own) session (subst (IsJoined (healed old own)) (sym e) (healed_joins old own))
all_join (own ∷ others) old session (inr is) = all_join others (healed old own) session is

-- ---- timers and time

-- an end is up, and came up at that clock or before, after the timers
run_up : (life clock now : ℕ) (o : Option UpEnd) → IsUpBy now o → IsUpBy now (elim o [ None ↦ None | Some end ↦ Some (hold_run life clock end) ])
run_up life clock now None up = absurd up
run_up life clock now (Some end) up = up

-- the timers run a hold that is due
run_held : (life before count : ℕ) (o : Option UpEnd) → life < count → IsUpBy before o
    → is_held (elim o [ None ↦ None | Some end ↦ Some (hold_run life (before + count) end) ]) ≡ true
run_held life before count None lt up = absurd up
run_held life before count (Some end) lt up =
    or_right end.held (nat_le (end.raised + life + 1) (before + count)) (le-leb (end.raised + life + 1) (before + count) (omega (arith, lt, up)))

-- Where the sessions stand after these events.
abbrev pub calmed : Scenario → ℕ → SessionsStand → SessionsStand
calmed scenario count old =
    thereafter scenario (thereafter scenario (thereafter scenario (thereafter scenario old events.Heal) events.Settle) (events.Tick count)) events.Settle

-- A session is joined, and the holds of both ends over LDP were run.
pub record StandsReady (standing : SessionsStand) (session : Session) : Type 0 where
  pub joined : standing.joined session.kind session.a session.b ≡ true
  pub near : session.kind ≡ kinds.Ldp → is_held (standing.end kinds.Ldp session.a session.b) ≡ true
  pub far : session.kind ≡ kinds.Ldp → is_held (standing.end kinds.Ldp session.b session.a) ≡ true

pub calmed_ready : (scenario : Scenario) (count : ℕ) (old : SessionsStand) → scenario.life < count → ((a b : NodeId) → BothUp old a b)
    → (session : Session) → IsIn session (sessions scenario) → StandsReady (calmed scenario count old) session
calmed_ready scenario count old lt up session is =
    let all = thereafter scenario old events.Heal in
    let joined = all_join (sessions scenario) old session is in
    let both : session.kind ≡ kinds.Ldp → IsUpBy all.clock (all.end kinds.Ldp session.a session.b)
    × IsUpBy all.clock (all.end kinds.Ldp session.b session.a) = λ k.
    all_up (sessions scenario) old session.a session.b (up session.a session.b)
    (subst (λ (kind : Kind). all.joined kind session.a session.b ≡ true) k joined) in
    record {
      joined = joined;
      near = λ k. run_held scenario.life all.clock count _ lt
          (run_up scenario.life all.clock all.clock (all.end kinds.Ldp session.a session.b) (both k).0);
      far = λ k. run_held scenario.life all.clock count _ lt
          (run_up scenario.life all.clock all.clock (all.end kinds.Ldp session.b session.a) (both k).1);
    }
