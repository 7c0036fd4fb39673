-- What is told of all sessions after events is told of one session by following it alone.
use Rattle.std.proofs.Common.{◌≡◌, ℕ, ◌+◌, ◌<◌, ◌≤◌, ◌^◌, ◌⊎◌, length, drop, get_or, add-one, drop-cons, arith, ◌==◌, ◌&&◌, ◌||◌, not, Bool, true, false, cond, List, [], ◌∷◌, map, filter, fold, Option, Some, refl, sym, ap, inl, inr, ◌∙◌}
use Rattle.std.proofs.Math.Bool.{or_comm, or-false}
use Rattle.std.proofs.lemmas.Bool.{and_parts, or_cases, or_right, cond_both, cond-true, cond-false, cases_Bool, false≢true}
use Rattle.std.proofs.lemmas.List.Sums.{sum_by-append}
use Rattle.mv_base.specs.declared.ids.NodeId.{NodeId}
use Rattle.scenario_defs.specs.declared.event.Kind.{Kind}
use Rattle.scenario_defs.specs.declared.event.Kind.TheVariants as kinds
use Rattle.scenario_defs.specs.declared.event.Event.{Event}
use Rattle.scenario_defs.specs.declared.event.Event.TheVariants as events
use Rattle.scenario_defs.specs.declared.event.Timed.{Timed}
use Rattle.scenario_defs.specs.declared.scenario.Scenario.{Scenario}
use Rattle.scenario_defs.specs.Kinds.{same_kind}
use Rattle.mvpn_model.specs.declared.readiness.UpEnd.{UpEnd}
use Rattle.label_forwarding.proofs.label_defs.KeyLemmas.{node_equal}
use Rattle.mvpn_model.specs.declared.session.Session.{Session}
use Rattle.mvpn_model.specs.declared.readiness.SessionStands.{SessionStands}
use Rattle.mvpn_model.specs.Past.{Past, is_accepted, ticks_of, ticks_in}
use Rattle.mvpn_model.specs.Sessions.{edges, bgp_sessions, ldp_session, sessions}
use Rattle.mvpn_model.specs.Unready.{SessionsStand, none_joined, is_that, raised, healed, thereafter, sessions_stand, is_held, is_ready_in, unready_after}
use Rattle.mvpn_model.specs.OneSession.{raised_one, thereafter_one, after_one, is_ready_one, unready_among}
use Rattle.mvpn_model.proofs.SessionLemmas.{other_way, one_kind, own_session, IsIn, count_alike}

-- what of all sessions concerns one
abbrev pub seen : Session → SessionsStand → SessionStands
seen session all = record {
  clock = all.clock;
  joined = all.joined session.kind session.a session.b;
  near = all.end session.kind session.a session.b;
  far = all.end session.kind session.b session.a;
}

-- ---- either node may be named first

-- A session is joined whichever of its nodes is named first.
abbrev pub IsEven : SessionsStand → Type 0
IsEven standing = (kind : Kind) (a b : NodeId) → standing.joined kind a b ≡ standing.joined kind b a

raised-even : (kind : Kind) (a b : NodeId) (old : SessionsStand) → IsEven old → IsEven (raised kind a b old)
raised-even kind a b old h own u n = λ i. h own u n i || sym (other_way kind a b own u n) i

healed-even : (old : SessionsStand) (session : Session) → IsEven old → IsEven (healed old session)
healed-even old session h =
    cond_both (old.joined session.kind session.a session.b) old (raised session.kind session.a session.b old) IsEven (λ t. h)
    (λ f. raised-even session.kind session.a session.b old h)

all_healed-even : (all : List Session) (old : SessionsStand) → IsEven old → IsEven (fold healed old all)
all_healed-even [] old h = h
all_healed-even (session ∷ more) old h = all_healed-even more (healed old session) (healed-even old session h)

after-even : (scenario : Scenario) (old : SessionsStand) (event : Event) → IsEven old → IsEven (thereafter scenario old event)
after-even scenario old (events.Raise kind a b) h = raised-even kind a b old h
after-even scenario old events.Heal h = all_healed-even (sessions scenario) old h
after-even scenario old (events.Lose kind a b) h = λ own u n i. h own u n i && not (sym (other_way kind a b own u n) i)
after-even scenario old (events.Restart node) h = λ own u n i. h own u n i && not (or_comm (u.0 == node.0) (n.0 == node.0) i)
after-even scenario old other h = h

-- ---- raises

-- A raise of a session's nodes raises it, and that of any others leaves it as it was.
seen-raised : (kind : Kind) (a b : NodeId) (old : SessionsStand) (session : Session) (b1 : Bool)
    → is_that kind a b session.kind session.a session.b ≡ b1
    → seen session (raised kind a b old) ≡ cond b1 (raised_one (seen session old)) (seen session old)
seen-raised kind a b old session true e =
    let fresh : Option UpEnd = Some (record { raised = old.clock; held = false }) in
    let there = other_way kind a b session.kind session.a session.b ∙ e in
    let joined = or_right (old.joined session.kind session.a session.b) (is_that kind a b session.kind session.a session.b) e in
    let near = cond-true (is_that kind a b session.kind session.a session.b) fresh (old.end session.kind session.a session.b) e in
    let far = cond-true (is_that kind a b session.kind session.b session.a) fresh (old.end session.kind session.b session.a) there in
    λ i. record { clock = old.clock; joined = joined i; near = near i; far = far i }
seen-raised kind a b old session false e =
    let fresh : Option UpEnd = Some (record { raised = old.clock; held = false }) in
    let there = other_way kind a b session.kind session.a session.b ∙ e in
    let joined = ap (λ t. old.joined session.kind session.a session.b || t) e ∙ or-false (old.joined session.kind session.a session.b) in
    let near = cond-false (is_that kind a b session.kind session.a session.b) fresh (old.end session.kind session.a session.b) e in
    let far = cond-false (is_that kind a b session.kind session.b session.a) fresh (old.end session.kind session.b session.a) there in
    λ i. record { clock = old.clock; joined = joined i; near = near i; far = far i }

-- Sessions of the same nodes are joined alike.
same-joined : (old : SessionsStand) → IsEven old → (other session : Session)
    → is_that other.kind other.a other.b session.kind session.a session.b ≡ true
    → old.joined other.kind other.a other.b ≡ old.joined session.kind session.a session.b
same-joined old even other session e =
    let parts =
    and_parts (same_kind other.kind session.kind)
    (((session.a.0 == other.a.0) && (session.b.0 == other.b.0)) || ((session.a.0 == other.b.0) && (session.b.0 == other.a.0))) e in
    let kind = one_kind other.kind session.kind parts.0 in
    elim (or_cases ((session.a.0 == other.a.0) && (session.b.0 == other.b.0)) ((session.a.0 == other.b.0) && (session.b.0 == other.a.0)) parts.1) [
      | inl t ↦ (let y = and_parts (session.a.0 == other.a.0) (session.b.0 == other.b.0) t in
          λ i. old.joined (kind i) (sym (node_equal session.a other.a y.0) i) (sym (node_equal session.b other.b y.1) i))
      | inr t ↦ (let y = and_parts (session.a.0 == other.b.0) (session.b.0 == other.a.0) t in
          even other.kind other.a other.b ∙ (λ i. old.joined (kind i) (sym (node_equal session.a other.b y.0) i)
          (sym (node_equal session.b other.a y.1) i)))
    ]

-- whether the nodes of the one are those of the other
abbrev is_same : Session → Session → Bool
is_same other session = is_that other.kind other.a other.b session.kind session.a session.b

-- Where the nodes of another session are healed, a session of other nodes stays as it was.
healed-other : (old : SessionsStand) (other session : Session) → is_same other session ≡ false → seen session (healed old other) ≡ seen session old
healed-other old other session e =
    cond_both (old.joined other.kind other.a other.b) old (raised other.kind other.a other.b old) (λ new. seen session new ≡ seen session old)
    (λ t. refl) (λ f. seen-raised other.kind other.a other.b old session false e)

-- A session that is joined stays as it was, whatever is healed.
healed-joined_one : (old : SessionsStand) → IsEven old → (other session : Session) → old.joined session.kind session.a session.b ≡ true
    → seen session (healed old other) ≡ seen session old
healed-joined_one old even other session j = elim (cases_Bool (is_same other session)) [
  | inl same ↦
      ap (seen session) (cond-true (old.joined other.kind other.a other.b) old (raised other.kind other.a other.b old)
      (same-joined old even other session same ∙ j))
  | inr apart ↦ healed-other old other session apart
]

healed-joined : (all : List Session) (old : SessionsStand) → IsEven old → (session : Session) → old.joined session.kind session.a session.b ≡ true
    → seen session (fold healed old all) ≡ seen session old
healed-joined [] old even session j = refl
healed-joined (other ∷ more) old even session j =
    let one = healed-joined_one old even other session j in
    healed-joined more (healed old other) (healed-even old other even) session (ap (λ (stands : SessionStands). stands.joined) one ∙ j) ∙ one

-- A session of the list that is not joined is raised once.
healed-raised : (all : List Session) (old : SessionsStand) → IsEven old → (session : Session) → IsIn session all
    → old.joined session.kind session.a session.b ≡ false
    → seen session (fold healed old all) ≡ raised_one (seen session old)
healed-raised [] old even session is j = absurd is
healed-raised (other ∷ more) old even session is j = elim (cases_Bool (is_same other session)) [
  | inl same ↦
      (let one : seen session (healed old other) ≡ raised_one (seen session old) =
      ap (seen session) (cond-false (old.joined other.kind other.a other.b) old (raised other.kind other.a other.b old)
      (same-joined old even other session same ∙ j))
      ∙ seen-raised other.kind other.a other.b old session true same in
      healed-joined more (healed old other) (healed-even old other even) session (ap (λ (stands : SessionStands). stands.joined) one) ∙ one)
  | inr apart ↦
      (let one = healed-other old other session apart in
      healed-raised more (healed old other) (healed-even old other even) session (after_first is apart)
      (ap (λ (stands : SessionStands). stands.joined) one ∙ j) ∙ ap raised_one one)
]
  where
    after_first : (session ≡ other) ⊎ IsIn session more → is_same other session ≡ false → IsIn session more
    after_first (inl e) apart = absurd (false≢true (sym apart ∙ (ap (λ (x : Session). is_same x session) (sym e) ∙ own_session session)))
    after_first (inr h) apart = h

-- A session of the list is raised where it is not joined.
seen-healed : (all : List Session) (old : SessionsStand) → IsEven old → (session : Session) → IsIn session all
    → seen session (fold healed old all) ≡ cond (not (old.joined session.kind session.a session.b)) (raised_one (seen session old)) (seen session old)
seen-healed all old even session is =
    elim (cases_Bool (old.joined session.kind session.a session.b)) [
      | inl t ↦ healed-joined all old even session t ∙ ap (λ b. cond (not b) (raised_one (seen session old)) (seen session old)) (sym t)
      | inr f ↦ healed-raised all old even session is f ∙ ap (λ b. cond (not b) (raised_one (seen session old)) (seen session old)) (sym f)
    ]

-- ---- events

seen-after : (scenario : Scenario) (session : Session) → IsIn session (sessions scenario) → (old : SessionsStand) → IsEven old → (event : Event)
    → seen session (thereafter scenario old event) ≡ thereafter_one scenario.life session (seen session old) event
seen-after scenario session is old even (events.Raise kind a b) =
    seen-raised kind a b old session (is_that kind a b session.kind session.a session.b) refl
seen-after scenario session is old even events.Heal = seen-healed (sessions scenario) old even session is
seen-after scenario session is old even other = refl

seen-all : (scenario : Scenario) (refused : List ℕ) (session : Session) → IsIn session (sessions scenario)
    → (timeds : List Timed) (old : SessionsStand) → IsEven old
    → seen session (fold (thereafter scenario) old (map (λ timed. timed.event) (filter (is_accepted refused) timeds)))
    ≡ fold (after_one scenario.life refused session) (seen session old) timeds
seen-all scenario refused session is [] old even = refl
seen-all scenario refused session is (timed ∷ more) old even =
    by (is_accepted refused timed) (seen-all scenario refused session is more (thereafter scenario old timed.event)
    (after-even scenario old timed.event even)) (seen-all scenario refused session is more old even)
  where
    by : (b : Bool)
        → seen session (fold (thereafter scenario) (thereafter scenario old timed.event) (map (λ t. t.event) (filter (is_accepted refused) more)))
        ≡ fold (after_one scenario.life refused session) (seen session (thereafter scenario old timed.event)) more
        → seen session (fold (thereafter scenario) old (map (λ t. t.event) (filter (is_accepted refused) more)))
        ≡ fold (after_one scenario.life refused session) (seen session old) more
        → seen session (fold (thereafter scenario) old (map (λ t. t.event)
        (cond b (timed ∷ filter (is_accepted refused) more) (filter (is_accepted refused) more))))
        ≡ fold (after_one scenario.life refused session) (cond b (thereafter_one scenario.life session (seen session old) timed.event) (seen session old))
        more
    by true there here =
        there ∙ ap (λ (stands : SessionStands). fold (after_one scenario.life refused session) stands more)
        (seen-after scenario session is old even timed.event)
    by false there here = here

-- ---- the clock of one session

thereafter-clock : (life : ℕ) (session : Session) (old : SessionStands) (event : Event)
    → (thereafter_one life session old event).clock ≤ old.clock + ticks_of event
thereafter-clock life session old (events.Tick count) = omega arith
thereafter-clock life session old (events.Raise kind a b) = by (is_that kind a b session.kind session.a session.b)
  where
    by : (raises : Bool) → (cond raises (raised_one old) old).clock ≤ old.clock + 0
    by true = omega arith
    by false = omega arith
thereafter-clock life session old events.Heal = by (not old.joined)
  where
    by : (raises : Bool) → (cond raises (raised_one old) old).clock ≤ old.clock + 0
    by true = omega arith
    by false = omega arith
thereafter-clock life session old other = omega arith

-- The clock of a session moves by the ticks of an event at most.
after-clock : (life : ℕ) (refused : List ℕ) (session : Session) (old : SessionStands) (timed : Timed)
    → (after_one life refused session old timed).clock ≤ old.clock + ticks_of timed.event
after-clock life refused session old timed = by (is_accepted refused timed)
  where
    by : (accepted : Bool) → (cond accepted (thereafter_one life session old timed.event) old).clock ≤ old.clock + ticks_of timed.event
    by true = thereafter-clock life session old timed.event
    by false = omega arith

-- One event more of those that a session is followed through.
pub one-step : (life : ℕ) (refused : List ℕ) (session : Session) (timeds : List Timed) (i : ℕ) (timed : Timed) (old new last : SessionStands)
    → i < length timeds → timed ≡ get_or timeds i timed → new ≡ after_one life refused session old timed
    → old.clock + ticks_in (drop i timeds) < 2 ^ 63 → fold (after_one life refused session) old (drop i timeds) ≡ last
    → (new.clock + ticks_in (drop (i + 1) timeds) < 2 ^ 63) × (fold (after_one life refused session) new (drop (i + 1) timeds) ≡ last)
one-step life refused session timeds i timed old new last lt is e clock told =
    let after = after_one life refused session old timed in
    let next : drop i timeds ≡ timed ∷ drop (i + 1) timeds = rw (is, drop-cons timeds i timed lt, add-one) refl in
    let same : new.clock ≡ after.clock = ap (λ (stands : SessionStands). stands.clock) e in
    let ticks : ticks_in (drop i timeds) ≡ ticks_of timed.event + ticks_in (drop (i + 1) timeds) = ap ticks_in next in (
      omega (arith, same, ticks, clock, after-clock life refused session old timed),
      ap (λ (stands : SessionStands). fold (after_one life refused session) stands (drop (i + 1) timeds)) e
          ∙ (ap (λ (l : List Timed). fold (after_one life refused session) old l) (sym next) ∙ told),
    )

-- A session is ready by what is followed of it.
ready-one : (past : Past) (session : Session) → IsIn session (sessions past.scenario)
    → is_ready_in (sessions_stand past) session ≡ is_ready_one past session
ready-one past session is =
    ap (λ (stands : SessionStands). stands.joined && (same_kind session.kind kinds.Bgp || (is_held stands.near && is_held stands.far)))
    (seen-all past.scenario past.refused session is past.events none_joined (λ kind a b. refl))

-- Those of either protocol that are not ready are all of them.
pub unready-told : (past : Past) → unready_among past (bgp_sessions (edges past.scenario)) + unready_among past (map ldp_session past.scenario.links)
    ≡ unready_after past
unready-told past =
    sym (sum_by-append (λ session. cond (not (is_ready_one past session)) 1 0) (bgp_sessions (edges past.scenario))
    (map ldp_session past.scenario.links))
    ∙ sym (count_alike (λ session. not (is_ready_in (sessions_stand past) session)) (λ session. not (is_ready_one past session))
    (sessions past.scenario) (λ session is. ap not (ready-one past session is)))
