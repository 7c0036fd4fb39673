-- The directions of a scenario's sessions.
use Rattle.std.proofs.Common.{◌≡◌, ◌∙◌, ◌<◌, ◌⊎◌, inl, inr, suc, true, List, [], ◌∷◌, ◌++◌, map, flat_map, length, refl, sym, ap, subst, arith}
use Rattle.std.specs.Prelude.{AllPairs}
use Rattle.std.proofs.lemmas.Bool.{and_parts}
use Rattle.std.proofs.lemmas.List.Elements.{All-contains}
use Rattle.std.proofs.lemmas.Option.{slice_get_within}
use Rattle.mv_base.specs.Lists.{Among}
use Rattle.mv_base.specs.declared.core_link.Link.{Link}
use Rattle.mv_base.specs.declared.ids.NodeId.{NodeId}
use Rattle.mv_base.specs.core_walks.Topology.{HasEnds, JoinsSamePair}
use Rattle.mv_base.proofs.core_walks.WalkLemmas.{good}
use Rattle.label_defs.specs.Between.{is_between}
use Rattle.scenario_defs.specs.Kinds.{same_kind}
use Rattle.scenario_defs.specs.Rules.{HaveSession, Rules}
use Rattle.scenario_defs.specs.declared.event.Kind.{Kind}
use Rattle.scenario_defs.specs.declared.event.Kind.TheVariants as kinds
use Rattle.scenario_defs.specs.declared.scenario.Scenario.{Scenario}
use Rattle.network_defs.specs.declared.session_defs.direction.Direction.{Direction}
use Rattle.mvpn_model.specs.Sessions.{bgp_session, bgp_sessions, edges, ldp_session, sessions}
use Rattle.mvpn_model.specs.Unready.{is_that}
use Rattle.mvpn_model.specs.declared.session.Session.{Session}
use Rattle.mvpn_model.proofs.SessionLemmas.{one_kind, other_order, own_session}
use Rattle.network_defs.specs.Counts.{direction, directions, directions_of}
use Rattle.network_defs.specs.Events.{is_session_of}
use Rattle.wire_laws.specs.Edges.{IsWay}
use Rattle.wire_laws.specs.Ways.{IsFound}
use Rattle.wire_laws.proofs.AmongLemmas.{Once, among_back, among_contained, among_either, among_front, among_map, contained, mapped, not_before, one_found}
use Rattle.wire_laws.proofs.SessionPairs.{bgp_between, bgp_of, edges_once, is_among, session_has, turned_session}

-- ---- directions and sessions

-- the direction is one of the session
abbrev IsOfSession : Session → Direction → Type 0
IsOfSession s over = (over ≡ direction s.kind s.a s.b) ⊎ (over ≡ direction s.kind s.b s.a)

way_session : (all : List Session) (over : Direction) → Among over (flat_map directions_of all) → (s : Session) × Among s all × IsOfSession s over
way_session [] over h = absurd h
way_session (s ∷ more) over (inl e) = (s, inl refl, inl e)
way_session (s ∷ more) over (inr (inl e)) = (s, inl refl, inr e)
way_session (s ∷ more) over (inr (inr h)) = (let found = way_session more over h in (found.0, inr found.1, found.2))

session_way : (all : List Session) (s : Session) (over : Direction) → Among s all → IsOfSession s over → Among over (flat_map directions_of all)
session_way [] s over h is = absurd h
session_way (t ∷ more) s over (inl e) (inl d) = inl (d ∙ ap (λ (x : Session). direction x.kind x.a x.b) e)
session_way (t ∷ more) s over (inl e) (inr d) = inr (inl (d ∙ ap (λ (x : Session). direction x.kind x.b x.a) e))
session_way (t ∷ more) s over (inr h) is = inr (inr (session_way more s over h is))

-- ---- which nodes have a direction between them

pub way_has : (scenario : Scenario) (kind : Kind) (a b : NodeId) → IsWay scenario (direction kind a b) → HaveSession scenario kind a b
way_has scenario kind a b way =
    let found = way_session (sessions scenario) (direction kind a b) way in
    let has = session_has scenario found.0 found.1 in
    elim found.2 [
      | inl e ↦ subst (λ (over : Direction). HaveSession scenario over.kind over.from over.to) (sym e) has
      | inr e ↦ subst (λ (over : Direction). HaveSession scenario over.kind over.from over.to) (sym e)
          (turned_session scenario found.0.kind found.0.a found.0.b has)
    ]

pub has_way : (scenario : Scenario) (kind : Kind) (a b : NodeId) → HaveSession scenario kind a b → IsWay scenario (direction kind a b)
has_way scenario kinds.Bgp a b has =
    let all = bgp_sessions (edges scenario) in
    let links = map ldp_session scenario.links in
    elim (bgp_between (edges scenario) a b (is_among scenario a has.0) (is_among scenario b has.1) (λ e. has.2 (ap (λ (n : NodeId). n.0) e))) [
      | inl h ↦ session_way (sessions scenario) (bgp_session a b) (direction kinds.Bgp a b) (among_front (bgp_session a b) all links h) (inl refl)
      | inr h ↦ session_way (sessions scenario) (bgp_session b a) (direction kinds.Bgp a b) (among_front (bgp_session b a) all links h) (inr refl)
    ]
has_way scenario kinds.Ldp a b has =
    let link : Link = has.1.link in
    session_way (sessions scenario) (ldp_session link) (direction kinds.Ldp a b)
    (among_back (ldp_session link) (bgp_sessions (edges scenario)) (map ldp_session scenario.links)
    (among_map ldp_session link scenario.links (among_contained scenario.links link has.1.listed)))
    (by link has.1.ends)
  where
    by : (link : Link) → ((link.a.0 ≡ a.0) × (link.b.0 ≡ b.0)) ⊎ ((link.a.0 ≡ b.0) × (link.b.0 ≡ a.0))
        → IsOfSession (ldp_session link) (direction kinds.Ldp a b)
    by link (inl e) = inl (λ i. direction kinds.Ldp (record { 0 = sym e.0 i }) (record { 0 = sym e.1 i }))
    by link (inr e) = inr (λ i. direction kinds.Ldp (record { 0 = sym e.1 i }) (record { 0 = sym e.0 i }))

pub reversed : (scenario : Scenario) (kind : Kind) (a b : NodeId) → IsWay scenario (direction kind a b) → IsWay scenario (direction kind b a)
reversed scenario kind a b way = has_way scenario kind b a (turned_session scenario kind a b (way_has scenario kind a b way))

-- its ends are two nodes of the scenario
pub two_ends : (scenario : Scenario) → Rules scenario → (kind : Kind) (a b : NodeId) → HaveSession scenario kind a b
    → (a.0 < length scenario.nodes) × (b.0 < length scenario.nodes) × (a ≡ b → ⊥)
two_ends scenario rules kinds.Bgp a b has = (
  slice_get_within scenario.nodes a.0 has.0.node has.0.at,
  slice_get_within scenario.nodes b.0 has.1.node has.1.at,
  λ e. has.2 (ap (λ (n : NodeId). n.0) e),
)
two_ends scenario rules kinds.Ldp a b has =
    let linked = has.1 in
    let within = good (length scenario.nodes) scenario.links a.0 b.0 has.0 rules.core.topology linked in
    let two = (All-contains (HasEnds (length scenario.nodes)) scenario.links linked.link rules.core.topology.ends linked.listed).two in
    (within.a_within, within.b_within, λ e. (let same : a.0 ≡ b.0 = ap (λ (n : NodeId). n.0) e in by linked.link two linked.ends same))
  where
    by : (link : Link) → (link.a.0 ≡ link.b.0 → ⊥) → ((link.a.0 ≡ a.0) × (link.b.0 ≡ b.0)) ⊎ ((link.a.0 ≡ b.0) × (link.b.0 ≡ a.0)) → a.0 ≡ b.0 → ⊥
    by link two (inl e) same = two (e.0 ∙ same ∙ sym e.1)
    by link two (inr e) same = two (e.0 ∙ sym same ∙ sym e.1)

-- ---- the session that is found

pub session_found : (scenario : Scenario) (kind : Kind) (a b : NodeId) → IsWay scenario (direction kind a b) → IsFound scenario kind a b
session_found scenario kind a b way =
    let own = way_session (sessions scenario) (direction kind a b) way in
    let s : Session = own.0 in
    let passes : is_session_of kind a b s ≡ true = elim own.2 [
      | inl e ↦ subst (λ (over : Direction). is_that over.kind over.from over.to s.kind s.a s.b ≡ true) (sym e) (own_session s)
      | inr e ↦ subst (λ (over : Direction). is_that over.kind over.from over.to s.kind s.a s.b ≡ true) (sym e)
          (other_order s.kind s.a s.b s.kind s.a s.b ∙ own_session s)
    ] in
    let found = one_found (is_session_of kind a b) s (sessions scenario) own.1 passes in
    let parts = and_parts (same_kind kind found.0.kind) (is_between a b found.0.a found.0.b) found.2 in
    record { session = found.0; found = found.1; protocol = sym (one_kind kind found.0.kind parts.0); between = parts.1 }

-- ---- each session is there once

-- sessions of the same two nodes over one protocol
abbrev AreOne : Session → Session → Type 0
AreOne s t = (s.kind ≡ t.kind) × (((s.a ≡ t.a) × (s.b ≡ t.b)) ⊎ ((s.a ≡ t.b) × (s.b ≡ t.a)))

abbrev AreApart : List Session → Type 0
AreApart [] = Unit {0}
AreApart (s ∷ more) = ((t : Session) → Among t more → AreOne s t → ⊥) × AreApart more

both_apart : (xs ys : List Session) → AreApart xs → AreApart ys → ((x y : Session) → Among x xs → Among y ys → AreOne x y → ⊥) → AreApart (xs ++ ys)
both_apart [] ys p q h = q
both_apart (x ∷ xs) ys p q h = (
  (λ t among one. elim (among_either t xs ys among) [ inl own ↦ p.0 t own one | inr other ↦ h x t (inl refl) other one ]),
  both_apart xs ys p.1 q (λ y t own other one. h y t (inr own) other one),
)

-- those of one edge
star_apart : (a : NodeId) (later : List NodeId) → (Among a later → ⊥) → Once later → AreApart (map (bgp_session a) later)
star_apart a [] none once = tt
star_apart a (b ∷ more) none once = (
  (λ t among one. let found = mapped (bgp_session a) t more among in by t found.0 found.1 found.2 one.1),
  star_apart a more (λ h. none (inr h)) once.1,
)
  where
    by : (t : Session) (c : NodeId) → Among c more → t ≡ bgp_session a c → ((a ≡ t.a) × (b ≡ t.b)) ⊎ ((a ≡ t.b) × (b ≡ t.a)) → ⊥
    by t c h is (inl e) = once.0 (subst (λ (n : NodeId). Among n more) (sym (e.1 ∙ ap (λ (x : Session). x.b) is)) h)
    by t c h is (inr e) = none (inr (subst (λ (n : NodeId). Among n more) (sym (e.0 ∙ ap (λ (x : Session). x.b) is)) h))

bgp_apart : (all : List NodeId) → Once all → AreApart (bgp_sessions all)
bgp_apart [] once = tt
bgp_apart (a ∷ later) once =
    both_apart (map (bgp_session a) later) (bgp_sessions later) (star_apart a later once.0 once.1) (bgp_apart later once.1)
    (λ x y own other one. (
    let found = mapped (bgp_session a) x later own in
    let two = bgp_of later y other in
    by x y (ap (λ (s : Session). s.a) found.2) two.first two.second one.1
    ))
  where
    by : (x y : Session) → x.a ≡ a → Among y.a later → Among y.b later → ((x.a ≡ y.a) × (x.b ≡ y.b)) ⊎ ((x.a ≡ y.b) × (x.b ≡ y.a)) → ⊥
    by x y is first second (inl e) = once.0 (subst (λ (n : NodeId). Among n later) (sym e.0 ∙ is) first)
    by x y is first second (inr e) = once.0 (subst (λ (n : NodeId). Among n later) (sym e.0 ∙ is) second)

links_apart : (links : List Link) → AllPairs (λ own other. JoinsSamePair own other → ⊥) links → AreApart (map ldp_session links)
links_apart [] h = tt
links_apart (link ∷ more) h = (
  (λ t among one.
      let found = mapped ldp_session t more among in
      let other : Link = found.0 in
      All-contains (λ next. JoinsSamePair link next → ⊥) more other (λ k d lt. h 0 (suc k) d (omega arith) (omega (arith, lt)))
      (contained more other found.1)
      (joins other t found.2 one.1)),
  links_apart more (λ i j d lt within. h (suc i) (suc j) d (omega (arith, lt)) (omega (arith, within))),
)
  where
    number : (m n : NodeId) → m ≡ n → m.0 ≡ n.0
    number m n e = ap (λ (x : NodeId). x.0) e

    joins : (other : Link) (t : Session) → t ≡ ldp_session other → ((link.a ≡ t.a) × (link.b ≡ t.b)) ⊎ ((link.a ≡ t.b) × (link.b ≡ t.a))
        → JoinsSamePair link other
    joins other t is (inl e) =
        inl (number link.a other.a (e.0 ∙ ap (λ (x : Session). x.a) is), number link.b other.b (e.1 ∙ ap (λ (x : Session). x.b) is))
    joins other t is (inr e) =
        inr (number link.a other.b (e.0 ∙ ap (λ (x : Session). x.b) is), number link.b other.a (e.1 ∙ ap (λ (x : Session). x.a) is))

sessions_apart : (scenario : Scenario) → Rules scenario → AreApart (sessions scenario)
sessions_apart scenario rules =
    both_apart (bgp_sessions (edges scenario)) (map ldp_session scenario.links) (bgp_apart (edges scenario) (edges_once 0 scenario.nodes))
    (links_apart scenario.links rules.core.topology.once)
    (λ x y own other one. (
    let found = mapped ldp_session y scenario.links other in
    let clash : kinds.Bgp ≡ kinds.Ldp = sym (bgp_of (edges scenario) x own).kind ∙ one.0 ∙ ap (λ (s : Session). s.kind) found.2 in
    absurd cc
    ))

-- ---- each direction is there once

ways_once : (all : List Session) → AreApart all → ((s : Session) → Among s all → s.a ≡ s.b → ⊥) → Once (flat_map directions_of all)
ways_once [] apart two = tt
ways_once (s ∷ more) apart two = (
  (λ a. elim a [
    | inl e ↦ two s (inl refl) (ap (λ (over : Direction). over.from) e)
    | inr h ↦ (let found = way_session more (direction s.kind s.a s.b) h in apart.0 found.0 found.1 (elim found.2 [
      | inl e ↦ (ap (λ (over : Direction). over.kind) e, inl (ap (λ (over : Direction). over.from) e, ap (λ (over : Direction). over.to) e))
      | inr e ↦ (ap (λ (over : Direction). over.kind) e, inr (ap (λ (over : Direction). over.from) e, ap (λ (over : Direction). over.to) e))
    ]))
  ]),
  (
    (λ h. let found = way_session more (direction s.kind s.b s.a) h in apart.0 found.0 found.1 (elim found.2 [
      | inl e ↦ (ap (λ (over : Direction). over.kind) e, inr (ap (λ (over : Direction). over.to) e, ap (λ (over : Direction). over.from) e))
      | inr e ↦ (ap (λ (over : Direction). over.kind) e, inl (ap (λ (over : Direction). over.to) e, ap (λ (over : Direction). over.from) e))
    ])),
    ways_once more apart.1 (λ t h e. two t (inr h) e),
  ),
)

pub directions_once : (scenario : Scenario) → Rules scenario → Once (directions scenario)
directions_once scenario rules =
    ways_once (sessions scenario) (sessions_apart scenario rules)
    (λ s h same. (two_ends scenario rules s.kind s.a s.b (session_has scenario s h)).2 same)

pub none_before : (scenario : Scenario) → Rules scenario → (before after : List Direction) (over : Direction)
    → directions scenario ≡ before ++ over ∷ after → Among over before → ⊥
none_before scenario rules before after over e = not_before before after over (subst Once e (directions_once scenario rules))
