-- At a line of zeros the session of each link is calm.
use Rattle.std.specs.Prelude.{count_by}
use Rattle.std.proofs.Common.{◌≡◌, ◌≢◌, ℕ, ◌<◌, ◌==◌, true, cond, List, [], ◌∷◌, ◌++◌, map, length, inl, inr, ◌⊎◌, sym, ap, subst, ◌∙◌, arith}
use Rattle.std.specs.List.{AllByRecursion, flat_map}
use Rattle.std.proofs.lemmas.Bool.{cases_Bool, and_parts}
use Rattle.std.proofs.lemmas.List.Elements.{All-from_recursion, All-contains, recursion_from_All}
use Rattle.mv_base.specs.declared.core_link.Link.{Link}
use Rattle.mv_base.specs.declared.ids.NodeId.{NodeId}
use Rattle.mv_base.specs.core_walks.Topology.{HasEnds}
use Rattle.mv_base.specs.core_walks.Walks.{IsLinked}
use Rattle.label_defs.specs.LabelData.{is_ready}
use Rattle.label_defs.proofs.KeyLemmas.{node_equal}
use Rattle.label_defs.proofs.MemberLemmas.{count-cons}
use Rattle.mvpn_model.specs.Sessions.{sessions, edges, bgp_sessions, ldp_session}
use Rattle.mvpn_model.specs.declared.session.Session.{Session}
use Rattle.scenario_defs.specs.Rules.{Rules}
use Rattle.scenario_defs.specs.declared.event.Kind.TheVariants as kinds
use Rattle.scenario_defs.specs.declared.scenario.Scenario.{Scenario}
use Rattle.network_defs.specs.declared.session_defs.direction.Direction.{Direction}
use Rattle.network_defs.specs.Counts as counts
use Rattle.network_defs.specs.Counts.{direction, directions_of}
use Rattle.network_defs.specs.Nodes.{part_of}
use Rattle.network_defs.specs.World.{World, scenario_of}
use Rattle.delivery_laws.specs.Flood.{is_way}
use Rattle.once_laws.specs.Zeros.{Zeros, CalmPair}
use Rattle.network_laws.proofs.Lists.{each_front}
use Rattle.network_laws.proofs.BgpPlaces.{all_both}

pub each_after : {X : Type 0} (P : X → Type 0) (xs ys : List X) → AllByRecursion P (xs ++ ys) → AllByRecursion P ys
each_after P [] ys h = h
each_after P (x ∷ xs) ys h = each_after P xs ys h.1

pub each_flat : {X Y : Type 0} (P : Y → Type 0) (f : X → List Y) (xs : List X) → AllByRecursion P (flat_map f xs)
    → AllByRecursion (λ x. AllByRecursion P (f x)) xs
each_flat P f [] h = tt
each_flat P f (x ∷ xs) h = (each_front P (f x) (flat_map f xs) h, each_flat P f xs (each_after P (f x) (flat_map f xs) h))

pub each_unmapped : {X Y : Type 0} (P : Y → Type 0) (f : X → Y) (xs : List X) → AllByRecursion P (map f xs) → AllByRecursion (λ x. P (f x)) xs
each_unmapped P f [] h = tt
each_unmapped P f (x ∷ xs) h = (h.0, each_unmapped P f xs h.1)

-- ---- sessions

pub record CalmSession (world : World) (session : Session) : Type 0 where
  pub ready : counts.is_ready world session ≡ true
  pub quiet : world.network.transit (direction session.kind session.a session.b) ≡ []
  pub quiet_back : world.network.transit (direction session.kind session.b session.a) ≡ []

pub calm_sessions : (world : World) → Zeros world → AllByRecursion (CalmSession world) (sessions (scenario_of world))
calm_sessions world z =
    let Quiet : Direction → Type 0 = λ over. world.network.transit over ≡ [] in
    all_both (λ session. counts.is_ready world session ≡ true) (λ session. AllByRecursion Quiet (directions_of session)) (CalmSession world)
    (λ session r q. record { ready = r; quiet = q.0; quiet_back = q.1.0 })
    (sessions (scenario_of world)) z.ready (each_flat Quiet directions_of (sessions (scenario_of world)) z.transit)

-- ---- links

-- two nodes of a link, with a calm session
pub record Pair (world : World) (u n : NodeId) : Type 0 where
  pub two : u ≢ n
  pub within : (u.0 < length (scenario_of world).nodes) × (n.0 < length (scenario_of world).nodes)
  pub there : CalmPair world u n
  pub back : CalmPair world n u

turned : (world : World) (u n : NodeId) → Pair world u n → Pair world n u
turned world u n p = record { two = λ e. p.two (sym e); within = (p.within.1, p.within.0); there = p.back; back = p.there }

-- both directions of an LDP session are joined, or neither is
abbrev pub Alike : World → Type 0
Alike world = (u n : NodeId) → u ≢ n → world.network.joined (direction kinds.Ldp u n) ≡ world.network.joined (direction kinds.Ldp n u)

link_pair : (world : World) → Alike world → (link : Link) → HasEnds (length (scenario_of world).nodes) link → CalmSession world (ldp_session link)
    → Pair world link.a link.b
link_pair world alike link ends s =
    let ne : link.a ≢ link.b = λ e. ends.two (ap (λ (n : NodeId). n.0) e) in
    let parts = and_parts (counts.is_joined world (ldp_session link)) (counts.are_held world (ldp_session link)) s.ready in
    let held =
    and_parts (is_ready (part_of (world.network.state.node link.a)) link.b) (is_ready (part_of (world.network.state.node link.b)) link.a) parts.1
    in
    record {
      two = ne;
      within = (ends.a, ends.b);
      there = record { joined = parts.0; ready = held.0; quiet = s.quiet };
      back = record { joined = sym (alike link.a link.b ne) ∙ parts.0; ready = held.1; quiet = s.quiet_back };
    }

pub link_pairs : (world : World) → Rules (scenario_of world) → Alike world → Zeros world
    → AllByRecursion (λ (link : Link). Pair world link.a link.b) (scenario_of world).links
link_pairs world rules alike z =
    let scenario : Scenario = scenario_of world in
    all_both (HasEnds (length scenario.nodes)) (λ (link : Link). CalmSession world (ldp_session link)) (λ (link : Link). Pair world link.a link.b)
    (λ link ends s. link_pair world alike link ends s) scenario.links
    (recursion_from_All (HasEnds (length scenario.nodes)) scenario.links rules.core.topology.ends)
    (each_unmapped (CalmSession world) ldp_session scenario.links
    (each_after (CalmSession world) (bgp_sessions (edges scenario)) (map ldp_session scenario.links) (calm_sessions world z)))

by_ends : (world : World) (link : Link) (u n : NodeId) → ((link.a.0 ≡ u.0) × (link.b.0 ≡ n.0)) ⊎ ((link.a.0 ≡ n.0) × (link.b.0 ≡ u.0))
    → Pair world link.a link.b → Pair world u n
by_ends world link u n (inl e) p =
    subst (λ (x : NodeId). Pair world x n) (λ i. record { 0 = e.0 i }) (subst (λ (x : NodeId). Pair world link.a x) (λ i. record { 0 = e.1 i }) p)
by_ends world link u n (inr e) p =
    turned world n u (subst (λ (x : NodeId). Pair world x u) (λ i. record { 0 = e.0 i })
    (subst (λ (x : NodeId). Pair world link.a x) (λ i. record { 0 = e.1 i }) p))

-- linked nodes have a calm session
pub linked_pair : (world : World) (links : List Link) → AllByRecursion (λ (link : Link). Pair world link.a link.b) links → (u n : NodeId) (cost : ℕ)
    → IsLinked links u.0 n.0 cost → Pair world u n
linked_pair world links pairs u n cost is =
    by_ends world is.link u n is.ends (All-contains (λ (link : Link). Pair world link.a link.b) links is.link
    (All-from_recursion (λ (link : Link). Pair world link.a link.b) links pairs) is.listed)

-- and so have those between which a link leads
pub way_pair : (world : World) (u n : NodeId) (links : List Link) → AllByRecursion (λ (link : Link). Pair world link.a link.b) links
    → 0 < count_by (is_way u n) (flat_map (λ (link : Link). (link.a, link.b) ∷ (link.b, link.a) ∷ []) links) → Pair world u n
way_pair world u n [] pairs h = absurd (omega (arith, h))
way_pair world u n (link ∷ more) pairs h = elim (cases_Bool (is_way u n (link.a, link.b))) [
  | inl t ↦
      let x = and_parts (link.a.0 == u.0) (link.b.0 == n.0) t in
      subst (λ (y : NodeId). Pair world y n) (node_equal link.a u x.0) (subst (λ (y : NodeId). Pair world link.a y) (node_equal link.b n x.1) pairs.0)
  | inr f ↦ elim (cases_Bool (is_way u n (link.b, link.a))) [
    | inl t ↦
        let x = and_parts (link.b.0 == u.0) (link.a.0 == n.0) t in
        subst (λ (y : NodeId). Pair world y n) (node_equal link.b u x.0)
        (subst (λ (y : NodeId). Pair world link.b y) (node_equal link.a n x.1) (turned world link.a link.b pairs.0))
    | inr g ↦
        let rest : List (NodeId × NodeId) = flat_map (λ (link : Link). (link.a, link.b) ∷ (link.b, link.a) ∷ []) more in
        let one : cond {A = ℕ} (is_way u n (link.a, link.b)) 1 0 ≡ 0 = ap (λ b. cond b 1 0) f in
        let two : cond {A = ℕ} (is_way u n (link.b, link.a)) 1 0 ≡ 0 = ap (λ b. cond b 1 0) g in
        way_pair world u n more pairs.1 (omega (
          arith,
          h,
          one,
          two,
          count-cons (is_way u n) (link.a, link.b) ((link.b, link.a) ∷ rest),
          count-cons (is_way u n) (link.b, link.a) rest,
        ))
  ]
]
