-- The control plane of a scenario in which nothing has happened.
use Rattle.std.proofs.Common.{◌≡◌, ◌∙◌, refl, sym, ap, subst, arith, ℕ, zero, suc, ◌+◌, ◌<◌, inl, inr, true, false, List, [], ◌∷◌, ◌++◌, length, map, slice_get, Option, Some, None}
use Rattle.std.specs.FinMap as maps
use Rattle.std.specs.FinSet as sets
use Rattle.std.proofs.lemmas.Option.{slice_get_cases}
use Rattle.mv_base.specs.declared.core_link.Link.{Link}
use Rattle.mv_base.specs.declared.ids.NodeId.{NodeId}
use Rattle.mv_base.specs.core_walks.Topology.{IsConnected, IsFirstUnreached}
use Rattle.mv_base.specs.core_walks.Walks.{Reaches}
use Rattle.scenario_defs.specs.Rules.{Rules}
use Rattle.scenario_defs.specs.declared.scenario.Scenario.{Scenario}
use Rattle.network_defs.specs.declared.session_defs.direction.Direction.{Direction}
use Rattle.net_sessions.specs.session_transit.TransitData.{TransitData, direction_cmp, is_joined_at, nothing_joined, octets_at}
use Rattle.net_sessions.specs.session_ways.Ways.{ways_from}
use Rattle.network_defs.specs.Costs.{AreCoresOf, Cores}
use Rattle.network_defs.specs.Counts.{all_nodes, directions, node_ids}
use Rattle.network_defs.specs.World.{start}
use Rattle.network_laws.specs.Sound.{HasOctets}
use Rattle.network_laws.proofs.NodeCalls.{start_sound}
use Rattle.network_nodes.specs.declared.node.NetworkNode.{NetworkNode}
use Rattle.network_acts.specs.control_plane.Plane.{IsPlane, at_rest}
use Rattle.network_acts.specs.control_plane.PlaneView.{PlaneView}
use Rattle.network_acts.specs.control_plane.Starting.{AreFirst, IsFirst}
use Rattle.network_acts.proofs.control_plane.NetworkLemmas.{has_first}

-- ---- nodes

get_last : {X : Type 0} (xs : List X) (x : X) → slice_get (xs ++ x ∷ []) (length xs) ≡ Some x
get_last [] x = refl
get_last (y ∷ xs) x = get_last xs x

get_front : {X : Type 0} (xs : List X) (x : X) (place : ℕ) → place < length xs → slice_get (xs ++ x ∷ []) place ≡ slice_get xs place
get_front [] x place within = absurd (omega (arith, within))
get_front (y ∷ xs) x zero within = refl
get_front (y ∷ xs) x (suc place) within = get_front xs x place (omega (arith, within))

length_more : {X : Type 0} (xs : List X) (x : X) → length (xs ++ x ∷ []) ≡ length xs + 1
length_more [] x = refl
length_more (y ∷ xs) x = (let e = length_more xs x in omega (arith, e))

pub none_first : (scenario : Scenario) → AreFirst scenario 0 []
none_first scenario = record { count_is = refl; each = λ n within. absurd (omega (arith, within)) }

pub one_first : (scenario : Scenario) (count : ℕ) (n : NodeId) (nodes new : List NetworkNode) (node : NetworkNode) → AreFirst scenario count nodes
    → n.0 ≡ count → new ≡ nodes ++ node ∷ []
    → IsFirst scenario n node → AreFirst scenario (count + 1) new
one_first scenario count n nodes new node before number more first = subst (AreFirst scenario (count + 1)) (sym more) (record {
  count_is = length_more nodes node ∙ ap (λ (c : ℕ). c + 1) before.count_is;
  each = λ m within. elim (slice_get_cases nodes m.0).1 [
    | inl there ↦ (let r = before.each m (subst (λ (c : ℕ). m.0 < c) before.count_is there.1) in (r.0, get_front nodes node m.0 there.1 ∙ r.1, r.2))
    | inr past ↦
        (let last : m.0 ≡ length nodes = omega (arith, past.0, within, before.count_is) in
        let same : n.0 ≡ m.0 = omega (arith, last, number, before.count_is) in (
          node,
          ap (slice_get (nodes ++ node ∷ [])) last ∙ get_last nodes node,
          subst (λ (k : NodeId). IsFirst scenario k node) (λ i. record { 0 = same i }) first,
        ))
  ];
})

-- ---- directions

-- what is made of the node of that number
abbrev made_of : {X : Type 0} (make : NodeId → X) → ℕ → Option X
made_of make number = Some (make (record { 0 = number }))

-- what is made of each node, in order
made_at : {X : Type 0} (make : NodeId → X) (number count place : ℕ) → place < count
    → slice_get (map make (node_ids number count)) place ≡ made_of make (number + place)
made_at make number zero place within = absurd (omega (arith, within))
made_at make number (suc count) zero within = (let same : number ≡ number + 0 = omega (arith) in ap (made_of make) same)
made_at make number (suc count) (suc place) within =
    made_at make (number + 1) count place (omega (arith, within))
    ∙ (let same : number + 1 + place ≡ number + suc place = omega (arith) in ap (made_of make) same)

ways_at : (scenario : Scenario) (ways : List (List Direction)) → ways ≡ map (λ n. ways_from n (directions scenario)) (all_nodes scenario)
    → (n : NodeId) → n.0 < length scenario.nodes
    → slice_get ways n.0 ≡ Some (ways_from n (directions scenario))
ways_at scenario ways are n within =
    ap (λ (w : List (List Direction)). slice_get w n.0) are
    ∙ (made_at own 0 (length scenario.nodes) n.0 within ∙ (let same : 0 + n.0 ≡ n.0 = omega (arith) in ap (made_of own) same))
  where
    own : NodeId → List Direction
    own = λ k. ways_from k (directions scenario)

-- ---- the core

-- each node of a scenario is reached
pub is_reached : (scenario : Scenario) (count : ℕ) (links : List Link) (node : NodeId) → IsConnected (length scenario.nodes) scenario.links
    → count ≡ length scenario.nodes → links ≡ scenario.links
    → IsFirstUnreached count links node.0 → ⊥
is_reached scenario count links node connected count_is links_are first =
    first.unreached (subst (λ (l : List Link). Reaches l 0 node.0) (sym links_are)
    (connected node.0 (subst (λ (c : ℕ). node.0 < c) count_is first.within)))

-- ---- the plane

module _ (transit : TransitData) (none : transit ≡ nothing_joined) where
  none_joined : (over : Direction) → false ≡ is_joined_at transit over
  none_joined over = sym (ap (λ (t : TransitData). is_joined_at t over) none ∙ sets.contains-empty direction_cmp over)

  none_moving : (over : Direction) → [] ≡ octets_at transit over
  none_moving over =
      sym (ap (λ (t : TransitData). octets_at t over) none
      ∙ ap (λ (o : Option (List ℕ)). elim o [ None ↦ [] | Some octets ↦ octets ]) (maps.get-empty direction_cmp over))

pub first_plane : (scenario : Scenario) (plane : PlaneView) → Rules scenario → HasOctets scenario
    → AreFirst scenario (length scenario.nodes) plane.nodes
    → plane.ways ≡ map (λ n. ways_from n (directions scenario)) (all_nodes scenario) → plane.transit ≡ nothing_joined
    → plane.core ≡ record { nodes = length scenario.nodes; links = scenario.links } → plane.clock ≡ 0
    → (cores : Cores) → AreCoresOf scenario cores → IsPlane scenario cores at_rest (start scenario cores).network plane
first_plane scenario plane rules octets first ways none core clock cores of_scenario = record {
  around = record {
    scenario_is = refl;
    cores_are = refl;
    of_scenario = of_scenario;
    core = core;
    known = λ n within current. refl;
    clock = sym clock;
    small = omega (arith, clock);
    count = first.count_is;
    ways = ways_at scenario plane.ways ways;
    joined = none_joined plane.transit none;
    steady = record {
      sound = start_sound scenario cores (record { rules = rules; octets = octets });
      pending = λ over. [];
      lines = λ over. (refl, refl);
      whose = λ over joined. absurd (let e : false ≡ true = joined in cc);
      up = λ over joined quiet. absurd (let e : false ≡ true = joined in cc);
      fresh = λ over down. refl;
    };
  };
  nodes = λ n within. (let own = first.each n within in
      has_first scenario n (start scenario cores).network plane.nodes own.0 refl refl (λ over e. refl) own.1 own.2);
  transit = none_moving plane.transit none;
}
