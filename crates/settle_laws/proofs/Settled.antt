-- After `settle` no octet is in transit, and no timer is due.
use Rattle.std.proofs.Common.{◌≡◌, ◌<◌, ◌≤◌, ℕ, zero, suc, ◌+◌, ◌==◌, ◌||◌, Bool, true, false, cond, inl, inr, List, [], ◌∷◌, map, length, Option, Some, None, refl, sym, ap, subst, ◌∙◌, arith}
use Rattle.std.specs.List.{AllByRecursion, sum_by}
use Rattle.std.proofs.lemmas.Bool.{cases_lt, or_left, or_right}
use Rattle.mv_base.specs.Number.{◌>>?◌}
use Rattle.mv_base.specs.declared.ids.NodeId.{NodeId}
use Rattle.mldp.specs.declared.mldp_fec.fec.Fec.{Fec}
use Rattle.bgp_messages.specs.bgp_update.Table.{changes_of}
use Rattle.label_defs.proofs.KeyLemmas.{node_equal, node_itself}
use Rattle.mvpn_model.specs.Sessions.{sessions}
use Rattle.mvpn_model.specs.declared.session.Session.{Session}
use Rattle.scenario_defs.specs.declared.event.Event.TheVariants as events
use Rattle.scenario_defs.specs.declared.scenario.Scenario.{Scenario}
use Rattle.selective_defs.specs.Selective.{Among}
use Rattle.network_defs.specs.session_defs.Message.{SessionMessage, Bgp, Label}
use Rattle.network_defs.specs.session_defs.Octets.{with_step}
use Rattle.network_defs.specs.session_defs.System.{Stepped, with_earlier}
use Rattle.network_defs.specs.declared.session_defs.direction.Direction.{Direction}
use Rattle.network_defs.proofs.session_defs.Lines.{own_direction}
use Rattle.mv_base.specs.declared.core_link.Link.{Link}
use Rattle.edge_defs.specs.Place.{node_with, upstream}
use Rattle.mv_base.specs.core_walks.Core.{Core, IsCoreOf}
use Rattle.network_defs.specs.Costs.{AreRepriced, AreCoresOf}
use Rattle.network_laws.proofs.Costs.{Costs, costs_of}
use Rattle.label_defs.proofs.SettleLemmas.{bind_some}
use Rattle.std.proofs.lemmas.Option.{none-some}
use Rattle.edge_defs.specs.Steps as steps
use Rattle.edge_words.proofs.calm_laws.Lists.{any_from}
use Rattle.network_defs.specs.Acts.{Timers, with_network, act}
use Rattle.network_defs.specs.Counts.{directions_of, directions, node_due, node_ids, all_nodes}
use Rattle.network_defs.specs.Events.{Happened, Outcome, Done, and_then, one_act, row, each, times, turn}
use Rattle.network_defs.specs.Nodes.{NodeState, Edge, CoreNode, Nodes, place_of, label_place_of}
use Rattle.network_defs.specs.Run.{IsSettled, outcome}
use Rattle.network_defs.specs.System.{node_called}
use Rattle.network_defs.specs.World.{World, scenario_of}
use Rattle.network_defs.proofs.Kept.{Gives, Comes, then_comes, one_comes, both_give, comes_as}
use Rattle.network_laws.specs.Sound.{SoundScenario}
use Rattle.network_laws.proofs.Lists.{each_of, each_flat, each_weaker}
use Rattle.network_laws.proofs.RunNodes.{IsNode, HasNodes, sessions_within, nodes_within}
use Rattle.rule_laws.proofs.Acts.{InStep, act_in_step}
use Rattle.rule_laws.proofs.Enters.{enters}
use Rattle.rule_laws.proofs.Events.{turned_in_step}
use Rattle.settle_laws.specs.Ranks.{joins_only, rank}
use Rattle.settle_laws.proofs.Due.{no_control_due}
use Rattle.settle_laws.proofs.LabelsDue.{sum_zero, none_due, each_among}
use Rattle.settle_laws.proofs.Steps.{IsStill, label_low, timers_run}
use Rattle.settle_laws.proofs.Streams.{WorldSteady, act_steady}
use Rattle.settle_laws.proofs.Turns.{IsNearer, Low}
use Rattle.settle_laws.proofs.Rounds.{is_in, Below, Ended, rounds_end}
use Rattle.settle_laws.proofs.Depth.{depth_of, depth_low, depth_nearer}

-- ---- timers of all nodes

-- the nodes that pass the test are still
abbrev StillWhere : (NodeId → Bool) → World → Type 0
StillWhere test world = (n : NodeId) → test n ≡ true → IsStill world.network.state n (world.network.state.node n)

still_or : (nodes : Nodes) (at n : NodeId) (node : NodeState) (t q : Bool) → (n.0 == at.0) ≡ t → IsStill nodes at node
    → (q ≡ true → IsStill nodes n (nodes.node n)) → (t || q) ≡ true → IsStill nodes n (cond t node (nodes.node n))
still_or nodes at n node true q e here there is = subst (λ (m : NodeId). IsStill nodes m node) (sym (node_equal n at e)) here
still_or nodes at n node false q e here there is = there is

timers_still : (test : NodeId → Bool) (n : NodeId) (world : World) → StillWhere test world
    → Gives (StillWhere (λ m. (m.0 == n.0) || test m)) (act world (Timers n))
timers_still test n world still = by (node_called nodes n (nodes.node n) steps.Timers) refl
  where
    nodes : Nodes
    nodes = world.network.state

    by : (o : Option (Stepped Nodes)) → node_called world.network.state n (world.network.state.node n) steps.Timers ≡ o
        → Gives (StillWhere (λ m. (m.0 == n.0) || test m))
        (with_network world [] (with_step world.network o >>? λ next. with_earlier next.puts
        (Some (record { network = next.network; puts = [] }))) n)
    by None e = tt
    by (Some new) e =
        let x = timers_run world.network.state n (world.network.state.node n) new e in
        λ m is. subst (λ (s : Nodes). IsStill s m (s.node m)) (sym x.state)
        (still_or world.network.state n m x.node (m.0 == n.0) (test m) refl x.still (still m) is)

abbrev ran : List NodeId → (NodeId → Bool) → NodeId → Bool
ran [] test = test
ran (n ∷ ns) test = ran ns (λ m. (m.0 == n.0) || test m)

ran_before : (ns : List NodeId) (test : NodeId → Bool) (m : NodeId) → test m ≡ true → ran ns test m ≡ true
ran_before [] test m is = is
ran_before (n ∷ ns) test m is = ran_before ns (λ k. (k.0 == n.0) || test k) m (or_right (m.0 == n.0) (test m) is)

ran_each : (ns : List NodeId) (test : NodeId → Bool) (m : NodeId) → Among m ns → ran ns test m ≡ true
ran_each [] test m a = absurd a
ran_each (n ∷ ns) test m (inl e) = ran_before ns (λ k. (k.0 == n.0) || test k) m (or_left (m.0 == n.0) (test m) (node_itself m n e))
ran_each (n ∷ ns) test m (inr a) = ran_each ns (λ k. (k.0 == n.0) || test k) m a

node_among : (number count : ℕ) (n : NodeId) → number ≤ n.0 → n.0 < number + count → Among n (node_ids number count)
node_among number zero n le lt = absurd (omega (arith, le, lt))
node_among number (suc count) n le lt = elim (cases_lt number n.0) [
  | inl later ↦ inr (node_among (number + 1) count n (omega (arith, later)) (omega (arith, lt)))
  | inr here ↦ inl (let same : n.0 ≡ number = omega (arith, le, here) in λ i. record { 0 = same i })
]

module _ (scenario : Scenario) (costs : Costs) where
  -- what holds while timers are run
  abbrev Ran : (NodeId → Bool) → World → Type 0
  Ran test world = InStep scenario world × (WorldSteady costs world × StillWhere test world)

  timers_ran : (ns : List NodeId) → AllByRecursion (IsNode scenario) ns → (test : NodeId → Bool) (world : World) → Ran test world
      → Comes (Ran (ran ns test)) (row (map (λ n. Timers n) ns) world)
  timers_ran [] nodes test world h = h
  timers_ran (n ∷ ns) nodes test world h =
      let next_test : NodeId → Bool = λ m. (m.0 == n.0) || test m in
      then_comes (Ran next_test) (Ran (ran ns next_test)) (one_act world (Timers n)) (row (map (λ n. Timers n) ns))
      (one_comes (Ran next_test) world (Timers n)
      (both_give (InStep scenario) (λ next. WorldSteady costs next × StillWhere next_test next) (act world (Timers n))
      (act_in_step scenario (Timers n) nodes.0 world tt h.0)
      (both_give (WorldSteady costs) (StillWhere next_test) (act world (Timers n)) (act_steady costs (Timers n) tt world h.1.0)
      (timers_still test n world h.1.1))))
      (λ next p. timers_ran ns nodes.1 next_test next p)

-- ---- ranks

rank_low : (depth : NodeId → Fec → ℕ) (most : ℕ) → ((n : NodeId) (fec : Fec) → depth n fec < most) → (n : NodeId) (m : SessionMessage)
    → rank depth most n m < most + 2
rank_low depth most low n (Bgp message) = by (joins_only (changes_of message))
  where
    by : (b : Bool) → cond b 0 (most + 1) < most + 2
    by true = omega arith
    by false = omega arith
rank_low depth most low n (Label message) = let x = label_low depth most low n message in omega (arith, x)

same_bound : (b : Bool) (k : ℕ) → cond b k k ≡ k
same_bound true k = refl
same_bound false k = refl

-- ---- what is left

none_in_transit : (order : List Direction) (transit : Direction → List ℕ) → ((d : Direction) → is_in order d ≡ true → transit d ≡ [])
    → (d : Direction) → Among d order → length (transit d) ≡ 0
none_in_transit order transit h d a = ap (λ (xs : List ℕ). length xs) (h d (any_from _ d order a (own_direction d)))

still_due : (nodes : Nodes) (n : NodeId) (state : NodeState) → nodes.node n ≡ state → IsStill nodes n state → node_due nodes n ≡ 0
still_due nodes n state at still = ap (λ (s : NodeState). due_by s) at ∙ by state still
  where
    due_by : NodeState → ℕ
    due_by s = node_due (record nodes { node = λ m. s }) n

    by : (s : NodeState) → IsStill nodes n s → due_by s ≡ 0
    by (Edge edge) h =
        let first = none_due (label_place_of nodes n) nodes.clock edge.part h.2 in
        let second = no_control_due (place_of nodes n) nodes.clock edge.control h.1 in
        omega (arith, first, second)
    by (CoreNode part) h = none_due (label_place_of nodes n) nodes.clock part h

lead_to_nodes : (scenario : Scenario) → SoundScenario scenario
    → AllByRecursion (λ (d : Direction). d.to.0 < length scenario.nodes) (directions scenario)
lead_to_nodes scenario sound = each_flat (λ (d : Direction). d.to.0 < length scenario.nodes) directions_of (sessions scenario)
    (each_weaker (HasNodes scenario) (λ (session : Session). AllByRecursion (λ (d : Direction). d.to.0 < length scenario.nodes)
    (directions_of session)) (λ session is. (is.1, (is.0, tt))) (sessions scenario) (sessions_within scenario sound))

-- by the scenario's own name
abbrev settled_by : Scenario → World → Outcome
settled_by scenario world =
    and_then (row (map (λ n. Timers n) (all_nodes scenario)) world) (times (each turn (directions scenario)) (length scenario.nodes + 3))

-- of the world's scenario by another name
counts_zero : (scenario : Scenario) (world : World) → scenario_of world ≡ scenario
    → ((d : Direction) → Among d (directions scenario) → length (world.network.transit d) ≡ 0)
    → ((n : NodeId) → Among n (all_nodes scenario) → node_due world.network.state n ≡ 0) → IsSettled world
counts_zero scenario world same h k = (
  ap (λ (s : Scenario). sum_by (λ (d : Direction). length (world.network.transit d)) (directions s)) same
      ∙ sum_zero (λ (d : Direction). length (world.network.transit d)) (directions scenario) h,
  ap (λ (s : Scenario). sum_by (node_due world.network.state) (all_nodes s)) same ∙ sum_zero (node_due world.network.state) (all_nodes scenario) k,
)

-- The costs are those of the scenario's links, and each node of the scenario has acted on the present ones.
pub record Present (scenario : Scenario) (costs : Costs) : Type 0 where
  pub of_scenario : AreCoresOf scenario costs.cores
  pub links : AreRepriced scenario.links costs.links
  pub known : (n : NodeId) → AreRepriced scenario.links (costs.known n)
  pub present : (n : NodeId) → n.0 < length scenario.nodes → costs.known n ≡ costs.links

module _ (scenario : Scenario) (costs : Costs) (sound : SoundScenario scenario) (present : Present scenario costs) (some : 0 < length scenario.nodes)
  where
    abbrev core : Core
    core = costs.cores costs.links

    is_core : IsCoreOf (length scenario.nodes) costs.links core
    is_core = present.of_scenario.core costs.links present.links

    abbrev depth : NodeId → Fec → ℕ
    depth = depth_of scenario core

    abbrev most : ℕ
    most = length scenario.nodes

    abbrev low : (n : NodeId) (fec : Fec) → depth n fec < most
    low = depth_low scenario costs.links core is_core some

    -- by the costs that a node has acted on: the present ones, or, outside the scenario, any
    nearer_by : (n v : NodeId) (fec : Fec) → upstream scenario (costs.cores (costs.known n)) n fec ≡ Some v → depth v fec < depth n fec
    nearer_by n v fec up = elim (cases_lt n.0 (length scenario.nodes)) [
      | inl lt ↦ depth_nearer scenario costs.links core sound present.links is_core n v fec
          (ap (λ (links : List Link). upstream scenario (costs.cores links) n fec) (sym (present.present n lt)) ∙ up)
      | inr past ↦
          let own = present.of_scenario.core (costs.known n) (present.known n) in
          let x = bind_some (node_with scenario fec.root) (λ root. (costs.cores (costs.known n)).toward n root) v up in
          absurd (none-some v (sym (own.outside n x.0 (inl past)).1 ∙ x.2))
    ]

    nearer : (nodes : Nodes) → nodes.scenario ≡ scenario → costs_of nodes ≡ costs → IsNearer depth nodes
    nearer nodes same costs_are n v fec up =
        nearer_by n v fec ((λ i. upstream (sym same i) ((sym costs_are i).cores ((sym costs_are i).known n)) n fec) ∙ up)

    begins : (world : World) → Ran scenario costs (ran (all_nodes scenario) (λ n. false)) world
        → Below scenario costs depth most low (directions scenario) (lead_to_nodes scenario sound) (most + 2) world
    begins world ((pending, are, good), (streams, still)) = (
      record {
        pending = pending;
        lines = are;
        going = record {
          good = good;
          still = λ n lt. still n (ran_each (all_nodes scenario) (λ m. false) n
              (node_among 0 (length scenario.nodes) n (omega arith) (omega (arith, lt))));
          nearer = nearer world.network.state good.base.sound.same streams.costs_are;
        };
        low = λ d. subst (λ (k : ℕ). Low depth most k d (pending d)) (sym (same_bound (is_in (directions scenario) d) (most + 2)))
            (each_of (λ (m : SessionMessage). rank depth most d.to m < most + 2) (λ m. rank_low depth most low d.to m) (pending d));
      },
      streams,
    )

    ends : (world : World) → Ended scenario costs depth most low (directions scenario) (lead_to_nodes scenario sound) world → IsSettled world
    ends world ((round, streams), empty) =
        counts_zero scenario world round.going.good.base.sound.same (none_in_transit (directions scenario) world.network.transit empty)
        (λ n a. still_due world.network.state n (world.network.state.node n) refl
        (round.going.still n (each_among (IsNode scenario) (all_nodes scenario)
        (nodes_within 0 (length scenario.nodes) (length scenario.nodes) (omega arith)) n a)))

    rounds_are : suc (most + 2) ≡ most + 3
    rounds_are = omega arith

    settles : (world : World) → InStep scenario world → WorldSteady costs world → Comes IsSettled (settled_by scenario world)
    settles world s streams =
        let ended = Ended scenario costs depth most low (directions scenario) (lead_to_nodes scenario sound) in
        comes_as ended IsSettled (settled_by scenario world) ends
        (then_comes (Ran scenario costs (ran (all_nodes scenario) (λ n. false))) ended (row (map (λ n. Timers n) (all_nodes scenario)) world)
        (times (each turn (directions scenario)) (length scenario.nodes + 3))
        (timers_ran scenario costs (all_nodes scenario) (nodes_within 0 (length scenario.nodes) (length scenario.nodes) (omega arith)) (λ n. false)
        world (s, (streams, λ n is. absurd cc)))
        (λ next p. subst (λ (count : ℕ). Comes ended (times (each turn (directions scenario)) count next)) rounds_are
        (rounds_end scenario costs depth most low (directions scenario) (lead_to_nodes scenario sound) (most + 2) (omega arith) next (begins next p))))

pub settle_settles : (scenario : Scenario) (costs : Costs) → SoundScenario scenario → Present scenario costs → (world : World) → InStep scenario world
    → WorldSteady costs world → (line : ℕ) (acts : List Happened) (next : World)
    → outcome world (record { line = line; event = events.Settle }) ≡ Done acts next → IsSettled next
settle_settles scenario costs sound present world s streams line acts next e = elim (cases_lt 0 (length scenario.nodes)) [
  | inl some ↦ subst (Comes IsSettled) e (subst (λ (own : Scenario). Comes IsSettled (settled_by own world)) (sym s.2.base.sound.same)
      (settles scenario costs sound present some world s streams))
  | inr none ↦
      let after : InStep scenario next = turned_in_step enters scenario world s (record { line = line; event = events.Settle }) tt acts next e in
      counts_zero scenario next after.2.base.sound.same
      (λ d a. let x = each_among (λ (d : Direction). d.to.0 < length scenario.nodes) (directions scenario) (lead_to_nodes scenario sound) d a in
      absurd (omega (arith, x, none)))
      (λ n a. let x =
      each_among (IsNode scenario) (all_nodes scenario) (nodes_within 0 (length scenario.nodes) (length scenario.nodes) (omega arith)) n a in
      absurd (omega (arith, x, none)))
]
