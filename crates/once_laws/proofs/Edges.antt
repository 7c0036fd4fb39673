-- At a line of zeros the network of edges is calm.
use Rattle.std.specs.Prelude.{count_by, sum_by}
use Rattle.std.proofs.Common.{◌≡◌, ◌≢◌, ℕ, zero, suc, ◌+◌, ◌<◌, ◌≤◌, ◌&&◌, nat_le, Bool, true, false, not, cond, List, [], ◌∷◌, length, map, slice_get, inl, inr, ◌⊎◌, Option, Some, None, refl, sym, ap, subst, ◌∙◌, arith}
use Rattle.std.specs.List.{AllByRecursion}
use Rattle.std.specs.FinMap as maps
use Rattle.std.proofs.lemmas.Bool.{cases_eq, true≢false, le-leb}
use Rattle.std.proofs.lemmas.Option.{none-some, slice_get_within}
use Rattle.mv_base.specs.declared.ids.NodeId.{NodeId}
use Rattle.pim_defs.specs.Entries as entries
use Rattle.pim_defs.specs.Expiry.{is_after}
use Rattle.pim_defs.specs.declared.expiry.Expiry.{Expiry}
use Rattle.pim_defs.proofs.KeyLemmas.{entry_cmp_exact}
use Rattle.scenario_defs.specs.declared.event.IfaceEntry.{IfaceEntry}
use Rattle.scenario_defs.specs.declared.event.Kind.TheVariants as kinds
use Rattle.scenario_defs.specs.declared.scenario.Node.{Node}
use Rattle.scenario_defs.specs.declared.scenario.Scenario.{Scenario}
use Rattle.mvpn_model.specs.Sessions.{edges, edges_from, bgp_session, bgp_sessions, ldp_session}
use Rattle.mvpn_model.specs.declared.session.Session.{Session}
use Rattle.label_defs.specs.LabelData as labels
use Rattle.selective_defs.specs.Selective.{Among, IsDue}
use Rattle.network_defs.specs.session_defs.Refined.{Carried, IsLine, seen}
use Rattle.network_defs.specs.declared.session_defs.direction.Direction.{Direction}
use Rattle.edge_defs.specs.Due as dues
use Rattle.edge_defs.specs.Due.{is_selection_due}
use Rattle.edge_defs.specs.Edge.{VrfPattern, pattern_cmp, Selected, EdgeData}
use Rattle.edge_defs.specs.Flows.{flows_at}
use Rattle.network_defs.specs.Costs.{Cores}
use Rattle.edge_defs.proofs.KeyLemmas.{pattern_exact}
use Rattle.edge_words.specs.edge_laws.Network.{EdgeNetwork}
use Rattle.edge_words.specs.edge_laws.Rule.{Rule}
use Rattle.edge_words.specs.calm_laws.Calm.{NoneDue, FlowsStand}
use Rattle.edge_words.specs.calm_laws.Calm as calm
use Rattle.edge_words.proofs.calm_laws.Flows.{fresh_stands}
use Rattle.edge_words.proofs.calm_laws.Lists.{among_map}
use Rattle.edge_words.proofs.calm_laws.Maps.{get_entry}
use Rattle.network_defs.specs.Counts.{direction, node_ids, node_due}
use Rattle.network_defs.specs.Nodes.{NodeState, Edge, CoreNode, is_edge, place_of, label_place_of}
use Rattle.network_defs.specs.Refusals.{control_of}
use Rattle.network_defs.specs.World.{World, scenario_of}
use Rattle.rule_laws.specs.Edges.{as_message, edge_network}
use Rattle.rule_laws.proofs.Rows.{IsEdgeNode}
use Rattle.once_laws.specs.Facts.{EdgeFact, NodeFact}
use Rattle.once_laws.proofs.Behind.{Known}
use Rattle.once_laws.proofs.Pairs.{CalmSession, calm_sessions, each_after, each_unmapped}
use Rattle.once_laws.proofs.Rests.{nothing_pending}
use Rattle.once_laws.proofs.Zeros.{none_counted}
use Rattle.network_laws.proofs.Lists.{each_front}

-- ---- lists

each_among : {X : Type 0} (P : X → Type 0) (x : X) (xs : List X) → AllByRecursion P xs → Among x xs → P x
each_among P x [] all a = absurd a
each_among P x (y ∷ ys) all (inl e) = subst P (sym e) all.0
each_among P x (y ∷ ys) all (inr a) = each_among P x ys all.1 a

-- of each two of a list one of both orders is a session
two_of : (P : Session → Type 0) (list : List NodeId) → AllByRecursion P (bgp_sessions list) → (a b : NodeId) → Among a list → Among b list → a ≢ b
    → P (bgp_session a b) ⊎ P (bgp_session b a)
two_of P [] all a b ina inb ne = absurd ina
two_of P (x ∷ later) all a b (inl ea) (inl eb) ne = absurd (ne (ea ∙ sym eb))
two_of P (x ∷ later) all a b (inl ea) (inr inb) ne =
    inl (subst (λ (y : NodeId). P (bgp_session y b)) (sym ea)
    (each_among (λ (n : NodeId). P (bgp_session x n)) b later
    (each_unmapped P (bgp_session x) later (each_front P (map (bgp_session x) later) (bgp_sessions later) all)) inb))
two_of P (x ∷ later) all a b (inr ina) (inl eb) ne =
    inr (subst (λ (y : NodeId). P (bgp_session y a)) (sym eb)
    (each_among (λ (n : NodeId). P (bgp_session x n)) a later
    (each_unmapped P (bgp_session x) later (each_front P (map (bgp_session x) later) (bgp_sessions later) all)) ina))
two_of P (x ∷ later) all a b (inr ina) (inr inb) ne =
    two_of P later (each_after P (map (bgp_session x) later) (bgp_sessions later) all) a b ina inb ne

edge_listed : (number k : ℕ) (nodes : List Node) (node : Node) → slice_get nodes k ≡ Some node → node.edge ≡ true
    → Among (record { 0 = number + k }) (edges_from number nodes)
edge_listed number k [] node e t = absurd (none-some node e)
edge_listed number zero (own ∷ more) node e t =
    let same : own ≡ node = cc in
    let is : own.edge ≡ true = ap (λ (n : Node). n.edge) same ∙ t in
    subst (λ (b : Bool). Among (record { 0 = number + 0 })
    (cond b (record { 0 = number } ∷ edges_from (number + 1) more) (edges_from (number + 1) more))) (sym is)
    (inl (λ i. record { 0 = plain number i }))
  where
    plain : (n : ℕ) → n + 0 ≡ n
    plain n = omega arith
edge_listed number (suc k) (own ∷ more) node e t =
    let rest : Among (record { 0 = number + 1 + k }) (edges_from (number + 1) more) = edge_listed (number + 1) k more node e t in
    let later : Among (record { 0 = number + suc k }) (edges_from (number + 1) more) =
    subst (λ (m : ℕ). Among (record { 0 = m }) (edges_from (number + 1) more)) (omega arith) rest in
    elim own.edge as (λ b. Among (record { 0 = number + suc k })
    (cond b (record { 0 = number } ∷ edges_from (number + 1) more) (edges_from (number + 1) more))) [ true ↦ inr later | false ↦ later ]

-- an edge is a node of the scenario
pub record EdgeOf (scenario : Scenario) (n : NodeId) : Type 0 where
  pub node : Node
  pub at : slice_get scenario.nodes n.0 ≡ Some node
  pub edge : node.edge ≡ true

pub edge_of : (scenario : Scenario) (n : NodeId) → is_edge scenario n ≡ true → EdgeOf scenario n
edge_of scenario n h = by (slice_get scenario.nodes n.0) refl h
  where
    by : (o : Option Node) → slice_get scenario.nodes n.0 ≡ o → elim o [ None ↦ false | Some node ↦ node.edge ] ≡ true → EdgeOf scenario n
    by None e t = absurd (true≢false (sym t))
    by (Some node) e t = record { node = node; at = e; edge = t }

pub edge_among : (scenario : Scenario) (n : NodeId) → is_edge scenario n ≡ true → Among n (edges scenario)
edge_among scenario n h =
    (let e = edge_of scenario n h in
    subst (λ (m : ℕ). Among (record { 0 = m }) (edges scenario)) (omega arith) (edge_listed 0 n.0 scenario.nodes e.node e.at e.edge))

each_id : (P : NodeId → Type 0) (from count : ℕ) → AllByRecursion P (node_ids from count) → (n : NodeId) → from ≤ n.0 → n.0 < from + count → P n
each_id P from zero all n low high = absurd (omega (arith, low, high))
each_id P from (suc count) all n low high = elim (cases_eq from n.0) [
  | inl e ↦ subst P (λ i. record { 0 = e i }) all.0
  | inr ne ↦ each_id P (from + 1) count all.1 n (omega (arith, low, ne)) (omega (arith, high))
]

none_mapped : {X Y : Type 0} (f : X → Y) (xs : List X) → map f xs ≡ [] → xs ≡ []
none_mapped f [] e = refl
none_mapped f (x ∷ xs) e = absurd cc

-- ---- the network

-- an edge at a line of zeros
pub record CalmEdge (world : World) (n : NodeId) : Type 0 where
  pub edge : EdgeData
  pub at : world.network.state.node n ≡ Edge edge
  pub fact : EdgeFact (place_of world.network.state n) world.network.state.clock edge
  pub alive : (at : IfaceEntry) (expiry : Expiry) → maps.get edge.control.entries at ≡ Some expiry → is_after expiry world.network.state.clock ≡ true
  pub run : (key : VrfPattern) (selected : Selected) → maps.get edge.control.selections key ≡ Some selected
      → IsDue (scenario_of world).delay world.network.state.clock selected.since → selected.run ≡ true

module _ (scenario : Scenario) (cores : Cores) (world : World) (k : Known scenario cores world) where
  abbrev pub net : EdgeNetwork
  net = edge_network (seen world.network k.step.0) k.step.2.edges.0

  pub rule : Rule net
  rule = k.step.2.edges.2.rule

  pub flows_stand : FlowsStand net
  flows_stand n = by (world.network.state.node n) (k.facts.node n)
    where
      by : (state : NodeState) → NodeFact (place_of world.network.state n) world.network.state.clock state
          → (moment : ℕ) × (moment ≤ world.network.state.clock)
          × ((control_of state).flows ≡ flows_at (place_of world.network.state n) moment (control_of state))
      by (Edge edge) h = h.flows
      by (CoreNode part) h = fresh_stands (place_of world.network.state n) world.network.state.clock

  -- over a joined session nothing is pending
  no_changes : (a b : NodeId) → world.network.joined (direction kinds.Bgp a b) ≡ true → world.network.transit (direction kinds.Bgp a b) ≡ []
      → k.step.2.edges.0 a b ≡ []
  no_changes a b joined quiet =
      let over : Direction = direction kinds.Bgp a b in
      let carried : Carried kinds.Bgp (world.network.stream over) (world.network.transit over) (k.step.0 over) =
      subst (λ (b : Bool). IsLine kinds.Bgp b (world.network.stream over) (world.network.transit over) (k.step.0 over)) joined (k.step.1 over) in
      none_mapped as_message (k.step.2.edges.0 a b)
      (sym (k.step.2.edges.1 a b) ∙ nothing_pending kinds.Bgp (world.network.stream over) (world.network.transit over) (k.step.0 over) carried
      (k.rests over) quiet)

  one_calm : (a b : NodeId) → a ≢ b → CalmSession world (bgp_session a b) → calm.CalmSession net a b
  one_calm a b ne s =
      let joined : world.network.joined (direction kinds.Bgp a b) ≡ true = ready_joined (world.network.joined (direction kinds.Bgp a b)) s.ready in
      let back : world.network.joined (direction kinds.Bgp b a) ≡ true = sym (rule.alike a b) ∙ joined in
      record { two = ne; joined = joined; joined_back = back; quiet = no_changes a b joined s.quiet; quiet_back = no_changes b a back s.quiet_back }
    where
      ready_joined : (b : Bool) → (b && true) ≡ true → b ≡ true
      ready_joined true h = refl
      ready_joined false h = h

  pub calm_session : (a b : NodeId) → is_edge (scenario_of world) a ≡ true → is_edge (scenario_of world) b ≡ true → a ≢ b → calm.CalmSession net a b
  calm_session a b ea eb ne =
      let all =
      each_front (CalmSession world) (bgp_sessions (edges (scenario_of world))) (map ldp_session (scenario_of world).links)
      (calm_sessions world k.zeros) in
      elim (two_of (CalmSession world) (edges (scenario_of world)) all a b (edge_among (scenario_of world) a ea) (edge_among (scenario_of world) b eb)
      ne) [
        | inl s ↦ one_calm a b ne s
        | inr s ↦ (let c = one_calm b a (λ e. ne (sym e)) s in
            record { two = ne; joined = c.joined_back; joined_back = c.joined; quiet = c.quiet_back; quiet_back = c.quiet })
      ]

  -- ---- timers

  alive_by : (now : ℕ) (held : entries.Entries) → entries.due held now ≡ 0 → (at : IfaceEntry) (expiry : Expiry) → maps.get held at ≡ Some expiry
      → is_after expiry now ≡ true
  alive_by now held none at expiry e =
      let all = none_counted (λ (x : Expiry). not (is_after x now)) (maps.values held) none in
      not_not (is_after expiry now) (each_among (λ (x : Expiry). not (is_after x now) ≡ false) expiry (maps.values held) all
      (among_map (λ (p : IfaceEntry × Expiry). p.1) (at, expiry) (maps.entries held) (get_entry entry_cmp_exact held at expiry e)))
    where
      not_not : (b : Bool) → not b ≡ false → b ≡ true
      not_not true h = refl
      not_not false h = sym h

  run_by : (delay now : ℕ) (selections : maps.FinMap pattern_cmp Selected) → count_by (is_selection_due delay now) (maps.values selections) ≡ 0
      → (key : VrfPattern) (selected : Selected) → maps.get selections key ≡ Some selected → IsDue delay now selected.since → selected.run ≡ true
  run_by delay now selections none key selected e due =
      let all = none_counted (is_selection_due delay now) (maps.values selections) none in
      let here =
      each_among (λ (x : Selected). is_selection_due delay now x ≡ false) selected (maps.values selections) all
      (among_map (λ (p : VrfPattern × Selected). p.1) (key, selected) (maps.entries selections)
      (get_entry pattern_exact selections key selected e)) in
      was_run selected.run (nat_le (selected.since + delay) now) (le-leb (selected.since + delay) now due) here
    where
      was_run : (b over : Bool) → over ≡ true → (not b && over) ≡ false → b ≡ true
      was_run true over o h = refl
      was_run false over o h = absurd (true≢false (sym o ∙ h))

  pub calm_edge : (n : NodeId) → is_edge (scenario_of world) n ≡ true → CalmEdge world n
  calm_edge n h = by (world.network.state.node n) refl (k.step.2.base.kinds n h) (k.facts.node n)
      (each_id (λ (m : NodeId). node_due world.network.state m ≡ 0) 0 (length (scenario_of world).nodes) k.zeros.due n (omega arith)
      (let e = edge_of (scenario_of world) n h in let less = slice_get_within (scenario_of world).nodes n.0 e.node e.at in omega (arith, less)))
    where
      by : (state : NodeState) → world.network.state.node n ≡ state → IsEdgeNode state
          → NodeFact (place_of world.network.state n) world.network.state.clock state
          → elim state as (λ _. ℕ) [
            | Edge edge ↦ dues.due (place_of world.network.state n) world.network.state.clock edge
            | CoreNode part ↦
                labels.due (label_place_of world.network.state n) world.network.state.clock part
          ] ≡ 0 → CalmEdge world n
      by (CoreNode part) e kind fact due = absurd kind
      by (Edge edge) e kind fact due =
          let now : ℕ = world.network.state.clock in
          let delay : ℕ = (scenario_of world).delay in
          let a : ℕ = labels.due (label_place_of world.network.state n) now edge.part in
          let b : ℕ = entries.due edge.control.entries now in
          let c : ℕ = count_by (is_selection_due delay now) (maps.values edge.control.selections) in
          let d : ℕ = sum_by (dues.due_from (place_of world.network.state n) now) (maps.entries edge.control.peers) in
          let total : a + (b + (c + d)) ≡ 0 = due in
          record {
            edge = edge;
            at = e;
            fact = fact;
            alive = alive_by now edge.control.entries (omega (arith, total));
            run =
                run_by delay now edge.control.selections (omega (arith, total));
          }

  pub none_due : (root : NodeId) → is_edge (scenario_of world) root ≡ true → NoneDue net root
  none_due root h =
      (let e = calm_edge root h in
      λ key selected got due. e.run key selected (sym (ap (λ (s : NodeState). maps.get (control_of s).selections key) e.at) ∙ got) due)
