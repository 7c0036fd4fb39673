-- The sessions of a scenario, those that are joined in a run, and its links are between nodes of the scenario.
use Rattle.std.specs.Prelude.{◌==◌}
use Rattle.std.proofs.Common.{◌≡◌, true, false, slice_get, filter, length, List, [], ◌∷◌, Option, None, Some, refl, sym, subst, ◌∙◌, arith}
use Rattle.std.specs.List.{AllByRecursion}
use Rattle.std.proofs.lemmas.Bool.{and_parts, true≢false}
use Rattle.std.proofs.lemmas.List.Elements.{recursion_from_All}
use Rattle.std.proofs.lemmas.List.Sums.{length-filter}
use Rattle.std.proofs.lemmas.Option.{slice_get_within}
use Rattle.mv_base.specs.declared.core_link.Link.{Link}
use Rattle.mv_base.specs.declared.ids.NodeId.{NodeId}
use Rattle.mv_base.specs.core_walks.Topology.{HasEnds}
use Rattle.label_defs.proofs.KeyLemmas.{node_equal}
use Rattle.scenario_defs.specs.declared.event.Kind.{Kind}
use Rattle.scenario_defs.specs.declared.event.Kind.TheVariants as kinds
use Rattle.scenario_defs.specs.declared.scenario.Node.{Node}
use Rattle.scenario_defs.specs.declared.scenario.Scenario.{Scenario}
use Rattle.mvpn_model.specs.Sessions.{sessions}
use Rattle.network_defs.specs.declared.session_defs.direction.Direction.{Direction}
use Rattle.network_defs.specs.Counts.{direction, directions_of, directions, link_ways}
use Rattle.network_defs.specs.Nodes.{is_edge}
use Rattle.network_defs.specs.World.{World}
use Rattle.delivery_laws.specs.network_laws.Sound.{SoundScenario}
use Rattle.delivery_laws.proofs.network_laws.Lists.{each_flat, each_weaker, each_filtered}
use Rattle.delivery_laws.proofs.network_laws.RunNodes.{IsNode, HasNodes, sessions_within}
use Rattle.rule_laws.proofs.Acts.{InStep}
use Rattle.delivery_laws.specs.Flood.{is_way}
use Rattle.delivery_laws.specs.Linked.{IsLink, NetworkLinked}

-- both nodes are there
abbrev pub AreNodes : Scenario → NodeId → NodeId → Type 0
AreNodes scenario from to = IsNode scenario from × IsNode scenario to

abbrev pub IsOver : Scenario → Direction → Type 0
IsOver scenario over = AreNodes scenario over.from over.to

abbrev pub IsWay : Scenario → NodeId × NodeId → Type 0
IsWay scenario way = AreNodes scenario way.0 way.1

module _ (scenario : Scenario) (sound : SoundScenario scenario) where
  -- ---- sessions

  pub directions_within : AllByRecursion (IsOver scenario) (directions scenario)
  directions_within =
      each_flat (IsOver scenario) directions_of (sessions scenario)
      (each_weaker (HasNodes scenario) (λ session. AllByRecursion (IsOver scenario) (directions_of session)) (λ session h. (h, ((h.1, h.0), tt)))
      (sessions scenario) (sessions_within scenario sound))

  -- ---- links

  pub ways_within : AllByRecursion (IsWay scenario) (link_ways scenario)
  ways_within =
      each_flat (IsWay scenario) (λ link. (link.a, link.b) ∷ (link.b, link.a) ∷ []) scenario.links
      (each_weaker (HasEnds (length scenario.nodes)) (λ (link : Link). AllByRecursion (IsWay scenario) ((link.a, link.b) ∷ (link.b, link.a) ∷ []))
      (λ link ends. ((ends.a, ends.b), ((ends.b, ends.a), tt))) scenario.links
      (recursion_from_All (HasEnds (length scenario.nodes)) scenario.links sound.rules.core.topology.ends))

  pub link_within : (a b : NodeId) → IsLink scenario a b → AreNodes scenario a b
  link_within a b link =
      by (filter (is_way a b) (link_ways scenario)) (length-filter (is_way a b) (link_ways scenario) ∙ link)
      (each_filtered (IsWay scenario) (is_way a b) (link_ways scenario) ways_within)
    where
      by : (ways : List (NodeId × NodeId)) → length ways ≡ 1 → AllByRecursion (λ way. IsWay scenario way × (is_way a b way ≡ true)) ways
          → AreNodes scenario a b
      by [] e h = absurd (omega (arith, e))
      by (way ∷ more) e h =
          let same = and_parts (way.0.0 == a.0) (way.1.0 == b.0) h.0.1 in
          subst (λ (n : NodeId). AreNodes scenario n b) (node_equal way.0 a same.0)
          (subst (λ (n : NodeId). AreNodes scenario way.0 n) (node_equal way.1 b same.1) h.0.0)

  -- ---- sessions that are joined

  edge_within : (n : NodeId) → is_edge scenario n ≡ true → IsNode scenario n
  edge_within n e = by (slice_get scenario.nodes n.0) refl e
    where
      by : (o : Option Node) → slice_get scenario.nodes n.0 ≡ o → elim o [ None ↦ false | Some node ↦ node.edge ] ≡ true → IsNode scenario n
      by None at is = absurd (true≢false (sym is))
      by (Some node) at is = slice_get_within scenario.nodes n.0 node at

  joined_peers : (world : World) → InStep scenario world → (from to : NodeId) → world.network.joined (direction kinds.Bgp from to) ≡ true
      → IsNode scenario to
  joined_peers world (pending, are, good) from to joined =
      edge_within to (subst (λ (own : Scenario). is_edge own to ≡ true) good.base.sound.same (good.base.peers from to joined).0)

  pub joined_within : (world : World) → NetworkLinked scenario world.network → InStep scenario world → (kind : Kind) (from to : NodeId)
      → world.network.joined (direction kind from to) ≡ true → AreNodes scenario from to
  joined_within world linked step kinds.Ldp from to joined =
      (let ends = link_within to from (linked.joined (direction kinds.Ldp from to) joined) in (ends.1, ends.0))
  joined_within world linked step kinds.Bgp from to joined =
      (joined_peers world step to from (sym (step.2.edges.2.rule.alike from to) ∙ joined), joined_peers world step from to joined)
