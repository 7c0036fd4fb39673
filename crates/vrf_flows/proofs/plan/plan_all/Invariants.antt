use Rattle.std.proofs.Common.{◌≡◌, ℕ, None}
use Rattle.indexmap.specs.IndexMap.{get, IsUnique}
use Rattle.mv_base.specs.declared.ids.NodeId.{NodeId}
use Rattle.umh_select.specs.Routes.{AreCosts}
use Rattle.vrf_words.specs.declared.tree_defs.flow.Flow.{Flow}
use Rattle.vrf_words.specs.tree_defs.Keys.{same_flow}
use Rattle.vrf_flows.specs.Plan.{puts, replan}
use Rattle.vrf_flows.specs.Sight.{seen}
use Rattle.vrf_flows.proofs.plan.plan_all.Given as goal

abbrev pub invariant-loop-flow : goal.invariant-loop-flow
invariant-loop-flow l = record {
  each : (cost : NodeId → ℕ) → AreCosts l.sight.core.now l.sight.me cost → (q : Flow) →
      puts (λ flow held. replan held (seen l.sight cost flow)) l.flow-iterator (get same_flow l.plan q) q
      ≡ puts (λ flow held. replan held (seen l.sight cost flow)) l.flows.entries None q;
  unique : IsUnique same_flow l.plan;
}
