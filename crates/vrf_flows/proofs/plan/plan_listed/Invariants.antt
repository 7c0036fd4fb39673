use Rattle.std.proofs.Common.{◌≡◌, ℕ, take}
use Rattle.std.specs.List.{list_any}
use Rattle.indexmap.specs.IndexMap.{get, IsUnique}
use Rattle.mv_base.specs.declared.ids.NodeId.{NodeId}
use Rattle.umh_select.specs.Routes.{AreCosts}
use Rattle.vrf_words.specs.declared.tree_defs.flow.Flow.{Flow}
use Rattle.vrf_words.specs.tree_defs.Keys.{same_flow}
use Rattle.vrf_flows.specs.Plan.{planned}
use Rattle.vrf_flows.specs.Sight.{seen}
use Rattle.vrf_flows.proofs.StaleLemmas.{planned_by}
use Rattle.vrf_flows.proofs.plan.plan_listed.Given as goal

abbrev pub invariant-loop-flow : goal.invariant-loop-flow
invariant-loop-flow l = record {
  each : (cost : NodeId → ℕ) → AreCosts l.sight.core.now l.sight.me cost → (q : Flow) →
      get same_flow l.plan q ≡ planned_by (list_any (same_flow q) (take l.flow-index l.listed))
      (planned (get same_flow l.flows q) (seen l.sight cost q));
  unique : IsUnique same_flow l.plan;
}
