use Rattle.std.proofs.Common.{◌≡◌, take}
use Rattle.std.specs.List.{list_any}
use Rattle.indexmap.specs.IndexMap.{get, IsUnique}
use Rattle.vrf_words.specs.declared.tree_defs.flow.Flow.{Flow}
use Rattle.vrf_words.specs.tree_defs.Keys.{same_flow}
use Rattle.vrf_flows.proofs.StaleLemmas.{planned_by}
use Rattle.vrf_trees.specs.Plan.{planned}
use Rattle.vrf_trees.proofs.plan.plan_listed.Given as goal

abbrev pub invariant-loop-flow : goal.invariant-loop-flow
invariant-loop-flow l = record {
  each : (q : Flow) → get same_flow l.plan q ≡ planned_by (list_any (same_flow q) (take l.flow-index l.listed))
      (planned l.leaf q (get same_flow l.wants q));
  unique : IsUnique same_flow l.plan;
}
