use Rattle.std.proofs.Common.{◌≡◌}
use Rattle.indexmap.specs.IndexMap.{get, IsUnique}
use Rattle.vrf_words.specs.declared.tree_defs.flow.Flow.{Flow}
use Rattle.vrf_words.specs.tree_defs.Keys.{same_flow}
use Rattle.vrf_flows.specs.Plan.{puts}
use Rattle.vrf_trees.specs.Plan.{leaves_for}
use Rattle.vrf_trees.proofs.plan.plan_leaves.Given as goal

abbrev pub invariant-loop-flow : goal.invariant-loop-flow
invariant-loop-flow l = record {
  each : (q : Flow) → puts leaves_for l.flow-iterator (get same_flow l.plan q) q
      ≡ puts leaves_for l.leaves.entries (get same_flow l.initial.plan q) q;
  unique : IsUnique same_flow l.plan;
}
