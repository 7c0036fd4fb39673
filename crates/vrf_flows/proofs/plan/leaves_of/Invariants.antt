use Rattle.std.proofs.Common.{◌≡◌, None, Some}
use Rattle.indexmap.specs.IndexMap.{get, IsUnique}
use Rattle.vrf_words.specs.declared.tree_defs.flow.Flow.{Flow}
use Rattle.vrf_words.specs.tree_defs.Keys.{same_flow}
use Rattle.vrf_flows.specs.Plan.{puts, loss}
use Rattle.vrf_flows.proofs.plan.leaves_of.Given as goal

abbrev pub invariant-loop-flow : goal.invariant-loop-flow
invariant-loop-flow l = record {
  each : (q : Flow) → puts (λ flow now. loss (get same_flow l.flows flow) (Some now)) l.flow-iterator (get same_flow l.leaves q) q
      ≡ puts (λ flow now. loss (get same_flow l.flows flow) (Some now)) l.plan.entries None q;
  unique : IsUnique same_flow l.leaves;
}
