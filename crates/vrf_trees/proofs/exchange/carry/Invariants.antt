use Rattle.std.proofs.Common.{◌≡◌}
use Rattle.indexmap.specs.IndexMap.{get, IsUnique}
use Rattle.vrf_words.specs.declared.tree_defs.flow.Flow.{Flow}
use Rattle.vrf_words.specs.tree_defs.Keys.{same_flow}
use Rattle.vrf_flows.specs.Plan.{sets}
use Rattle.vrf_trees.specs.Plan.{next_for}
use Rattle.vrf_trees.proofs.exchange.carry.Given as goal

abbrev pub invariant-loop-flow : goal.invariant-loop-flow
invariant-loop-flow l = record {
  each : (q : Flow) → sets next_for l.flow-iterator (get same_flow l.wants q) q ≡ sets next_for l.fn.plan.entries (get same_flow l.initial.wants q) q;
  unique : IsUnique same_flow l.wants;
}
