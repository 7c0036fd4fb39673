use Rattle.std.proofs.Common.{◌≡◌, take}
use Rattle.std.specs.List.{list_any}
use Rattle.indexmap.specs.IndexMap.{get, IsUnique}
use Rattle.vrf_words.specs.declared.tree_defs.flow.Flow.{Flow}
use Rattle.vrf_words.specs.tree_defs.Keys.{same_flow}
use Rattle.vrf_flows.specs.Held.{names_in, marked}
use Rattle.vrf_flows.proofs.marks.mark_message.Given as goal

abbrev pub invariant-loop-group : goal.invariant-loop-group
invariant-loop-group l = record {
  each : (q : Flow) → get same_flow l.flows q ≡ marked (list_any (λ group. names_in group q) (take l.group-index l.groups))
      (get same_flow l.initial.flows q);
  unique : IsUnique same_flow l.flows;
}
