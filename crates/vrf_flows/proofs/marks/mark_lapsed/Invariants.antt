use Rattle.std.proofs.Common.{◌≡◌}
use Rattle.std.specs.List.{list_any}
use Rattle.indexmap.specs.IndexMap.{get, IsUnique}
use Rattle.vrf_words.specs.declared.tree_defs.flow.Flow.{Flow}
use Rattle.vrf_words.specs.tree_defs.Keys.{same_flow}
use Rattle.vrf_flows.specs.Held.{lapsed, marked}
use Rattle.vrf_flows.proofs.marks.mark_lapsed.Given as goal

abbrev pub invariant-loop-at : goal.invariant-loop-at
invariant-loop-at l = record {
  each : (q : Flow) → marked (list_any (lapsed l.from l.to q) l.at-iterator) (get same_flow l.flows q)
      ≡ marked (list_any (lapsed l.from l.to q) l.entries.entries) (get same_flow l.initial.flows q);
  unique : IsUnique same_flow l.flows;
}
