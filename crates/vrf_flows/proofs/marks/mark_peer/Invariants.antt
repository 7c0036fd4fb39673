use Rattle.std.proofs.Common.{◌≡◌}
use Rattle.std.specs.List.{list_any}
use Rattle.indexmap.specs.IndexMap.{get, IsUnique}
use Rattle.vrf_words.specs.declared.tree_defs.flow.Flow.{Flow}
use Rattle.vrf_words.specs.tree_defs.Keys.{same_flow}
use Rattle.vrf_flows.specs.Held.{covers_from, marked}
use Rattle.vrf_flows.proofs.marks.mark_peer.Given as goal

abbrev pub invariant-loop-key : goal.invariant-loop-key
invariant-loop-key l = record {
  each : (q : Flow) → marked (list_any (covers_from l.peer q) l.key-iterator) (get same_flow l.flows q)
      ≡ marked (list_any (covers_from l.peer q) l.learned.entries) (get same_flow l.initial.flows q);
  unique : IsUnique same_flow l.flows;
}
