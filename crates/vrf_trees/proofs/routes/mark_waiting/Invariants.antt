use Rattle.std.proofs.Common.{◌≡◌}
use Rattle.std.specs.FinMap as maps
use Rattle.indexmap.specs.IndexMap.{get, IsUnique}
use Rattle.vrf_words.specs.declared.tree_defs.flow.Flow.{Flow}
use Rattle.vrf_words.specs.tree_defs.Keys.{same_flow}
use Rattle.vrf_trees.specs.Wants.{marked_waiting, tunnels_in}
use Rattle.vrf_trees.proofs.routes.mark_waiting.Given as goal

abbrev pub invariant-loop-key : goal.invariant-loop-key
invariant-loop-key l = record {
  each : (q : Flow) → marked_waiting l.leaf.delay l.now l.key-iterator q (get same_flow l.wants q)
      ≡ marked_waiting l.leaf.delay l.now (maps.entries l.leaf.routes) q (get same_flow l.initial.wants q);
  unique : IsUnique same_flow l.wants;
  tunnels : tunnels_in l.wants.entries ≡ tunnels_in l.initial.wants.entries;
}
