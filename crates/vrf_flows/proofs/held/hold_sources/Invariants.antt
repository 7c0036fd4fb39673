use Rattle.std.proofs.Common.{◌≡◌, take}
use Rattle.std.specs.List.{list_any}
use Rattle.indexmap.specs.IndexMap.{get, IsUnique}
use Rattle.vrf_words.specs.declared.tree_defs.flow.Flow.{Flow}
use Rattle.vrf_words.specs.tree_defs.Keys.{same_flow}
use Rattle.vrf_flows.specs.Held.{joins_flow, held_too}
use Rattle.vrf_flows.proofs.held.hold_sources.Given as goal

abbrev pub invariant-loop-source : goal.invariant-loop-source
invariant-loop-source l = record {
  each : (q : Flow) → get same_flow l.flows q ≡ held_too (list_any (joins_flow l.group q) (take l.source-index l.sources))
      (get same_flow l.initial.flows q);
  unique : IsUnique same_flow l.flows;
}
