use Rattle.std.proofs.Common.{◌≡◌, is_some}
use Rattle.std.specs.List.{list_any}
use Rattle.indexmap.specs.IndexMap.{get, IsUnique}
use Rattle.vrf_words.specs.declared.tree_defs.flow.Flow.{Flow}
use Rattle.vrf_words.specs.tree_defs.Keys.{same_flow}
use Rattle.vrf_flows.specs.Held.{held_too, holds_entry}
use Rattle.vrf_flows.proofs.held.hold_entries.Given as goal

abbrev pub invariant-loop-at : goal.invariant-loop-at
invariant-loop-at l = record {
  each : (q : Flow) → held_too (list_any (holds_entry q) l.at-iterator) (get same_flow l.flows q)
      ≡ held_too (list_any (holds_entry q) l.entries.entries) (get same_flow l.initial.flows q);
  grown : (q : Flow) → get same_flow l.flows q ≡ held_too (is_some (get same_flow l.flows q)) (get same_flow l.initial.flows q);
  unique : IsUnique same_flow l.flows;
}
