use Rattle.std.proofs.Common.{◌≡◌, ◌≤◌, count_by, is_some}
use Rattle.std.specs.Map.{values_of}
use Rattle.indexmap.specs.IndexMap.{get, spare, IsUnique}
use Rattle.scenario_defs.specs.declared.event.IfaceEntry.{IfaceEntry}
use Rattle.pim_state.specs.Changes.{then_at}
use Rattle.pim_state.specs.Plan.{is_at}
use Rattle.pim_state.proofs.downstream.Downstream.take.Given as goal

abbrev pub invariant-loop-at : goal.invariant-loop-at
invariant-loop-at l = record {
  each : (at : IfaceEntry) →
      then_at l.at-iterator (get is_at l.self-inside.entries at) at ≡ then_at l.initial.at-iterator (get is_at l.initial.self-inside.entries at) at;
  room : count_by is_some (values_of l.at-iterator) ≤ spare l.self-inside.entries;
  unique : IsUnique is_at l.self-inside.entries;
  index : l.self-inside.index ≡ l.initial.self-inside.index;
  next : l.self-inside.next ≡ l.initial.self-inside.next;
}
