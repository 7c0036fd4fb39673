use Rattle.std.proofs.Common.{◌≡◌, take}
use Rattle.indexmap.specs.IndexMap.{get, IsUnique}
use Rattle.scenario_defs.specs.declared.event.IfaceEntry.{IfaceEntry}
use Rattle.pim_state.specs.Plan.{is_at, told_at}
use Rattle.pim_state.specs.Index.{ends_of}
use Rattle.pim_state.proofs.arrival.Arrival.plan_all_ended.Given as goal

abbrev pub invariant-loop-entry : goal.invariant-loop-entry
invariant-loop-entry l = record {
  each : (at : IfaceEntry) → get is_at l.changes at
      ≡ told_at l.self l.entries (ends_of l.self l.entries l.index (take l.entry-index l.joined) at) (get is_at l.initial.changes at) at;
  unique : IsUnique is_at l.changes;
}
