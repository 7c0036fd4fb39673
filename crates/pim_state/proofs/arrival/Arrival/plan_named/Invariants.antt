use Rattle.std.proofs.Common.{◌≡◌, take}
use Rattle.indexmap.specs.IndexMap.{get, IsUnique}
use Rattle.scenario_defs.specs.declared.event.IfaceEntry.{IfaceEntry}
use Rattle.pim_state.specs.Plan.{is_at, is_named, told_at}
use Rattle.pim_state.proofs.arrival.Arrival.plan_named.Given as goal

abbrev pub invariant-loop-entry : goal.invariant-loop-entry
invariant-loop-entry l = record {
  each : (at : IfaceEntry) → get is_at l.changes at
      ≡ told_at l.self l.entries (is_named l.self (take l.entry-index l.named) at) (get is_at l.initial.changes at) at;
  unique : IsUnique is_at l.changes;
}
