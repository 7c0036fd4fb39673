use Rattle.std.proofs.Common.{◌≡◌, take}
use Rattle.indexmap.specs.IndexMap.{get, IsUnique}
use Rattle.scenario_defs.specs.declared.event.IfaceEntry.{IfaceEntry}
use Rattle.pim_state.specs.Plan.{is_at, ends_among, told_at}
use Rattle.pim_state.proofs.arrival.Arrival.plan_listed.Given as goal

abbrev pub invariant-loop-at : goal.invariant-loop-at
invariant-loop-at l = record {
  each : (at : IfaceEntry) → get is_at l.changes at
      ≡ told_at l.self l.entries (ends_among l.self l.entries (take l.at-index l.listed) at) (get is_at l.initial.changes at) at;
  unique : IsUnique is_at l.changes;
}
