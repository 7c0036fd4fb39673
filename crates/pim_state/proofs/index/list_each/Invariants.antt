use Rattle.std.proofs.Common.{◌≡◌, ◌||◌, not, true}
use Rattle.scenario_defs.specs.declared.event.IfaceEntry.{IfaceEntry}
use Rattle.pim_state.specs.Index.{is_kept, is_listed}
use Rattle.pim_state.proofs.index.list_each.Given as goal

abbrev pub invariant-loop-at : goal.invariant-loop-at
invariant-loop-at l = record {
  each : (at : IfaceEntry) → (is_listed l.index at || is_kept l.at-iterator at) ≡ (is_listed l.initial.index at || is_kept l.changes.entries at);
  kept : (at : IfaceEntry) → (not (is_listed l.initial.index at) || is_listed l.index at) ≡ true;
}
