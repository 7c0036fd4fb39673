use Rattle.std.proofs.Common.{◌≡◌, ◌&&◌, take}
use Rattle.scenario_defs.specs.declared.event.IfaceEntry.{IfaceEntry}
use Rattle.pim_state.specs.Index.{is_left, is_listed}
use Rattle.pim_state.proofs.index.unlist_gone.Given as goal

abbrev pub invariant-loop-at : goal.invariant-loop-at
invariant-loop-at l =
    (at : IfaceEntry) → is_listed l.index at ≡ (is_listed l.initial.index at && is_left l.entries (take l.at-index l.changed) at)
