use Rattle.std.proofs.Common.{◌≡◌, ◌++◌, drop, map, take}
use Rattle.selective.specs.Roots.{run_due}
use Rattle.selective.proofs.root.run_due.Given as goal

abbrev pub invariant-loop-selection : goal.invariant-loop-selection
invariant-loop-selection l =
    l.selection-items ≡ map (run_due l.delay l.now) (take l.selection-index l.fn.selections.items) ++ drop l.selection-index l.fn.selections.items
