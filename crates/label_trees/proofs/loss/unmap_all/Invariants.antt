use Rattle.std.proofs.Common.{◌≡◌, drop}
use Rattle.label_trees.specs.Loss.{notes_without}
use Rattle.label_trees.proofs.loss.unmap_all.Given as goal

abbrev pub invariant-loop-label : goal.invariant-loop-label
invariant-loop-label l = record {
  pairs : notes_without l.peer l.fib.pairs (drop l.label-index l.labels) ≡ notes_without l.peer l.initial.fib.pairs l.labels;
  leaves : l.fib.leaves ≡ l.initial.fib.leaves;
  branches : l.fib.branches ≡ l.initial.fib.branches;
}
