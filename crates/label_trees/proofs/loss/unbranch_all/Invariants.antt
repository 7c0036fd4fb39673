use Rattle.std.proofs.Common.{◌≡◌, drop}
use Rattle.label_trees.specs.Loss.{branches_without}
use Rattle.label_trees.proofs.loss.unbranch_all.Given as goal

abbrev pub invariant-loop-own : goal.invariant-loop-own
invariant-loop-own l = record {
  pairs : l.fib.pairs ≡ l.initial.fib.pairs;
  leaves : l.fib.leaves ≡ l.initial.fib.leaves;
  branches : branches_without l.fib.branches (drop l.own-index l.branches) ≡ branches_without l.initial.fib.branches l.branches;
}
