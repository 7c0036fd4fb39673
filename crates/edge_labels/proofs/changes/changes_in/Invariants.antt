use Rattle.std.proofs.Common.{◌≡◌, ◌++◌, drop}
use Rattle.edge_labels.specs.Changes.{changes_in}
use Rattle.edge_labels.proofs.changes.changes_in.Given as goal

abbrev pub invariant-loop-fec : goal.invariant-loop-fec
invariant-loop-fec l =
    l.changes.items ++ changes_in l.fib.leaves l.leaves (drop l.fec-index l.fecs) ≡ changes_in l.fib.leaves l.leaves l.fecs
