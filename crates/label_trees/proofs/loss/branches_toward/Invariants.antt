use Rattle.std.proofs.Common.{◌≡◌, ◌&&◌, take}
use Rattle.std.specs.List.{list_any}
use Rattle.std.specs.Ordering.{eq_by_cmp}
use Rattle.label_defs.specs.Keys.{branch_cmp}
use Rattle.label_defs.specs.LabelData.{same_fec}
use Rattle.label_defs.specs.declared.branch.Branch.{Branch}
use Rattle.label_trees.specs.Loss.{is_lost}
use Rattle.label_trees.proofs.loss.branches_toward.Given as goal

abbrev pub invariant-loop-fec : goal.invariant-loop-fec
invariant-loop-fec l =
    (own : Branch) → list_any (eq_by_cmp branch_cmp own) l.found.items
    ≡ (list_any (same_fec own.fec) (take l.fec-index l.fecs) && is_lost l.peer l.fib.branches own)
