use Rattle.std.proofs.Common.{◌≡◌, ◌++◌, drop}
use Rattle.label_trees.specs.Loss.{branches_to}
use Rattle.label_trees.proofs.loss.push_branches.Given as goal

abbrev pub invariant-loop-hop : goal.invariant-loop-hop
invariant-loop-hop l = l.found.items ++ branches_to l.peer l.fec (drop l.hop-index l.hops) ≡ l.initial.found.items ++ branches_to l.peer l.fec l.hops
