use Rattle.std.proofs.Common.{◌≡◌, ◌++◌, drop, map, take}
use Rattle.edge_control.specs.Timers.{all_run}
use Rattle.edge_control.proofs.clock.run_trees.Given as goal

abbrev pub invariant-loop-tree : goal.invariant-loop-tree
invariant-loop-tree l = l.tree-items ≡ map (all_run l.now) (take l.tree-index l.fn.trees.items) ++ drop l.tree-index l.fn.trees.items
