use Rattle.std.proofs.Common.{◌≡◌, ◌++◌, drop, map, take}
use Rattle.edge_control.specs.Taking.{without_lists}
use Rattle.edge_control.proofs.lost.forget_all_lists.Given as goal

abbrev pub invariant-loop-tree : goal.invariant-loop-tree
invariant-loop-tree l = l.tree-items ≡ map (without_lists l.peer) (take l.tree-index l.fn.trees.items) ++ drop l.tree-index l.fn.trees.items
