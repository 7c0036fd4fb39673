use Rattle.std.proofs.Common.{take}
use Rattle.std.specs.List.{AllByRecursion}
use Rattle.vrf_trees.specs.Trees.{IsFresh}
use Rattle.edge_control.proofs.refreshing.all_fresh.Given as goal

abbrev pub invariant-loop-tree : goal.invariant-loop-tree
invariant-loop-tree l = AllByRecursion (IsFresh l.now) (take l.tree-index l.trees)
