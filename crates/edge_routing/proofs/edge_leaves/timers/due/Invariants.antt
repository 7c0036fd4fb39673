use Rattle.std.specs.Prelude.{sum_by}
use Rattle.std.proofs.Common.{◌≡◌, min, take}
use Rattle.control_laws.specs.Between.{tree_due}
use Rattle.edge_routing.proofs.edge_leaves.DueLemmas.{most}
use Rattle.edge_routing.proofs.edge_leaves.timers.due.Given as goal

abbrev pub invariant-loop-tree : goal.invariant-loop-tree
invariant-loop-tree l = l.count ≡ min (sum_by (tree_due l.now) (take l.tree-index l.tree-items)) most
