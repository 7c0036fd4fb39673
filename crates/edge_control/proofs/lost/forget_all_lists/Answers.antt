use Rattle.std.proofs.Common.{◌≡◌, length, arith}
use Rattle.edge_control.specs.Taking.{without_lists}
use Rattle.edge_control.proofs.TimerLemmas.{trees_more}
use Rattle.edge_control.proofs.lost.forget_all_lists.Goals as goal

pub loop-tree-preserved : goal.loop-tree-preserved
loop-tree-preserved c =
    let same : length c.loop-tree.tree-items ≡ length c.args.trees.now.items = omega arith in
    trees_more (without_lists c.args.peer) c.args.trees.now.items c.loop-tree.tree-items c.loop-tree.tree-index c.tree-item.result
    c.forget_lists.new.tree same (omega arith) c.loop-tree.invariant c.tree-item.is c.forget_lists.ensures
