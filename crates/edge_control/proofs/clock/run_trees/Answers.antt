use Rattle.std.proofs.Common.{◌≡◌, length, arith}
use Rattle.edge_control.specs.Timers.{all_run}
use Rattle.edge_control.proofs.TimerLemmas.{trees_more}
use Rattle.edge_control.proofs.clock.run_trees.Goals as goal

pub loop-tree-preserved : goal.loop-tree-preserved
loop-tree-preserved c =
    let same : length c.loop-tree.tree-items ≡ length c.args.trees.now.items = omega arith in
    trees_more (all_run c.args.now) c.args.trees.now.items c.loop-tree.tree-items c.loop-tree.tree-index c.tree-item.result c.run_tree.new.tree
    same (omega arith) c.loop-tree.invariant c.tree-item.is c.run_tree.ensures
