use Rattle.std.proofs.Common.{min, ap, ◌∙◌, arith}
use Rattle.vrf_words.specs.tree_defs.Trees.{TreeData}
use Rattle.control_laws.specs.Between.{tree_due}
use Rattle.edge_routing.proofs.edge_leaves.DueLemmas.{due_more, most}
use Rattle.edge_routing.proofs.edge_leaves.timers.due.Goals as goal

pub loop-tree-preserved : goal.loop-tree-preserved
loop-tree-preserved c =
    c.saturating_add-count.ensures
    ∙ due_more (tree_due c.args.now) c.trees-tree-items.result.now c.loop-tree.tree-index c.tree-item.result c.loop-tree.count c.tree_due.result
    (omega arith) c.loop-tree.invariant
    (c.tree_due.ensures ∙ ap (λ (tree : TreeData). min (tree_due c.args.now tree) most) c.tree-item.is)
