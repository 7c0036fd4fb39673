use Rattle.std.proofs.Common.{◌∙◌, ap}
use Rattle.std.proofs.lemmas.Result.{IfOk-weaker}
use Rattle.label_trees.specs.Trees.{trees_in}
use Rattle.label_trees.proofs.TreeLemmas.{trees_are}
use Rattle.label_trees.proofs.trees.LabelTrees.trees.Goals as goal

pub returns : goal.returns
returns c = IfOk-weaker c.in_order.result _ _ (λ fecs is.
    is ∙ (trees_are c.self.inside.fib c.self.inside.uses c.self.invariant c.in_ok-trees.field-0.items c.in_ok-trees.ensures
    ∙ ap trees_in c.self.view_is)) c.in_order.ensures
