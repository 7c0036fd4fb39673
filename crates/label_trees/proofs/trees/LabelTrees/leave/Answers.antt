use Rattle.std.proofs.Common.{ap, ◌∙◌}
use Rattle.label_trees.specs.label_uses.Uses.{use_in}
use Rattle.label_trees.specs.Trees.{Trees}
use Rattle.label_trees.proofs.MapLemmas.{withdrawn}
use Rattle.label_trees.proofs.trees.LabelTrees.leave.Goals as goal

pub invariant_of-self : goal.invariant_of-self
invariant_of-self c =
    withdrawn c.leave.result c.self.inside.fib c.unmap.new.self c.self.inside.uses c.leave.new.self c.args.label c.args.fec.now c.args.upstream
    c.unmap.ensures c.self.invariant (ap (λ (t : Trees). use_in t.uses.labels c.args.label) c.self.view_is ∙ c.requires) c.leave.ensures.leaving
    c.leave.ensures.free
