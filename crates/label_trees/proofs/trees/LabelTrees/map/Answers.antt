use Rattle.label_trees.proofs.MapLemmas.{comes}
use Rattle.label_trees.proofs.trees.LabelTrees.map.Goals as goal

pub note-requires-clause-others : goal.note-requires-clause-others
note-requires-clause-others c =
    comes c.self.inside.fib.pairs c.self.inside.uses c.map.new.self c.in_ok-map.field-0 c.in-Some.label c.args.fec.now c.args.upstream
    c.self.invariant c.in_ok-map.ensures.least c.in-Some.is c.in_ok-map.ensures.mapped
