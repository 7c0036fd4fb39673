use Rattle.std.proofs.Common.{ap, sym, ◌∙◌}
use Rattle.edge_routing.specs.edge_joins.Upstreams.{import_at}
use Rattle.edge_routing.proofs.edge_joins.ImportLemmas.{first_here, first_more, first_none}
use Rattle.edge_routing.proofs.edge_joins.upstreams.first_import.Goals as goal

pub loop-tree-preserved : goal.loop-tree-preserved
loop-tree-preserved c =
    first_more (import_at c.args.join.now) c.args.trees.now c.loop-tree.tree-index c.tree-item.result c.import_at-import.result c.loop-tree-test.true
    c.loop-tree.invariant
    (c.import_at-import.ensures ∙ ap (import_at c.args.join.now) c.tree-item.is) (sym c.is_some.ensures ∙ c.if-is_some.false)

pub returns-then-is_some : goal.returns-then-is_some
returns-then-is_some c =
    first_here (import_at c.args.join.now) c.args.trees.now c.loop-tree.tree-index c.tree-item.result c.import_at-import.result c.loop-tree-test.true
    c.loop-tree.invariant
    (c.import_at-import.ensures ∙ ap (import_at c.args.join.now) c.tree-item.is) (sym c.is_some.ensures ∙ c.if-is_some.true)

pub returns : goal.returns
returns c = first_none (import_at c.args.join.now) c.args.trees.now c.loop-tree.tree-index c.loop-tree-test.false c.loop-tree.invariant
