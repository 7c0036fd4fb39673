use Rattle.std.proofs.Common.{List, ap, ◌∙◌}
use Rattle.std.specs.List.{list_any}
use Rattle.std.specs.FinSet as sets
use Rattle.vrf_words.specs.tree_defs.Trees.{TreeData}
use Rattle.edge_routing.proofs.edge_leaves.WantLemmas.{leaf_told, leaf_wanted, or_none}
use Rattle.edge_routing.proofs.edge_leaves.wanted.wants.Goals as goal

pub returns-then-is_wanted : goal.returns-then-is_wanted
returns-then-is_wanted c =
    let any = c.is_wanted.ensures ∙ ap (λ (trees : List TreeData). list_any (λ (tree : TreeData). sets.contains tree.wants c.args.fec.now) trees)
    c.trees.ensures in
    λ core. leaf_wanted c.args.control.now c.requires core c.args.fec.now c.is_wanted.result c.if-is_wanted.true any

pub returns-else-is_wanted : goal.returns-else-is_wanted
returns-else-is_wanted c =
    let any = c.is_wanted.ensures ∙ ap (λ (trees : List TreeData). list_any (λ (tree : TreeData). sets.contains tree.wants c.args.fec.now) trees)
    c.trees.ensures in
    λ core.
    or_none c.is_inclusive.result c.is_wanted.result c.if-is_wanted.false
    ∙ leaf_told c.args.control.now c.requires core c.args.fec.now c.is_inclusive.result c.is_wanted.result (c.is_inclusive.ensures core) any
