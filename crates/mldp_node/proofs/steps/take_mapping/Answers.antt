use Rattle.std.proofs.Common.{sym, ◌∙◌}
use Rattle.mldp_node.proofs.SettleLemmas.{on_ok}
use Rattle.mldp_node.proofs.StepLemmas.{branch_tied, mapping_made, no_tree_made}
use Rattle.mldp_node.proofs.steps.take_mapping.Goals as goal

pub finish-requires-clause-tied : goal.finish-requires-clause-tied
finish-requires-clause-tied c =
    branch_tied c.args.trees.now c.branch-trees.new.self c.args.ends.now c.args.from c.args.fec.now c.args.label c.in_ok-branch.ensures
    c.requires.spelled c.requires.tied

pub returns-in_ok-branch-clause-ok : goal.returns-in_ok-branch-clause-ok
returns-in_ok-branch-clause-ok c = on_ok c.finish.result
    (λ h now. mapping_made c.args.core.now c.args.place.now now c.args.trees.now c.args.ends.now c.branch-trees.new.self c.new.result.items
    c.args.from c.args.fec.now c.args.label c.finish.new.trees c.finish.new.ends
    (sym c.is_tree.ensures ∙ c.if-is_tree.true) c.in_ok-branch.ensures c.new.ensures.items h)
    c.finish.ensures.ok

pub returns-else-is_tree-clause-ok : goal.returns-else-is_tree-clause-ok
returns-else-is_tree-clause-ok c = on_ok c.finish-else-is_tree.result
    (λ h now. no_tree_made c.args.core.now c.args.place.now now c.args.trees.now c.args.ends.now c.new-else-is_tree.result.items c.args.from
    c.args.fec.now c.args.label c.finish-else-is_tree.new.trees c.finish-else-is_tree.new.ends
    (sym c.is_tree.ensures ∙ c.if-is_tree.false) c.new-else-is_tree.ensures.items h)
    c.finish-else-is_tree.ensures.ok
