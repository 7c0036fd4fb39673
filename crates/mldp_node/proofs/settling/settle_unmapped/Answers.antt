use Rattle.std.proofs.Common.{sym, ◌∙◌}
use Rattle.mldp_node.proofs.PartLemmas.{rootless, treeless}
use Rattle.mldp_node.proofs.settling.settle_unmapped.Goals as goal

pub returns-in-None-clause-ok : goal.returns-in-None-clause-ok
returns-in-None-clause-ok c =
    rootless c.args.fec.now c.args.ends.now.up c.args.trees.now c.cancel.new.trees c.args.puts.now.items c.args.puts.now.items c.args.upstream
    c.in-None.is c.requires.unmapped (c.cancel.ensures c.args.upstream)

pub returns-else-is_on-clause-ok : goal.returns-else-is_on-clause-ok
returns-else-is_on-clause-ok c =
    treeless c.args.fec.now c.args.ends.now.up c.args.trees.now c.cancel-else-is_on.new.trees c.args.puts.now.items c.args.puts.now.items
    c.args.upstream
    (sym c.is_on.ensures ∙ c.if-is_on.false) c.requires.unmapped (c.cancel-else-is_on.ensures c.args.upstream)
