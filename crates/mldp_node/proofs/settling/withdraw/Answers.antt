use Rattle.std.proofs.Common.{sym, ◌∙◌}
use Rattle.label_trees.proofs.label_uses.SeenLemmas.{found_mapped}
use Rattle.mldp_node.proofs.settling.withdraw.Goals as goal

pub leave-requires : goal.leave-requires
leave-requires c =
    found_mapped c.args.trees.now.uses.labels c.args.fec.now c.args.label c.in-Some.upstream c.requires (sym c.upstream.ensures ∙ c.in-Some.is)
