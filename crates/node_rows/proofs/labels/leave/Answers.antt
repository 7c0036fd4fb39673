use Rattle.std.proofs.Common.{◌∙◌, sym}
use Rattle.label_trees.proofs.label_uses.SeenLemmas.{found_mapped}
use Rattle.node_rows.proofs.labels.leave.Goals as goal

pub leave-requires : goal.leave-requires
leave-requires g c =
    found_mapped c.args.uses.now.labels c.args.fec.now c.expect-label.result c.expect-upstream.result (sym c.mapped.ensures ∙ c.expect-label.ensures)
    (sym c.upstream.ensures ∙ c.expect-upstream.ensures)
