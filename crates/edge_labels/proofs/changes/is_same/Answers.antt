use Rattle.std.proofs.Common.{◌∙◌}
use Rattle.label_forwarding.proofs.SlotLemmas.{fec-ties, fec_flips}
use Rattle.edge_labels.proofs.changes.is_same.Goals as goal

pub returns : goal.returns
returns c = c.eq.ensures ∙ (fec_flips c.args.own.now c.args.other.now ∙ fec-ties c.args.other.now c.args.own.now)
