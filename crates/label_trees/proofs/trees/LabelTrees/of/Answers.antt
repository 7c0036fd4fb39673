use Rattle.std.proofs.Common.{◌∙◌, sym, ap}
use Rattle.std.specs.FinMap as maps
use Rattle.label_forwarding.specs.Hops.{hop_cmp}
use Rattle.label_forwarding.specs.FibData.{FibData, hop}
use Rattle.label_trees.specs.label_uses.Uses.{Uses, use_in}
use Rattle.label_trees.specs.Trees.{fec_under}
use Rattle.label_trees.proofs.MapLemmas.{none_noted}
use Rattle.label_trees.proofs.trees.LabelTrees.of.Goals as goal

pub invariant_of-result : goal.invariant_of-result
invariant_of-result c = λ from label.
    ap (λ (f : FibData). maps.get f.pairs (hop from label)) c.of-2.ensures ∙ maps.get-empty hop_cmp (hop from label)
    ∙ none_noted c.args.count from label ∙ sym (ap (λ (u : Uses). fec_under (use_in u.labels label) from) c.in_ok-of.ensures)
