use Rattle.std.proofs.Common.{◌∙◌}
use Rattle.std.specs.Ordering.{nat_cmp, ordering_then}
use Rattle.std.specs.Cmp.Lexicographic.{slice_cmp}
use Rattle.label_trees.proofs.OrderLemmas.{part_by_part}
use Rattle.label_trees.proofs.order.compare.Goals as goal

pub returns : goal.returns
returns c =
    let kinds = c.cmp.ensures ∙ (λ i. nat_cmp (c.number.ensures i) (c.number-2.ensures i)) in
    let fronts = c.then.ensures ∙ (λ i. ordering_then (kinds i) (c.compare_roots.ensures i)) in
    let octets = c.cmp-2.ensures ∙ (λ i. slice_cmp nat_cmp (c.octets.ensures.value i) (c.octets-2.ensures.value i)) in
    c.then-2.ensures ∙ ((λ i. ordering_then (fronts i) (octets i)) ∙ part_by_part c.args.own.now c.args.other.now)
