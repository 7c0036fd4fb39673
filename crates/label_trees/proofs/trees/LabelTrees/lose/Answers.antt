use Rattle.std.proofs.Common.{◌==◌, ◌&&◌, not, ℕ, List, ◌∙◌, sym, ap}
use Rattle.std.specs.List.{list_any}
use Rattle.std.specs.FinMap as maps
use Rattle.std.specs.FinMap.{FinMap}
use Rattle.std.specs.FinSet as sets
use Rattle.mldp.specs.declared.mldp_fec.fec.Fec.{Fec}
use Rattle.label_defs.specs.LabelData.{same_fec}
use Rattle.label_forwarding.specs.Hops.{hop_cmp}
use Rattle.label_forwarding.specs.FibData.{FibData, hop}
use Rattle.label_trees.specs.label_uses.Uses.{Uses, use_in, without}
use Rattle.label_trees.specs.Loss.{branches_without, is_lost, notes_without}
use Rattle.label_trees.specs.Trees.{Trees, fec_under}
use Rattle.label_trees.proofs.LossLemmas.{branches_left, lost_notes}
use Rattle.label_trees.proofs.trees.LabelTrees.lose.Goals as goal

pub invariant_of-self-2 : goal.invariant_of-self-2
invariant_of-self-2 c =
    let pairs = ap (λ (f : FibData). f.pairs) c.unbranch_all.ensures ∙ (ap (λ (f : FibData). f.pairs) c.unmap_all.ensures
    ∙ ap (λ (labels : List ℕ). notes_without c.args.peer c.self.inside.fib.pairs labels) c.deref-2.ensures.value) in
    λ from label.
    ap (λ (notes : FinMap hop_cmp Fec). maps.get notes (hop from label)) pairs
    ∙ (lost_notes c.args.peer c.self.inside.fib.pairs c.self.inside.uses.labels c.in_ok-labels.labels.items c.self.invariant c.in_ok-labels.ensures
    from label
    ∙ sym (ap (λ (u : Uses). fec_under (use_in u.labels label) from) c.in_ok-lose.ensures.lost))

pub returns : goal.returns
returns c =
    let uses = c.in_ok-lose.ensures.lost ∙ ap (λ (t : Trees). without c.args.peer t.uses) c.self.view_is in
    let leaves =
    ap (λ (f : FibData). f.leaves) c.unbranch_all.ensures
    ∙ (ap (λ (f : FibData). f.leaves) c.unmap_all.ensures ∙ ap (λ (t : Trees). t.leaves) c.self.view_is) in
    let kept = ap (λ (f : FibData). f.branches) c.unmap_all.ensures in
    let lost = branches_left c.self.inside.fib c.args.peer c.in_ok-fecs.fecs.items c.in_ok-branches.branches.items c.in_ok-fecs.ensures
    (λ own. c.in_ok-branches.ensures own ∙ ap (λ (fecs : List Fec). list_any (same_fec own.fec) fecs
    && is_lost c.args.peer c.self.inside.fib.branches own) c.deref.ensures.value) in
    let branches = ap (λ (f : FibData). f.branches) c.unbranch_all.ensures ∙ ((λ i. branches_without (kept i) (c.deref-3.ensures.value i))
    ∙ (lost ∙ ap (λ (t : Trees). sets.retain t.branches (λ branch. not (branch.node.0 == c.args.peer.0))) c.self.view_is)) in
    λ i. record { uses = uses i; leaves = leaves i; branches = branches i }
