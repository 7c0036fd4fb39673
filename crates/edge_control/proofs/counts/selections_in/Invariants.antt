use Rattle.std.specs.Prelude.{sum_by}
use Rattle.std.proofs.Common.{◌≡◌, length, min, take}
use Rattle.vrf_words.specs.tree_defs.Trees.{TreeData}
use Rattle.edge_control.proofs.CountLemmas.{most}
use Rattle.edge_control.proofs.counts.selections_in.Given as goal

abbrev pub invariant-loop-tree : goal.invariant-loop-tree
invariant-loop-tree l = l.count ≡ min (sum_by (λ (tree : TreeData). length tree.root.selections) (take l.tree-index l.fn.trees)) most
