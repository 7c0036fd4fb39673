use Rattle.std.proofs.Common.{ap}
use Rattle.vrf_words.specs.tree_defs.Flows.{VrfData}
use Rattle.vrf_trees.proofs.RefreshLemmas.{none-sound}
use Rattle.vrf_trees.proofs.tree.VrfTree.of.Goals as goal

pub invariant_of-result : goal.invariant_of-result
invariant_of-result c =
    none-sound c.of-3.result c.of.result.flows c.of-5.result c.of-5.ensures.unique c.of-5.ensures.none (ap (λ (v : VrfData). v.flows) c.of.ensures)
