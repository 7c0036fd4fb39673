use Rattle.std.proofs.Common.{ap, sym, ◌∙◌}
use Rattle.indexmap.specs.IndexMap.{get}
use Rattle.vrf_words.specs.tree_defs.Keys.{same_flow}
use Rattle.vrf_words.specs.tree_defs.Trees.{TreeData}
use Rattle.vrf_words.specs.tree_laws.Imports.{has_learned}
use Rattle.vrf_trees.specs.Wants.{ups_in}
use Rattle.vrf_trees.proofs.KnownLemmas.{known_learned}
use Rattle.vrf_trees.proofs.tree.VrfTree.is_known.Goals as goal

pub returns : goal.returns
returns c = λ known.
    let inside = c.self.inside in
    ap (λ (t : TreeData). has_learned t c.args.edge c.args.fec.now) (sym c.self.view_is)
    ∙ known_learned inside.leaf (ups_in inside.flows.flows) (get same_flow inside.wants) c.self.invariant.holds c.args.flow.now c.args.edge c.args.fec.now
    (sym c.is_known.ensures ∙ known)
