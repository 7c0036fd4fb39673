use Rattle.std.proofs.Common.{subst, sym}
use Rattle.umh_select.specs.Routes.{AreOfCore}
use Rattle.vrf_words.specs.tree_defs.Trees.{TreeData}
use Rattle.vrf_trees.proofs.tree.VrfTree.outgoing.Goals as goal

pub outgoing-requires-clause-peers : goal.outgoing-requires-clause-peers
outgoing-requires-clause-peers c =
    subst (λ (t : TreeData). AreOfCore c.args.core.now.nodes t.vrf.routes.learned) (sym c.self.view_is) c.requires.peers
