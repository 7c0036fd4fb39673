use Rattle.std.proofs.Common.{subst, sym}
use Rattle.umh_select.specs.Routes.{AreOfCore}
use Rattle.vrf_words.specs.tree_defs.Trees.{TreeData}
use Rattle.vrf_trees.proofs.tree.VrfTree.accepts.Goals as goal

pub accepts-requires-clause-peers : goal.accepts-requires-clause-peers
accepts-requires-clause-peers c = subst (λ (t : TreeData). AreOfCore c.args.core.now.nodes t.vrf.routes.learned) (sym c.self.view_is) c.requires.peers
