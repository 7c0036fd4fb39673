use Rattle.std.proofs.Common.{◌∙◌, ap, subst}
use Rattle.label_defs.proofs.UseLemmas.{map_none}
use Rattle.mldp_node.specs.NodeData.{cause}
use Rattle.edge_core.specs.Called.{seen}
use Rattle.edge_core.specs.State.{IsTreeIn}
use Rattle.edge_core.specs.View.{EdgeView}
use Rattle.edge_core.proofs.TreeLemmas.{tree_in}
use Rattle.edge_core.proofs.edge.Edge.tree.Goals as goal

pub returns-clause-keeps : goal.returns-clause-keeps
returns-clause-keeps c = λ unspent.
    let parts = c.self.inside.parts in
    let live = c.self.invariant (map_none cause c.self.inside.spent (ap (λ (e : EdgeView). e.spent) c.self.view_is ∙ unspent)) in
    subst (λ (e : EdgeView). IsTreeIn e c.args.vrf c.tree.result.now) c.self.view_is
    (tree_in (seen parts c.self.inside.spent) c.args.vrf c.tree.result.now live.step.trees c.tree.ensures)
