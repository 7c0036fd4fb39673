use Rattle.std.proofs.Common.{◌≡◌, None, subst}
use Rattle.mv_base.specs.core_walks.Core.{Core as Walks}
use Rattle.label_defs.specs.LabelData.{due}
use Rattle.label_defs.specs.Node.{place_in}
use Rattle.mldp_node.specs.NodeData.{NodeData}
use Rattle.edge_labels.proofs.labels.EdgeLabels.due.Goals as goal

pub returns : goal.returns
returns c =
    subst (λ (n : NodeData). n.node.spent ≡ None → (own : Walks) → c.due.result ≡ due (place_in n.place own) c.args.now n.node.part) c.self.view_is
    c.due.ensures
