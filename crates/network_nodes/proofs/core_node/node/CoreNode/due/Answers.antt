use Rattle.std.proofs.Common.{ap, ◌∙◌}
use Rattle.label_defs.specs.LabelData.{due}
use Rattle.label_defs.specs.Node.{place_in}
use Rattle.network_nodes.specs.core_node.View.{CoreView}
use Rattle.network_nodes.proofs.core_node.CallLemmas.{seen_unspent}
use Rattle.network_nodes.proofs.core_node.node.CoreNode.due.Goals as goal

pub returns : goal.returns
returns c = λ goes own.
    let live = c.self.invariant (seen_unspent c.self.inside.parts c.self.inside.spent c.args.self.now c.self.view_is goes) in
    c.due.ensures live.unspent own ∙ ap (λ (view : CoreView). due (place_in view.labels.place own) c.args.now view.labels.node.part) c.self.view_is
