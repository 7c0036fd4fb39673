use Rattle.std.proofs.Common.{refl}
use Rattle.label_defs.specs.Steps.{Rerouted}
use Rattle.network_nodes.proofs.core_node.StepLemmas.{rerouted_waits, settled}
use Rattle.network_nodes.proofs.core_node.parts.Parts.reroute.Goals as goal

pub returns-clause-settles : goal.returns-clause-settles
returns-clause-settles c =
    settled c.args.core.now c.args.now Rerouted c.args.self.now c.rerouted.new.self c.args.self.now.streams c.requires.live refl c.rerouted.result
    c.told.result c.told.ensures.value c.nodes.ensures.told c.rerouted.ensures

pub returns-clause-toward : goal.returns-clause-toward
returns-clause-toward c =
    rerouted_waits c.args.core.now c.args.now c.args.self.now.node c.rerouted.new.self c.rerouted.result c.told.result c.told.ensures.value
    c.rerouted.ensures
