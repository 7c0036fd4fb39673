use Rattle.label_defs.specs.Steps.{Raised}
use Rattle.network_nodes.proofs.core_node.StepLemmas.{settled}
use Rattle.network_nodes.proofs.core_node.parts.Parts.raise.Goals as goal

pub returns-clause-settles : goal.returns-clause-settles
returns-clause-settles c =
    settled c.args.core.now c.args.now (Raised c.args.peer) c.args.self.now c.raised.new.self c.raise.new.self c.requires.live
    c.in_ok-raise.ensures.raised c.raised.result c.told.result c.told.ensures.value c.nodes.ensures.told c.raised.ensures
