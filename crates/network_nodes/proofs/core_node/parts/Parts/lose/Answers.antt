use Rattle.label_defs.specs.Steps.{Noticed}
use Rattle.network_nodes.proofs.core_node.StepLemmas.{settled}
use Rattle.network_nodes.proofs.core_node.parts.Parts.lose.Goals as goal

pub returns-clause-settles : goal.returns-clause-settles
returns-clause-settles c =
    settled c.args.core.now c.args.now (Noticed c.args.peer) c.args.self.now c.noticed.new.self c.lose.new.self c.requires.live c.lose.ensures
    c.noticed.result c.told.result c.told.ensures.value c.nodes.ensures.told c.noticed.ensures
