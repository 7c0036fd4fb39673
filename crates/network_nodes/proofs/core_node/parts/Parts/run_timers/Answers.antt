use Rattle.std.proofs.Common.{refl}
use Rattle.label_defs.specs.Steps.{Timers}
use Rattle.network_nodes.proofs.core_node.StepLemmas.{settled}
use Rattle.network_nodes.proofs.core_node.parts.Parts.run_timers.Goals as goal

pub returns-clause-settles : goal.returns-clause-settles
returns-clause-settles c =
    settled c.args.core.now c.args.now Timers c.args.self.now c.timers.new.self c.args.self.now.streams c.requires.live refl c.timers.result
    c.told.result c.told.ensures.value c.nodes.ensures.told c.timers.ensures
