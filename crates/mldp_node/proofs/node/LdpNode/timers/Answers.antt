use Rattle.label_defs.specs.Steps.{Timers}
use Rattle.mldp_node.proofs.NodeLemmas.{answers_ok}
use Rattle.mldp_node.proofs.node.LdpNode.timers.Goals as goal

pub returns-in-Ok : goal.returns-in-Ok
returns-in-Ok c =
    answers_ok c.args.core.now c.args.now Timers c.self.inside.place c.self.inside.trees c.self.inside.ends c.timers.new.trees c.timers.new.ends
    c.args.self.now c.self.inside.spent
    c.in_default.is c.self.view_is (c.self.invariant c.in_default.is).on c.in-Ok.ensures.ok
