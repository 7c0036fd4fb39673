use Rattle.std.proofs.Common.{◌∙◌}
use Rattle.label_defs.specs.Steps.{Noticed}
use Rattle.mldp_node.proofs.NodeLemmas.{answers_ok, answers_err}
use Rattle.mldp_node.proofs.node.LdpNode.noticed.Goals as goal

pub invariant_of-self : goal.invariant_of-self
invariant_of-self c = λ e. let h = c.in-Ok.ensures.ok c.args.now in
    record { tied = h.tied; on = h.on (c.self.invariant e).on; life = h.life ∙ (c.self.invariant e).life }

pub returns-in-Ok : goal.returns-in-Ok
returns-in-Ok c =
    answers_ok c.args.core.now c.args.now (Noticed c.args.peer) c.self.inside.place c.self.inside.trees c.self.inside.ends c.noticed.new.trees
    c.noticed.new.ends c.args.self.now c.self.inside.spent
    c.in_default.is c.self.view_is (c.self.invariant c.in_default.is).on (c.in-Ok.ensures.ok c.args.now)

pub returns-in-Err : goal.returns-in-Err
returns-in-Err c =
    answers_err c.args.core.now c.args.now (Noticed c.args.peer) c.self.inside.place c.self.inside.trees c.self.inside.ends c.noticed.new.trees
    c.noticed.new.ends c.args.self.now c.self.inside.spent c.in-Err.fault
    c.in_default.is c.self.view_is (λ e. c.in-Err.ensures.lacks e c.args.now)
