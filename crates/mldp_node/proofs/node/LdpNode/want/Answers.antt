use Rattle.std.proofs.Common.{◌∙◌}
use Rattle.label_defs.specs.Steps.{Want}
use Rattle.mldp_node.proofs.NodeLemmas.{answers_ok, answers_err}
use Rattle.mldp_node.proofs.node.LdpNode.want.Goals as goal

pub invariant_of-self : goal.invariant_of-self
invariant_of-self c =
    λ e. record {
      tied = (c.in-Ok.ensures.ok c.args.now).tied;
      on = (c.in-Ok.ensures.ok c.args.now).on (c.self.invariant e).on;
      life =
          (c.in-Ok.ensures.ok c.args.now).life ∙ (c.self.invariant e).life;
    }

pub returns-in-Ok : goal.returns-in-Ok
returns-in-Ok c =
    answers_ok c.args.core.now c.args.now (Want c.args.fec) c.self.inside.place c.self.inside.trees c.self.inside.ends c.want.new.trees
    c.want.new.ends c.args.self.now c.self.inside.spent
    c.in_default.is c.self.view_is (c.self.invariant c.in_default.is).on (c.in-Ok.ensures.ok c.args.now)

pub returns-in-Err : goal.returns-in-Err
returns-in-Err c =
    answers_err c.args.core.now c.args.now (Want c.args.fec) c.self.inside.place c.self.inside.trees c.self.inside.ends c.want.new.trees
    c.want.new.ends c.args.self.now c.self.inside.spent c.in-Err.fault
    c.in_default.is c.self.view_is (λ e. c.in-Err.ensures.lacks e c.args.now)
