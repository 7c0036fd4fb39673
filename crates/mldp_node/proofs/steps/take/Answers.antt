use Rattle.std.proofs.Common.{subst, sym}
use Rattle.mldp.specs.declared.mldp_msgs.message.LabelMessage.{LabelMessage}
use Rattle.label_defs.specs.Steps.{Taken}
use Rattle.mldp_node.specs.Parts.{Made, LacksLabels}
use Rattle.mldp_node.proofs.SettleLemmas.{on_ok}
use Rattle.mldp_node.proofs.steps.take.Goals as goal

pub returns-in-Mapping-clause-ok : goal.returns-in-Mapping-clause-ok
returns-in-Mapping-clause-ok c = on_ok c.take_mapping.result
    (λ h. subst (λ (m : LabelMessage). Made c.args.core.now c.args.place.now c.args.now (Taken c.args.from m) c.args.trees.now c.args.ends.now
    c.take_mapping.new.trees c.take_mapping.new.ends) (sym c.in-Mapping.is) (h c.args.now))
    c.take_mapping.ensures.ok

pub returns-in-Mapping-clause-lacks : goal.returns-in-Mapping-clause-lacks
returns-in-Mapping-clause-lacks c =
    λ e. subst (λ (m : LabelMessage). LacksLabels c.args.core.now c.args.place.now c.args.now (Taken c.args.from m) c.args.trees.now c.args.ends.now)
    (sym c.in-Mapping.is) (c.take_mapping.ensures.lacks e c.args.now)

pub returns-in-Withdraw-clause-ok : goal.returns-in-Withdraw-clause-ok
returns-in-Withdraw-clause-ok c = on_ok c.take_withdraw.result
    (λ h. subst (λ (m : LabelMessage). Made c.args.core.now c.args.place.now c.args.now (Taken c.args.from m) c.args.trees.now c.args.ends.now
    c.take_withdraw.new.trees c.take_withdraw.new.ends) (sym c.in-Withdraw.is) (h c.args.now))
    c.take_withdraw.ensures.ok

pub returns-in-Withdraw-clause-lacks : goal.returns-in-Withdraw-clause-lacks
returns-in-Withdraw-clause-lacks c =
    λ e. subst (λ (m : LabelMessage). LacksLabels c.args.core.now c.args.place.now c.args.now (Taken c.args.from m) c.args.trees.now c.args.ends.now)
    (sym c.in-Withdraw.is) (c.take_withdraw.ensures.lacks e c.args.now)

pub returns-in-Ignored-clause-ok : goal.returns-in-Ignored-clause-ok
returns-in-Ignored-clause-ok c = on_ok c.pass.result
    (λ h. subst (λ (m : LabelMessage). Made c.args.core.now c.args.place.now c.args.now (Taken c.args.from m) c.args.trees.now c.args.ends.now
    c.pass.new.trees c.pass.new.ends) (sym c.in-Ignored.is) (h c.args.now c.args.from c.in-Ignored.field-0))
    c.pass.ensures.ok

pub returns-in-Ignored-clause-lacks : goal.returns-in-Ignored-clause-lacks
returns-in-Ignored-clause-lacks c =
    λ e. subst (λ (m : LabelMessage). LacksLabels c.args.core.now c.args.place.now c.args.now (Taken c.args.from m) c.args.trees.now c.args.ends.now)
    (sym c.in-Ignored.is) (c.pass.ensures.lacks e c.args.now c.args.from c.in-Ignored.field-0)
