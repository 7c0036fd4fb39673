use Rattle.std.proofs.Common.{◌∙◌}
use Rattle.mldp_node.proofs.SettleLemmas.{on_ok}
use Rattle.mldp_node.proofs.StepLemmas.{loss_tied, loss_made}
use Rattle.mldp_node.proofs.steps.noticed.Goals as goal

pub finish-requires-clause-tied : goal.finish-requires-clause-tied
finish-requires-clause-tied c =
    loss_tied c.args.trees.now c.lose.new.self c.args.ends.now c.lose-2.new.self c.args.peer c.in_ok-lose.ensures c.lose-2.ensures c.requires.tied

pub returns-clause-ok : goal.returns-clause-ok
returns-clause-ok c = on_ok c.finish.result
    (λ h now. loss_made c.args.core.now c.args.place.now now c.args.trees.now c.args.ends.now c.lose.new.self c.lose-2.new.self c.deref.result.now
    c.new.result.items c.args.peer c.finish.new.trees c.finish.new.ends
    c.in_ok-lose.ensures c.lose-2.ensures (c.deref.ensures.value ∙ c.in_ok-fecs.ensures) c.new.ensures.items h)
    c.finish.ensures.ok
