use Rattle.mldp_node.proofs.SettleLemmas.{on_ok}
use Rattle.mldp_node.proofs.StepLemmas.{unleaf_tied, unwant_made}
use Rattle.mldp_node.proofs.steps.unwant.Goals as goal

pub finish-requires-clause-tied : goal.finish-requires-clause-tied
finish-requires-clause-tied c =
    unleaf_tied c.args.trees.now c.set_leaf.new.self c.args.ends.now c.args.fec.now c.in_ok-set_leaf.ensures c.requires.tied

pub returns-clause-ok : goal.returns-clause-ok
returns-clause-ok c = on_ok c.finish.result
    (λ h now. unwant_made c.args.core.now c.args.place.now now c.args.trees.now c.args.ends.now c.set_leaf.new.self c.new.result.items c.args.fec.now
    c.finish.new.trees c.finish.new.ends c.in_ok-set_leaf.ensures c.new.ensures.items h)
    c.finish.ensures.ok
