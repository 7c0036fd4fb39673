use Rattle.mldp_node.proofs.SettleLemmas.{on_ok}
use Rattle.mldp_node.proofs.StepLemmas.{unbranch_tied, withdraw_made}
use Rattle.mldp_node.proofs.steps.take_withdraw.Goals as goal

pub finish-requires-clause-tied : goal.finish-requires-clause-tied
finish-requires-clause-tied c =
    unbranch_tied c.args.trees.now c.unbranch.new.self c.args.ends.now c.args.from c.args.fec.now c.args.label c.unbranch.ensures c.requires.tied

pub returns-clause-ok : goal.returns-clause-ok
returns-clause-ok c = on_ok c.finish.result
    (λ h now. withdraw_made c.args.core.now c.args.place.now now c.args.trees.now c.args.ends.now c.unbranch.new.self c.new-puts.result.items
    c.put.new.puts.items c.args.from c.args.fec.now c.args.label c.finish.new.trees c.finish.new.ends
    c.unbranch.ensures c.new-puts.ensures.items c.in_ok-put.ensures h)
    c.finish.ensures.ok
