use Rattle.mldp_node.proofs.SettleLemmas.{on_ok}
use Rattle.mldp_node.proofs.StepLemmas.{raise_tied, raise_made}
use Rattle.mldp_node.proofs.steps.raised.Goals as goal

pub finish-requires-clause-tied : goal.finish-requires-clause-tied
finish-requires-clause-tied c =
    raise_tied c.args.trees.now c.raise-2.new.self c.args.ends.now c.raise.new.self c.args.peer c.args.now c.in_ok-count.count
    c.in_ok-count.ensures.count c.in_ok-count.ensures.raised c.in_ok-raise.ensures c.requires.tied

pub returns-clause-ok : goal.returns-clause-ok
returns-clause-ok c = on_ok c.finish.result
    (raise_made c.args.core.now c.args.place.now c.args.now c.args.trees.now c.args.ends.now c.raise-2.new.self c.raise.new.self c.new.result.items
    c.args.peer c.in_ok-count.count c.finish.new.trees c.finish.new.ends
    c.in_ok-count.ensures.raised c.in_ok-raise.ensures c.new.ensures.items)
    c.finish.ensures.ok
