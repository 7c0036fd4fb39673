use Rattle.mldp_node.proofs.SettleLemmas.{on_ok}
use Rattle.mldp_node.proofs.StepLemmas.{ignored_made}
use Rattle.mldp_node.proofs.steps.pass.Goals as goal

pub returns-clause-ok : goal.returns-clause-ok
returns-clause-ok c = on_ok c.finish.result
    (λ h now from kind. ignored_made c.args.core.now c.args.place.now now c.args.trees.now c.args.ends.now c.new.result.items from kind
    c.finish.new.trees c.finish.new.ends c.new.ensures.items h)
    c.finish.ensures.ok
