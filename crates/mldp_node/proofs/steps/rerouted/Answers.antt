use Rattle.std.proofs.Common.{◌∙◌}
use Rattle.mldp_node.proofs.SettleLemmas.{on_ok}
use Rattle.mldp_node.proofs.StepLemmas.{reroute_made}
use Rattle.mldp_node.proofs.steps.rerouted.Goals as goal

pub returns-clause-ok : goal.returns-clause-ok
returns-clause-ok c = on_ok c.finish.result
    (λ h now. reroute_made c.args.core.now c.args.place.now now c.args.trees.now c.args.ends.now c.deref.result.now c.deref-2.result.now
    c.new.result.items c.finish.new.trees c.finish.new.ends
    (c.deref.ensures.value ∙ c.in_ok-fecs.ensures) (c.deref-2.ensures.value ∙ c.in_ok-both.ensures) c.new.ensures.items h)
    c.finish.ensures.ok
