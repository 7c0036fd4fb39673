use Rattle.std.proofs.Common.{◌∙◌}
use Rattle.mldp_node.proofs.SettleLemmas.{on_ok}
use Rattle.mldp_node.proofs.StepLemmas.{timers_tied, timers_made}
use Rattle.mldp_node.proofs.steps.timers.Goals as goal

pub finish-requires-clause-tied : goal.finish-requires-clause-tied
finish-requires-clause-tied c =
    timers_tied c.args.trees.now c.wake.new.self c.args.ends.now c.run_holds.new.self c.life.result c.args.now c.wake.ensures c.run_holds.ensures
    c.requires.tied

pub returns-clause-ok : goal.returns-clause-ok
returns-clause-ok c = on_ok c.finish.result
    (timers_made c.args.core.now c.args.place.now c.life.result c.args.now c.args.trees.now c.args.ends.now c.wake.new.self c.run_holds.new.self
    c.deref.result.now c.new.result.items c.finish.new.trees c.finish.new.ends
    c.life.ensures.value c.wake.ensures c.run_holds.ensures (c.deref.ensures.value ∙ c.in_ok-fecs.ensures) c.new.ensures.items)
    c.finish.ensures.ok
