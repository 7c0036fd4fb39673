use Rattle.mldp_node.proofs.StepLemmas.{twice_more}
use Rattle.mldp_node.proofs.steps.twice.Goals as goal

pub loop-fec-preserved : goal.loop-fec-preserved
loop-fec-preserved c =
    twice_more c.args.fecs.now c.loop-fec.fec-index c.fec-item.result c.loop-fec.both.items c.push.new.self.items c.push-in-loop-fec.new.self.items
    c.loop-fec-test.true c.fec-item.is c.in_ok-push.ensures.items c.in_ok-push-2.ensures.items c.loop-fec.invariant
