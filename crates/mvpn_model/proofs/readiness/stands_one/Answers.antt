use Rattle.mvpn_model.proofs.ReadyLemmas.{one-step}
use Rattle.mvpn_model.proofs.readiness.stands_one.Goals as goal

pub loop-timed-preserved : goal.loop-timed-preserved
loop-timed-preserved c =
    one-step _ _ _ _ _ _ _ _ _ c.loop-timed-test.true c.timed-item.is c.after_one-stands.ensures c.loop-timed.invariant.0 c.loop-timed.invariant.1
