use Rattle.std.proofs.Common.{ap, length, arith}
use Rattle.mvpn_tool.proofs.OutcomeLemmas.{event_at}
use Rattle.mvpn_tool.proofs.SweepLemmas.{swept_all, swept_more, swept_none, swept_stops, swept_to}
use Rattle.mvpn_tool.proofs.sweep.sweep_script.Goals as goal

pub loop-timed-init : goal.loop-timed-init
loop-timed-init c = record {
  so_far = swept_none c.runs_are_known.ensures c.args.script c.requires.rules c.script_has_octets.ensures c.in_ok-world.world c.none-counts.result
      c.in_ok-world.ensures c.none-counts.ensures;
  within = omega arith;
}

pub sweep_event-requires : goal.sweep_event-requires
sweep_event-requires c =
    swept_to c.runs_are_known.ensures c.args.script c.requires.rules c.script_has_octets.ensures c.loop-timed.timed-index c.timed-item.result
    c.loop-timed.world c.loop-timed.counts
    (event_at c.args.script _ _ c.timed-item.result c.as_slice-timeds.ensures c.loop-timed-test.true c.timed-item.is) c.loop-timed.invariant.so_far

pub returns-in-Err-clause-others : goal.returns-in-Err-clause-others
returns-in-Err-clause-others c =
    swept_stops c.runs_are_known.ensures c.args.script c.requires.rules c.script_has_octets.ensures c.loop-timed.timed-index c.timed-item.result
    c.loop-timed.world c.loop-timed.counts
    (event_at c.args.script _ _ c.timed-item.result c.as_slice-timeds.ensures c.loop-timed-test.true c.timed-item.is) c.loop-timed.invariant.so_far
    c.sweep_event.new.world c.sweep_event.new.counts c.in-Err.stop c.requires.labels c.in-Err.ensures.ends c.in-Err.ensures.others

pub loop-timed-preserved : goal.loop-timed-preserved
loop-timed-preserved c = record {
  so_far =
      swept_more c.runs_are_known.ensures c.args.script c.requires.rules c.script_has_octets.ensures c.loop-timed.timed-index c.timed-item.result
      c.loop-timed.world c.loop-timed.counts
      (event_at c.args.script _ _ c.timed-item.result c.as_slice-timeds.ensures c.loop-timed-test.true c.timed-item.is) c.loop-timed.invariant.so_far
      c.sweep_event.new.world c.sweep_event.new.counts c.in-Ok.ensures.ends;
  within = omega (arith, c.loop-timed-test.true);
}

pub returns-clause-sweeps : goal.returns-clause-sweeps
returns-clause-sweeps c =
    swept_all c.runs_are_known.ensures c.args.script c.requires.rules c.script_has_octets.ensures c.loop-timed.timed-index c.loop-timed.world
    c.loop-timed.counts
    (omega (arith, c.loop-timed-test.false, c.loop-timed.invariant.within, ap length c.as_slice-timeds.ensures)) c.loop-timed.invariant.so_far
