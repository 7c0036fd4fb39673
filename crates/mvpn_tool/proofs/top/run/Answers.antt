use Rattle.mvpn_tool.proofs.RunsLemmas.{usage_runs, make_runs, sweep_runs}
use Rattle.mvpn_tool.proofs.top.run.Goals as goal

pub returns-in-None : goal.returns-in-None
returns-in-None g c =
    usage_runs _ _ c.in-None.ensures (c.run_usage.ensures (g.S.Source.left c.args.source.now) (g.S.Source.faults c.args.source.now))

pub returns-in-Some-Make : goal.returns-in-Some-Make
returns-in-Some-Make g c =
    make_runs _ _ _ _ c.in-Some-Make.field-0-is c.in-Some-Make.ensures
    (c.run_make.ensures (g.S.Source.left c.args.source.now) (g.S.Source.faults c.args.source.now))

pub returns-in-Some-Sweep : goal.returns-in-Some-Sweep
returns-in-Some-Sweep g c =
    sweep_runs _ _ _ _ c.in-Some-Sweep.field-0-is c.in-Some-Sweep.ensures
    (c.run_sweep.ensures (g.S.Source.left c.args.source.now) (g.S.Source.faults c.args.source.now))
