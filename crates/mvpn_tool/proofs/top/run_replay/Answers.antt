use Rattle.mvpn_tool.proofs.RunsLemmas.{halt_ended, whole_ended}
use Rattle.mvpn_tool.proofs.top.run_replay.Goals as goal

pub returns-in-Ok : goal.returns-in-Ok
returns-in-Ok g c =
    whole_ended c.one_run_or_one_halt.ensures.never_both c.args.output _ _ _ _ _ _ _ _ c.in-Ok.ensures.taken c.in-Ok.world c.in-Ok.ensures.ends

pub returns-in-Err-Label : goal.returns-in-Err-Label
returns-in-Err-Label g c =
    rw (c.ended-in-Err-Label.ensures.status, c.ended-in-Err-Label.ensures.world)
    (halt_ended c.one_run_or_one_halt.ensures.never_both c.args.output (g.S.Source.left c.args.source.now) (g.S.Source.left c.replay.new.source)
    (g.K.Sink.written c.args.sink.now)
    (g.K.Sink.written c.replay.new.sink) (g.S.Source.faults c.args.source.now) (g.S.Source.faults c.replay.new.source)
    (g.K.Sink.faults c.args.sink.now) (g.K.Sink.faults c.replay.new.sink)
    (rw c.in-Err-Label.field-0-is at c.in-Err-Label.ensures.taken) (rw c.in-Err-Label.field-0-is at c.in-Err-Label.ensures.ends))
