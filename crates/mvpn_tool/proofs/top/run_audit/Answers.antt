use Rattle.mvpn_tool.proofs.AuditLemmas.{fault_ended, no_ended, yes_ended}
use Rattle.mvpn_tool.proofs.top.run_audit.Goals as goal

pub returns-in-Ok-Yes : goal.returns-in-Ok-Yes
returns-in-Ok-Yes g c =
    rw (c.ended.ensures.status, c.ended.ensures.world)
    (yes_ended (g.S.Source.left c.args.source.now) (g.S.Source.left c.judge.new.source) (g.K.Sink.written c.args.sink.now)
    (g.K.Sink.written c.judge.new.sink)
    (g.S.Source.faults c.args.source.now) (g.S.Source.faults c.judge.new.source) (g.K.Sink.faults c.args.sink.now) (g.K.Sink.faults c.judge.new.sink)
    c.in-Ok-Yes.ensures.taken (rw c.in-Ok-Yes.field-0-is at c.in-Ok-Yes.ensures.ends))

pub returns-in-Ok-No : goal.returns-in-Ok-No
returns-in-Ok-No g c =
    rw (c.ended-in-Ok-No.ensures.status, c.ended-in-Ok-No.ensures.world)
    (no_ended (g.S.Source.left c.args.source.now) (g.S.Source.left c.judge.new.source) (g.K.Sink.written c.args.sink.now)
    (g.K.Sink.written c.judge.new.sink)
    (g.S.Source.faults c.args.source.now) (g.S.Source.faults c.judge.new.source) (g.K.Sink.faults c.args.sink.now) (g.K.Sink.faults c.judge.new.sink)
    c.in-Ok-No.ensures.taken _ _ (rw c.in-Ok-No.field-0-is at c.in-Ok-No.ensures.ends))

pub returns-in-Err-Text : goal.returns-in-Err-Text
returns-in-Err-Text g c =
    rw (c.ended-in-Err-Text.ensures.status, c.ended-in-Err-Text.ensures.world)
    (fault_ended (g.S.Source.left c.args.source.now) (g.S.Source.left c.judge.new.source) (g.K.Sink.written c.args.sink.now)
    (g.K.Sink.written c.judge.new.sink)
    (g.S.Source.faults c.args.source.now) (g.S.Source.faults c.judge.new.source) (g.K.Sink.faults c.args.sink.now) (g.K.Sink.faults c.judge.new.sink)
    (rw c.in-Err-Text.field-0-is at c.in-Err-Text.ensures.taken) (rw c.in-Err-Text.field-0-is at c.in-Err-Text.ensures.ends))
