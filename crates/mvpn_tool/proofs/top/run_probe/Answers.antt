use Rattle.probe_text.specs.Grammar.{probe_of}
use Rattle.mvpn_tool.specs.ProbeLines.{HasPeerFault, IsSound, TellsProbe}
use Rattle.mvpn_tool.proofs.EndLemmas.{probe-bounded}
use Rattle.mvpn_tool.proofs.TellLemmas.{tell_run}
use Rattle.mvpn_tool.proofs.top.run_probe.Goals as goal

pub show-requires : goal.show-requires
show-requires g c = probe-bounded

pub returns : goal.returns
returns g c =
    rw (c.told.ensures.status, c.told.ensures.world)
    (tell_run probe_of TellsProbe IsSound HasPeerFault (g.S.Source.left c.args.source.now) (g.S.Source.left c.show.new.source)
    (g.K.Sink.written c.args.sink.now) (g.K.Sink.written c.show.new.sink)
    (g.S.Source.faults c.args.source.now) (g.S.Source.faults c.show.new.source) (g.K.Sink.faults c.args.sink.now) (g.K.Sink.faults c.show.new.sink)
    c.show.result c.show.ensures.ends c.show.ensures.taken c.show.ensures.sound c.show.ensures.faulty c.show.ensures.source_failed
    c.show.ensures.sink_failed)
