use Rattle.decode_text.specs.HexText.{octets_of}
use Rattle.decode_text.specs.Formats.{HasFault, IsWhole, Tells}
use Rattle.mvpn_tool.proofs.EndLemmas.{hex-bounded}
use Rattle.mvpn_tool.proofs.TellLemmas.{tell_run}
use Rattle.mvpn_tool.proofs.top.run_decode.Goals as goal

pub show-requires : goal.show-requires
show-requires g c = hex-bounded

pub returns : goal.returns
returns g c =
    rw (c.told.ensures.status, c.told.ensures.world)
    (tell_run octets_of (Tells c.args.format) (IsWhole c.args.format) (HasFault c.args.format) (g.S.Source.left c.args.source.now)
    (g.S.Source.left c.show.new.source) (g.K.Sink.written c.args.sink.now) (g.K.Sink.written c.show.new.sink)
    (g.S.Source.faults c.args.source.now) (g.S.Source.faults c.show.new.source) (g.K.Sink.faults c.args.sink.now)
    (g.K.Sink.faults c.show.new.sink)
    c.show.result c.show.ensures.ends c.show.ensures.taken c.show.ensures.sound c.show.ensures.faulty c.show.ensures.source_failed
    c.show.ensures.sink_failed)
