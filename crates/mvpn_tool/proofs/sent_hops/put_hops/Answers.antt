use Rattle.mvpn_tool.proofs.LineLemmas.{line_spelled}
use Rattle.mvpn_tool.proofs.sent_hops.put_hops.Goals as goal

pub put_hop-requires : goal.put_hop-requires
put_hop-requires c =
    line_spelled c.args.clock c.args.sent.now c.args.lines.now c.loop-line.line-index c.line-item.result c.loop-line-test.true c.line-item.is
    c.requires
