use Rattle.mvpn_tool.proofs.HopsLemmas.{lines_more}
use Rattle.mvpn_tool.proofs.hop_lines.lines_of.Goals as goal

pub loop-hop-preserved : goal.loop-hop-preserved
loop-hop-preserved c =
    lines_more c.args.hops.now c.loop-hop.hop-index c.hop-item.result c.loop-hop.text c.put_hop.new.out c.loop-hop-test.true c.hop-item.is
    c.loop-hop.invariant c.in_ok-put_hop.ensures
