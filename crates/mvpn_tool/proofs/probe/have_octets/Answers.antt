use Rattle.mvpn_tool.proofs.ProbeLemmas.{octets_more}
use Rattle.mvpn_tool.proofs.probe.have_octets.Goals as goal

pub loop-line-preserved : goal.loop-line-preserved
loop-line-preserved c =
    octets_more c.as_slice-all.result.now c.loop-line.line-index c.line-item.result c.loop-line-test.true c.line-item.is c.loop-line.invariant
    c.has_octets.ensures
