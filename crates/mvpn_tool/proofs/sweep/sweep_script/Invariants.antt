use Rattle.std.proofs.Common.{◌≤◌, length}
use Rattle.mvpn_tool.proofs.SweepLemmas.{SweptSoFar}
use Rattle.mvpn_tool.proofs.sweep.sweep_script.Given as goal

abbrev pub invariant-loop-timed : goal.invariant-loop-timed
invariant-loop-timed l = record {
  so_far : SweptSoFar l.fn.script l.timed-index l.world l.counts;
  within : l.timed-index ≤ length l.timeds;
}
