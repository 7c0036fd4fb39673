use Rattle.std.proofs.Common.{◌≤◌, length}
use Rattle.mvpn_tool.specs.Outcome.{OnWay}
use Rattle.mvpn_tool.proofs.replay.replay_script.Given as goal

abbrev pub invariant-loop-timed : goal.invariant-loop-timed
invariant-loop-timed g l = record {
  way : OnWay l.fn.output l.fn.script l.timed-index (g.K.Sink.written l.fn.sink) (g.K.Sink.written l.sink) l.world l.so_far;
  within : l.timed-index ≤ length l.timeds;
  later : g.K.Sink.faults l.initial.sink ≤ g.K.Sink.faults l.sink;
}
