use Rattle.std.proofs.Common.{◌+◌, ◌≤◌, length, arith}
use Rattle.audit_text.proofs.ReadLemmas.{so_far_more}
use Rattle.audit_text.proofs.reader.read_report.Goals as goal

pub lines-preserved : goal.lines-preserved
lines-preserved c = record {
  far = rw c.in_ok-push.ensures.ok (so_far_more c.args.scenario.now c.args.first c.lines.number _ _ _ c.split_line.result.0.now _ c.in_ok-one.one
      c.lines.invariant.far c.split_line.ensures.line c.in_ok-one.ensures.0 c.in_ok-one.ensures.1);
  count = omega (arith, c.lines.invariant.count, c.split_line.ensures.shorter);
}
