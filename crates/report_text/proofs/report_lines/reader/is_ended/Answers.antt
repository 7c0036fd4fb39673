use Rattle.std.proofs.Common.{◌-◌, length}
use Rattle.report_text.proofs.report_lines.EndLemmas.{ended_decides}
use Rattle.report_text.proofs.report_lines.reader.is_ended.Goals as goal

pub returns-in-Some : goal.returns-in-Some
returns-in-Some c =
    ended_decides c.args.written.now c.in-Some.front.now c.args.text.now c.as_slice.result.now
    (length c.args.written.now - length c.as_slice.result.now) c.eq.result c.as_slice.ensures c.in-Some.ensures.cases.0 c.in-Some.ensures.cases.1
    c.eq.ensures
