use Rattle.audit_text.proofs.ReadLemmas.{report_stops, script_stops}
use Rattle.audit_text.proofs.reader.read_audit.Goals as goal

pub returns-in-Err-read-clause-read : goal.returns-in-Err-read-clause-read
returns-in-Err-read-clause-read c =
    script_stops c.args.text.now c.in-Ok.parts.front.now c.in-Ok.parts.thereafter.now c.in-Ok.parts.number c.in-Err-read.stop
    c.if-text-gt-TEXT_LIMIT.false c.in-Ok.ensures.parts c.in-Err-read.ensures.value

pub returns-in-Err-read_report-clause-read : goal.returns-in-Err-read_report-clause-read
returns-in-Err-read_report-clause-read c =
    report_stops c.args.text.now c.in-Ok.parts.front.now c.in-Ok.parts.thereafter.now c.in-Ok.parts.number c.in-Ok-read.script c.in-Err-read_report.stop
    c.if-text-gt-TEXT_LIMIT.false c.in-Ok.ensures.parts c.in-Ok-read.ensures.value c.in-Err-read_report.ensures
