use Rattle.audit_text.proofs.ReportTexts.{report_said}
use Rattle.audit_text.proofs.laws.reports_are_said.Goals as goal

pub returns : goal.returns
returns c = report_said
