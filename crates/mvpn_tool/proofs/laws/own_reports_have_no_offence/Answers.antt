use Rattle.mvpn_tool.proofs.OwnReports.{own_reports}
use Rattle.mvpn_tool.proofs.laws.own_reports_have_no_offence.Goals as goal

pub returns : goal.returns
returns c = own_reports c.a_plain_report_says_as_much.ensures.lines c.reports_are_said.ensures
