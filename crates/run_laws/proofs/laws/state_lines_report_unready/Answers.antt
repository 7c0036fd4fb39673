use Rattle.run_laws.proofs.Ready.{reports_unready}
use Rattle.run_laws.proofs.laws.state_lines_report_unready.Goals as goal

pub returns : goal.returns
returns c = reports_unready
