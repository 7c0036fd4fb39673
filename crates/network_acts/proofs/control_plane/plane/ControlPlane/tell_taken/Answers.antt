use Rattle.std.proofs.Common.{List, subst}
use Rattle.scenario_defs.specs.declared.report.ReportLine.{ReportLine}
use Rattle.network_acts.specs.control_plane.Acted.{HandsOutAt}
use Rattle.network_acts.proofs.control_plane.plane.ControlPlane.tell_taken.Goals as goal

pub returns-clause-acts : goal.returns-clause-acts
returns-clause-acts c =
    subst (λ (lines : List ReportLine). HandsOutAt c.args.over.to c.args.self.now c.hand_out.new.self lines c.hand_out.new.lines c.hand_out.result)
    c.in_ok-push.ensures.ok c.hand_out.ensures.acts
