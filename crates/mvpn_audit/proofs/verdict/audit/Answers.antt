use Rattle.std.proofs.Common.{subst}
use Rattle.std.proofs.lemmas.Result.{IfOk-weaker}
use Rattle.audit_events.specs.scenario_defs.declared.event.Script.{Script}
use Rattle.audit_events.specs.audit_defs.declared.verdict.ReportLines.{ReportLines}
use Rattle.audit_events.specs.audit_defs.Verdicts.{IsVerdict}
use Rattle.mvpn_audit.proofs.verdict.audit.Goals as goal

pub returns-in_ok-of-in-Fit : goal.returns-in_ok-of-in-Fit
returns-in_ok-of-in-Fit c =
    IfOk-weaker c.judge.result _ _
    (λ verdict h. subst (λ (s : Script). IsVerdict s c.args.report.now verdict) c.in_ok-of-in-Fit.ensures.script
    (subst (λ (r : ReportLines). IsVerdict c.in_ok-of-in-Fit.field-0.script.now r verdict) c.in_ok-of-in-Fit.ensures.report h))
    c.judge.ensures
