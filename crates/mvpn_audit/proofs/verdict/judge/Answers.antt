use Rattle.std.proofs.Common.{List, length, ap, subst, ◌∙◌}
use Rattle.audit_events.specs.audit_defs.declared.verdict.Numbered.{Numbered}
use Rattle.audit_events.specs.scenario_defs.declared.event.Timed.{Timed}
use Rattle.mvpn_audit.specs.Exits.{AreOutLines}
use Rattle.mvpn_audit.specs.Missing.{line_in}
use Rattle.mvpn_audit.proofs.VerdictLemmas.{missing_answer}
use Rattle.mvpn_audit.proofs.verdict.judge.Goals as goal

pub find-requires-clause-outs : goal.find-requires-clause-outs
find-requires-clause-outs c = subst (λ (l : List Numbered). AreOutLines l (length l) c.in_ok-outs.outs) c.as_slice.ensures c.in_ok-outs.ensures

pub returns-in-Some : goal.returns-in-Some
returns-in-Some c =
    missing_answer c.args.case.now c.requires _ c.in_ok-findings.ensures c.in-Some.event c.in-Some.is c.line_in.result
    (c.line_in.ensures ∙ ap (λ (l : List Timed). line_in l c.in-Some.event) c.as_slice-in-Some.ensures)
