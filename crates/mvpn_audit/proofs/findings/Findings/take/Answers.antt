use Rattle.audit_events.specs.Sents.{sents_before}
use Rattle.mvpn_audit.proofs.FindingLemmas.{found_on, found_still}
use Rattle.mvpn_audit.proofs.findings.Findings.take.Goals as goal

pub returns-in_ok-add-in-Some-clause-found : goal.returns-in_ok-add-in-Some-clause-found
returns-in_ok-add-in-Some-clause-found c =
    found_on c.args.case.now c.args.number c.add.new.self c.in_ok-sent.field-0 c.in_ok-sent.ensures.sent c.in-Some.sent c.in-Some.is
    (c.in_ok-add-in-Some.ensures c.args.case.now.report.now.lines (sents_before c.args.case.now c.args.number) c.requires.found)

pub returns-in-None-clause-found : goal.returns-in-None-clause-found
returns-in-None-clause-found c =
    found_still c.args.case.now c.args.number c.args.self.now c.in_ok-sent.field-0 c.in_ok-sent.ensures.sent c.in-None.is c.requires.found
