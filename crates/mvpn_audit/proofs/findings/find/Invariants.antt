use Rattle.audit_events.specs.Sents.{IsWalked, sents_before}
use Rattle.mvpn_audit.specs.Findings.{AreFound}
use Rattle.mvpn_audit.proofs.findings.find.Given as goal

abbrev pub invariant-loop-number : goal.invariant-loop-number
invariant-loop-number l = record {
  walked : IsWalked l.case l.number l.walk;
  found : AreFound l.case.report.now.lines (sents_before l.case l.number) l.findings;
}
