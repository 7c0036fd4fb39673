use Rattle.std.proofs.Common.{Err, Ok, List, ℕ, subst}
use Rattle.line_words.specs.declared.fault.ReadFault.TheVariants as faults
use Rattle.audit_text.specs.Texts.{IsRead}
use Rattle.mvpn_tool.proofs.EndLemmas.{read-taken}
use Rattle.mvpn_tool.proofs.AuditLemmas.{audit_takes, comes_after, ends_faulty, ends_judged, fault_not_label, input_read, verdict_not_label}
use Rattle.mvpn_tool.proofs.audit.judge.Goals as goal

pub returns-in-Err-Text-clause-ends : goal.returns-in-Err-Text-clause-ends
returns-in-Err-Text-clause-ends g c =
    ends_faulty _ _ _ c.in-Err-Text.fault _
    (input_read _ _ _ (Err (faults.Text c.in-Err-Text.fault)) c.in_ok-input.ensures.octets
    (subst (λ (text : List ℕ). IsRead text (Err (faults.Text c.in-Err-Text.fault))) c.deref.ensures.value
    (rw c.in-Err-Text.field-0-is at c.in-Err-Text.ensures.read)))
    c.write_fault.ensures.text c.write_fault.ensures.part c.write_fault.ensures.others

pub returns-in-Err-Text-clause-taken : goal.returns-in-Err-Text-clause-taken
returns-in-Err-Text-clause-taken g c =
    audit_takes _ _ (Err c.write_fault.result) (read-taken _ _ _ c.in_ok-input.ensures.octets) (fault_not_label _ c.write_fault.ensures.others.1)

pub write_verdict-requires-clause-after : goal.write_verdict-requires-clause-after
write_verdict-requires-clause-after g c = comes_after _ _ _ c.in-Ok.ensures.read

pub returns-clause-ends : goal.returns-clause-ends
returns-clause-ends g c =
    ends_judged _ _ _ c.in-Ok.found _
    (input_read _ _ _ (Ok c.in-Ok.found) c.in_ok-input.ensures.octets
    (subst (λ (text : List ℕ). IsRead text (Ok c.in-Ok.found)) c.deref.ensures.value c.in-Ok.ensures.read))
    c.write_verdict.ensures.ends c.write_verdict.ensures.others

pub returns-clause-taken : goal.returns-clause-taken
returns-clause-taken g c =
    audit_takes _ _ c.write_verdict.result (read-taken _ _ _ c.in_ok-input.ensures.octets) (verdict_not_label _ c.write_verdict.ensures.others)
