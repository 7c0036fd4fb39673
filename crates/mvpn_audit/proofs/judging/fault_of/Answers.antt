use Rattle.std.proofs.Common.{List, sym, ap, ◌∙◌}
use Rattle.std.proofs.lemmas.Result.{IfOk-weaker}
use Rattle.mvpn_audit.specs.declared.findings.Noted.{Noted}
use Rattle.mvpn_audit.specs.Judging.{noted_named}
use Rattle.mvpn_audit.proofs.NamedLemmas.{noted_within, fault_noted, fault_unnamed}
use Rattle.mvpn_audit.proofs.judging.fault_of.Goals as goal

pub fault_by-requires-clause-within : goal.fault_by-requires-clause-within
fault_by-requires-clause-within c =
    noted_within c.args.case.now c.requires.is c.args.findings.now c.requires.found c.args.out.now c.requires.said c.in-Some.noted.now
    (ap (λ (l : List Noted). noted_named l c.args.out.now.event c.args.out.now.number) (sym c.as_slice.ensures) ∙ sym c.in-Some.ensures)

pub returns-in-Some : goal.returns-in-Some
returns-in-Some c =
    let named = ap (λ (l : List Noted). noted_named l c.args.out.now.event c.args.out.now.number) (sym c.as_slice.ensures) ∙ sym c.in-Some.ensures in
    IfOk-weaker c.fault_by.result _ _
    (λ fault e. e ∙ fault_noted c.args.case.now c.requires.is c.args.findings.now c.requires.found c.args.out.now c.requires.said c.in-Some.noted.now
    named c.is_asked_in-asked.result c.args.earlier
    c.is_asked_in-asked.ensures) c.fault_by.ensures

pub returns-in-None : goal.returns-in-None
returns-in-None c =
    fault_unnamed c.args.case.now c.requires.is c.args.findings.now c.requires.found c.args.out.now c.requires.said
    (ap (λ (l : List Noted). noted_named l c.args.out.now.event c.args.out.now.number) (sym c.as_slice.ensures) ∙ sym c.in-None.ensures)
    c.args.earlier
