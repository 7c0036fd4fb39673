use Rattle.mvpn_audit.proofs.VerdictLemmas.{first_answer, none_answer}
use Rattle.mvpn_audit.proofs.verdict.first_offence.Goals as goal

pub returns-in-Some : goal.returns-in-Some
returns-in-Some c =
    first_answer c.args.case.now c.requires.is c.args.findings.now c.requires.found c.requires.none c.in_ok-reading.reading c.in_ok-reading.ensures
    c.in-Some.found c.in-Some.is

pub returns-in-None : goal.returns-in-None
returns-in-None c =
    none_answer c.args.case.now c.requires.is c.args.findings.now c.requires.found c.requires.none c.in_ok-reading.reading c.in_ok-reading.ensures
    c.in-None.is
