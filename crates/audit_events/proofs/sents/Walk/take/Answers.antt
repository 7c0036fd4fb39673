use Rattle.audit_events.proofs.WalkLemmas.{clock_fits, count_fits, is_fresh, fate_got, is_taken, refused_walked, refused_none, stepped, taken_sents, accepted_walked}
use Rattle.audit_events.proofs.sents.Walk.take.Goals as goal

pub returns-then-is_refused-clause-walked : goal.returns-then-is_refused-clause-walked
returns-then-is_refused-clause-walked c =
    refused_walked c.args.case.now c.requires.is c.args.number c.args.timed.now c.requires.at c.args.self.now c.fate_in-fate.result
    c.is_refused.result c.opens_after-self.result c.requires.walked
    (fate_got c.args.case.now c.requires.is c.args.number c.args.timed.now c.requires.at c.fate_in-fate.result c.fate_in-fate.ensures)
    c.is_refused.ensures c.if-is_refused.true c.opens_after-self.ensures

pub returns-then-is_refused-clause-sent : goal.returns-then-is_refused-clause-sent
returns-then-is_refused-clause-sent c =
    refused_none c.args.case.now c.requires.is c.args.number c.args.timed.now c.requires.at c.fate_in-fate.result c.is_refused.result
    (fate_got c.args.case.now c.requires.is c.args.number c.args.timed.now c.requires.at c.fate_in-fate.result c.fate_in-fate.ensures)
    c.is_refused.ensures c.if-is_refused.true

pub step-requires-clause-clock : goal.step-requires-clause-clock
step-requires-clause-clock c = clock_fits c.args.case.now c.requires.is c.args.number c.args.timed.now c.requires.at c.args.self.now c.requires.walked

pub step-requires-clause-room : goal.step-requires-clause-room
step-requires-clause-room c = count_fits c.args.case.now c.requires.is c.args.number c.args.timed.now c.requires.at c.args.self.now c.requires.walked

pub step-requires-clause-fresh : goal.step-requires-clause-fresh
step-requires-clause-fresh c = is_fresh c.args.case.now c.requires.is c.args.number c.args.timed.now c.requires.at c.args.self.now c.requires.walked

pub returns-clause-walked : goal.returns-clause-walked
returns-clause-walked c =
    accepted_walked c.args.case.now c.requires.is c.args.number c.args.timed.now c.requires.at _ c.fate_in-fate.result c.opens_after-self-2.result
    (stepped c.args.case.now c.requires.is c.args.number c.args.timed.now c.requires.at c.args.self.now c.step.new.self c.requires.walked
    (is_taken c.args.case.now c.requires.is c.args.number c.args.timed.now c.requires.at c.fate_in-fate.result c.is_refused.result
    (fate_got c.args.case.now c.requires.is c.args.number c.args.timed.now c.requires.at c.fate_in-fate.result c.fate_in-fate.ensures)
    c.is_refused.ensures c.if-is_refused.false) c.in_ok-step.ensures)
    (fate_got c.args.case.now c.requires.is c.args.number c.args.timed.now c.requires.at c.fate_in-fate.result c.fate_in-fate.ensures) c.opens_after-self-2.ensures

pub returns-clause-sent : goal.returns-clause-sent
returns-clause-sent c =
    taken_sents c.args.case.now c.requires.is c.args.number c.args.timed.now c.requires.at c.args.self.now c.requires.walked
    (is_taken c.args.case.now c.requires.is c.args.number c.args.timed.now c.requires.at c.fate_in-fate.result c.is_refused.result
    (fate_got c.args.case.now c.requires.is c.args.number c.args.timed.now c.requires.at c.fate_in-fate.result c.fate_in-fate.ensures)
    c.is_refused.ensures c.if-is_refused.false) _ c.in_ok-sent.ensures
