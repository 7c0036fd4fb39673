use Rattle.std.proofs.lemmas.Result.{err_from_is_err_and}
use Rattle.pim_joinprune.specs.Fields.{all_at}
use Rattle.pim_joinprune.proofs.Loop.{goes_on, ends, is_done}
use Rattle.pim_joinprune.proofs.element.read_all.Goals as goal

pub returns-in_err-item : goal.returns-in_err-item
returns-in_err-item g c =
    let read = g.E.Element.read_at c.args.family in
    let p = err_from_is_err_and c.from_residual.result c.from_residual.ensures.1 in
    rw (p.1, p.2) (ends c.in_err-item.field-0.0 read c.elements.items c.args.count c.elements.counter c.elements.rest.now
    (all_at read c.args.count c.args.octets.now) c.elements-test.true c.in_err-item.ensures c.elements.invariant)

pub elements-preserved : goal.elements-preserved
elements-preserved g c =
    let read = g.E.Element.read_at c.args.family in
    rw c.in_ok-push.ensures.ok (goes_on read c.elements.items c.args.count c.elements.counter c.elements.rest.now c.in_ok-item.item
    c.in_ok-item.after.now (all_at read c.args.count c.args.octets.now) c.elements-test.true c.in_ok-item.ensures c.elements.invariant)

pub returns : goal.returns
returns g c =
    let read = g.E.Element.read_at c.args.family in
    is_done read c.elements.items c.args.count c.elements.counter c.elements.rest.now (all_at read c.args.count c.args.octets.now)
    c.elements-test.false c.elements.invariant
