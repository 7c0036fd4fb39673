use Rattle.std.proofs.Common.{drop, arith}
use Rattle.std.proofs.lemmas.List.{take_rest, length-drop}
use Rattle.decode_text.specs.Values.{Stands}
use Rattle.decode_text.proofs.TellLemmas.{one_passed, fault_passed, all_passed}
use Rattle.decode_text.proofs.telling.tell_values.Goals as goal

pub loop-place-preserved : goal.loop-place-preserved
loop-place-preserved g c =
    let telling = g.V.Value.telling in
    let octets = c.args.octets.now in
    let place = c.loop-place.place in
    let len = c.in-Ok.len in
    let value = c.in-Ok.value in
    let stands : Stands telling (drop place octets) value len = rw (← take_rest octets place) c.in-Ok.ensures.stands in
    record {
      passed = rw c.in_ok-put_line-in-Ok.ensures (one_passed telling octets c.loop-place.text place value len c.loop-place.invariant.passed stands);
      within = omega (arith, stands.within, length-drop place octets, c.loop-place.invariant.within);
    }

pub returns-in-Err : goal.returns-in-Err
returns-in-Err g c =
    let telling = g.V.Value.telling in
    let octets = c.args.octets.now in
    let place = c.loop-place.place in
    let first : telling.First (drop place octets) c.in-Err.fault = rw (← take_rest octets place) c.in-Err.ensures.first in
    rw c.in_ok-put_fault-in-Err.ensures (fault_passed telling octets c.loop-place.text place c.in-Err.fault c.loop-place.invariant.passed
    c.loop-place-test.true first)

pub returns : goal.returns
returns g c =
    all_passed g.V.Value.telling c.args.octets.now c.loop-place.text c.loop-place.place c.loop-place.invariant.passed c.loop-place-test.false
