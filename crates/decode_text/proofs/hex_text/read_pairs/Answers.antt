use Rattle.std.proofs.Common.{◌<◌, Err, None, Some, ap, sym, ◌∙◌, arith, get_or}
use Rattle.line_words.specs.declared.fault.TextFault.{TextFault}
use Rattle.decode_text.proofs.HexReading.{all_passed, all_read, digit_taken, half_read, nothing_read, other_met, value_at, white_taken}
use Rattle.decode_text.proofs.hex_text.read_pairs.Goals as goal
use Rattle.decode_text.proofs.hex_text.read_pairs.Goals.{in-Some+in_ok-high-in-Some, in-None+else-not-is_white}

pub loop-place-init : goal.loop-place-init
loop-place-init c = nothing_read c.in_ok-octets.octets c.in_ok-octets.ensures

pub loop-place-preserved : goal.loop-place-preserved
loop-place-preserved c =
    let text = c.args.text.now in
    let place = c.loop-place.place in
    let b = get_or text place 0 in
    let fits : b < 256 = omega (arith, c.type_inv.text place) in
    elim c.match-values-from.branch [
      | in-Some+in_ok-high-in-Some w ↦
          let is = value_at c.digit_values-values.result c.from.result b (Some w.in-Some.value) c.digit_values-values.ensures c.from.ensures fits
          w.in-Some.is in
          rw (w.octets-is, w.high-is) (digit_taken text c.loop-place.octets c.loop-place.high place w.in-Some.value _ _ c.loop-place-test.true
          c.loop-place.invariant is w.in_ok-high-in-Some.ensures)
      | in-None+else-not-is_white w ↦
          let is = value_at c.digit_values-values.result c.from.result b None c.digit_values-values.ensures c.from.ensures fits w.in-None.is in
          rw (w.octets-is, w.high-is) (white_taken text c.loop-place.octets c.loop-place.high place c.loop-place-test.true c.loop-place.invariant is
          (sym w.is_white.ensures ∙ w.if-not-is_white.false))
    ]

pub returns-then-not-is_white : goal.returns-then-not-is_white
returns-then-not-is_white c =
    let text = c.args.text.now in
    let place = c.loop-place.place in
    let b = get_or text place 0 in
    let fits : b < 256 = omega (arith, c.type_inv.text place) in
    let is = value_at c.digit_values-values.result c.from.result b None c.digit_values-values.ensures c.from.ensures fits c.in-None.is in
    other_met text c.loop-place.octets c.loop-place.high place c.requires c.loop-place-test.true c.loop-place.invariant is
    (sym c.is_white.ensures ∙ c.if-not-is_white.true)
    ∙ ap (λ (f : TextFault). Err f) (sym c.fault_after.ensures)

pub returns-in-None-high : goal.returns-in-None-high
returns-in-None-high c =
    let read = all_passed c.args.text.now c.loop-place.octets c.loop-place.high c.loop-place.place c.loop-place-test.false c.loop-place.invariant in
    all_read c.args.text.now c.loop-place.octets c.loop-place.high c.requires read c.in-None-high.is

pub returns-in-Some-high : goal.returns-in-Some-high
returns-in-Some-high c =
    let read = all_passed c.args.text.now c.loop-place.octets c.loop-place.high c.loop-place.place c.loop-place-test.false c.loop-place.invariant in
    half_read c.args.text.now c.loop-place.octets c.loop-place.high c.in-Some-high.field-0 c.requires read c.in-Some-high.is
    ∙ ap (λ (f : TextFault). Err f) (sym c.fault_after-in-Some-high.ensures)
