use Rattle.std.proofs.Common.{◌≡◌, ◌+◌, ◌≤◌, ℕ, List, None, Some, length, drop, sym, ap, ◌∙◌, arith}
use Rattle.std.proofs.lemmas.List.{take_rest, length-drop, drop-drop, drop_all}
use Rattle.mldp.specs.mldp_fec.Shape.{tlv_len}
use Rattle.mv_base.specs.framing.Walk.{walk}
use Rattle.mv_base.proofs.framing.Walks.{one_further, stops, ends}
use Rattle.mldp.proofs.mldp_fec.shape.first_misshapen.Goals as goal

pub returns-in_default : goal.returns-in_default
returns-in_default c =
    let octets = c.args.octets.now in
    let place = c.loop-place.place in
    let found : tlv_len (drop place octets) ≡ None = ap tlv_len (sym (take_rest octets place)) ∙ sym c.in_default.ensures.value in
    record {
      value =
          sym (stops tlv_len place (drop place octets) (omega (arith, length-drop place octets, c.loop-place-test.true)) found)
          ∙ c.loop-place.invariant.1;
      within = c.loop-place-test.true;
    }

pub loop-place-preserved : goal.loop-place-preserved
loop-place-preserved c =
    let octets = c.args.octets.now in
    let place = c.loop-place.place in
    let len = c.in-Some.len in
    let within : len ≤ length (drop place octets) = rw (← take_rest octets place) c.in-Some.ensures.within.1 in
    let found : tlv_len (drop place octets) ≡ Some len = ap tlv_len (sym (take_rest octets place)) ∙ sym c.in-Some.ensures.value in (
      omega (arith, within, length-drop place octets, c.loop-place.invariant.0),
      ap (λ (xs : List ℕ). walk tlv_len (place + len) 0 xs) (sym (drop-drop len place octets))
          ∙ sym (one_further tlv_len place len (drop place octets) c.in-Some.ensures.within.0 within found) ∙ c.loop-place.invariant.1,
    )

pub returns : goal.returns
returns c =
    record {
      value =
          sym (ends tlv_len c.loop-place.place) ∙ ap (λ (xs : List ℕ). walk tlv_len c.loop-place.place 0 xs)
          (sym (drop_all c.loop-place.place c.args.octets.now c.loop-place-test.false)) ∙ c.loop-place.invariant.1;
      within = tt;
    }
