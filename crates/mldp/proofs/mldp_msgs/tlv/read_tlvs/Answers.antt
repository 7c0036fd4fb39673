use Rattle.std.proofs.Common.{◌≡◌, ℕ, ◌++◌, ◌∷◌, [], Result, Ok, ap, sym, refl, ◌∙◌}
use Rattle.mv_base.proofs.framing.PartsLemmas.{on_parts_start, on_parts_more, on_parts_fault, on_parts_end, tail_of}
use Rattle.mldp.specs.declared.mldp_msgs.tlv.Found.{Found}
use Rattle.mldp.specs.declared.mldp_msgs.tlv.Stop.{Stop}
use Rattle.mldp.specs.mldp_msgs.Reading.{found_of, found_in, found_with, tlv_at, next_tlv}
use Rattle.mldp.proofs.mldp_msgs.Tells.{found_more}
use Rattle.mldp.proofs.mldp_msgs.tlv.read_tlvs.Goals as goal

abbrev ok : Found → Result Found (ℕ × Stop)
ok f = Ok f

pub tlvs-init : goal.tlvs-init
tlvs-init c = ([], on_parts_start next_tlv c.args.octets.now, refl)

pub tlvs-preserved : goal.tlvs-preserved
tlvs-preserved c =
    let octets = c.args.octets.now in
    let place = c.tlvs.place in
    let before = c.tlvs.invariant.0 in
    let found : tlv_at (found_of before) (tail_of octets place) ≡ tlv_at c.tlvs.found (tail_of octets place) =
    ap (λ (f : Found). tlv_at f (tail_of octets place)) (sym c.tlvs.invariant.2) in (
      before ++ c.in-Ok.tlv ∷ [],
      on_parts_more next_tlv octets place c.in-Ok.len before c.in-Ok.tlv c.tlvs.invariant.1 c.in-Ok.ensures.size.0 c.in-Ok.ensures.size.1
          (found ∙ sym c.in-Ok.ensures.value),
      c.with-found.ensures ∙ ap (λ (f : Found). found_with f c.in-Ok.tlv) c.tlvs.invariant.2 ∙ found_more before c.in-Ok.tlv,
    )

pub returns-in-Err-clause-value : goal.returns-in-Err-clause-value
returns-in-Err-clause-value c =
    let octets = c.args.octets.now in
    let place = c.tlvs.place in
    let before = c.tlvs.invariant.0 in
    let found : tlv_at (found_of before) (tail_of octets place) ≡ tlv_at c.tlvs.found (tail_of octets place) =
    ap (λ (f : Found). tlv_at f (tail_of octets place)) (sym c.tlvs.invariant.2) in
    sym (ap found_in (on_parts_fault next_tlv octets place c.in-Err.offset before c.in-Err.stop c.tlvs.invariant.1 c.tlvs-test.true
    (found ∙ sym c.in-Err.ensures.value)))

pub returns-clause-value : goal.returns-clause-value
returns-clause-value c =
    ap (λ (f : Found). ok f) c.tlvs.invariant.2 ∙ sym
    (ap found_in (on_parts_end next_tlv c.args.octets.now c.tlvs.place c.tlvs.invariant.0 c.tlvs.invariant.1 c.tlvs-test.false))
