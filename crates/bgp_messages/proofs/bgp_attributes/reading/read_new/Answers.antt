use Rattle.std.proofs.Common.{◌≡◌, ◌+◌, length, Err, sym, arith, rules}
use Rattle.mv_base.specs.Octets.{IsOctets}
use Rattle.bgp_messages.proofs.bgp_attributes.AttributeLemmas.{value_within, near_part}
use Rattle.bgp_messages.proofs.bgp_attributes.reading.read_new.Goals as goal

pub returns-in_err-attribute-clause-part : goal.returns-in_err-attribute-clause-part
returns-in_err-attribute-clause-part c =
    let fits : IsOctets c.args.rest.now = λ i. omega (arith, c.type_inv.rest i) in
    let w = value_within c.args.flags c.args.rest.now c.in-Some.value.now fits (sym c.in-Some.ensures) in
    let same : c.from_residual.result ≡ Err c.in_err-attribute.field-0.0 = search rules in
    near_part c.from_residual.result c.in_err-attribute.field-0.0 (c.value_place-place.result + length c.in-Some.value.now)
    (2 + length c.args.rest.now) same c.in_err-attribute.ensures.within (omega (arith, w.1, c.value_place-place.ensures))

pub returns-clause-part : goal.returns-clause-part
returns-clause-part c =
    let fits : IsOctets c.args.rest.now = λ i. omega (arith, c.type_inv.rest i) in
    let w = value_within c.args.flags c.args.rest.now c.in-Some.value.now fits (sym c.in-Some.ensures) in
    (omega (arith, w.0, c.value_place-place.ensures), omega (arith, w.1, c.value_place-place.ensures))
