use Rattle.std.proofs.Common.{[], ◌∷◌, ◌++◌, ◌+◌, sym, subst, arith}
use Rattle.mv_base.specs.Octets.{IsOctets}
use Rattle.bgp_messages.specs.declared.bgp_attributes.fault.AttributesFault.{AttributesFault}
use Rattle.bgp_messages.specs.bgp_attributes.Answers.{Fails}
use Rattle.bgp_messages.specs.bgp_attributes.Reading.{found_at}
use Rattle.bgp_messages.proofs.bgp_attributes.AttributeLemmas.{IsRead, read_none, read_more, read_all, fails_further}
use Rattle.bgp_messages.proofs.bgp_attributes.reading.read_attributes.Goals as goal

pub attributes-init : goal.attributes-init
attributes-init c = ([], subst (IsRead c.args.octets.now 0 []) (sym c.nothing-found.ensures) (read_none c.args.octets.now))

pub attributes-preserved : goal.attributes-preserved
attributes-preserved c =
    let fits : IsOctets c.args.octets.now = λ i. omega (arith, c.type_inv.octets i) in
    let (before, read) = c.attributes.invariant in
    let place = c.attributes.passed in
    let more =
    read_more c.args.octets.now place c.in-Ok.len before c.attributes.found c.in-Ok.attribute fits read c.in-Ok.ensures.part.0
    c.in-Ok.ensures.part.1 c.in-Ok.ensures.value in (
      before ++ c.in-Ok.attribute ∷ [],
      subst (IsRead c.args.octets.now (place + c.in-Ok.len) (before ++ c.in-Ok.attribute ∷ [])) (sym c.add.ensures)
          more,
    )

pub returns-in-Err-clause-value : goal.returns-in-Err-clause-value
returns-in-Err-clause-value c =
    let (before, read) = c.attributes.invariant in
    subst (λ (fault : AttributesFault). Fails fault (found_at c.args.octets.now)) (sym c.thereafter.ensures)
    (fails_further c.args.octets.now c.attributes.passed before c.attributes.found c.in-Err.fault read c.attributes-test.true
    c.in-Err.ensures.value)

pub returns-clause-value : goal.returns-clause-value
returns-clause-value c = let (before, read) = c.attributes.invariant in
    read_all c.args.octets.now c.attributes.passed before c.attributes.found read c.attributes-test.false
