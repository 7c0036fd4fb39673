use Rattle.std.proofs.Common.{◌≡◌, ◌-◌, ◌<◌, length, ◌∙◌, arith}
use Rattle.bgp_values.specs.mvpn_nlri.Spelling.{kind, fields}
use Rattle.bgp_values.proofs.mvpn_nlri.WritingLemmas.{puts_before, fields_room}
use Rattle.bgp_values.proofs.mvpn_nlri.writing.encode.Goals as goal

pub returns-clause-octets : goal.returns-clause-octets
returns-clause-octets c =
    let r = c.args.route.now in
    let few : length (fields r) < 256 = fields_room c.requires.spelled.0 r c.requires.spelled.1.route in
    let len : c.put_fields-end.result - 2 ≡ length (fields r) = omega (arith, c.put_fields-end.ensures.place) in
    c.put.ensures.octets ∙ (rw (c.put_fields-end.ensures.octets, c.kind_of.ensures, len)
    (puts_before c.args.out.now (fields r) 0 (kind r) (length (fields r)) (omega (arith, few, c.requires.room))))
