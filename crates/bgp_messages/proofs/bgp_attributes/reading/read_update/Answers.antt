use Rattle.std.proofs.Common.{arith}
use Rattle.mv_base.specs.Octets.{IsOctets}
use Rattle.bgp_messages.proofs.bgp_attributes.UpdateLemmas.{is_spelled, only_spelled, is_first, only_first}
use Rattle.bgp_messages.proofs.bgp_attributes.reading.read_update.Goals as goal

pub returns-clause-spelled : goal.returns-clause-spelled
returns-clause-spelled c =
    let fits : IsOctets c.args.octets.now = λ i. omega (arith, c.type_inv.octets i) in
    is_spelled c.read_whole.result c.args.octets.now fits c.read_whole.ensures.value

pub returns-clause-only_spelled : goal.returns-clause-only_spelled
returns-clause-only_spelled c = only_spelled c.read_whole.result c.args.octets.now c.read_whole.ensures.value

pub returns-clause-first : goal.returns-clause-first
returns-clause-first c =
    let fits : IsOctets c.args.octets.now = λ i. omega (arith, c.type_inv.octets i) in
    is_first c.read_whole.result c.args.octets.now fits c.read_whole.ensures.value

pub returns-clause-only_first : goal.returns-clause-only_first
returns-clause-only_first c =
    let fits : IsOctets c.args.octets.now = λ i. omega (arith, c.type_inv.octets i) in
    only_first c.read_whole.result c.args.octets.now fits c.read_whole.ensures.value
