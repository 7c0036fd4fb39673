use Rattle.std.proofs.Common.{arith}
use Rattle.mv_base.specs.Octets.{IsOctets}
use Rattle.bgp_values.proofs.mvpn_nlri.CallLemmas.{read_is, spelled_is_read, fault_is_read}
use Rattle.bgp_values.proofs.mvpn_nlri.reading.decode.Goals as goal

pub returns-clause-within : goal.returns-clause-within
returns-clause-within c =
    let fits : IsOctets c.args.bytes.now = λ i. omega (arith, c.type_inv.bytes i) in
    (read_is c.read_route.result c.args.afi c.args.bytes.now fits c.read_route.ensures).1.1

pub returns-clause-spelled : goal.returns-clause-spelled
returns-clause-spelled c =
    let fits : IsOctets c.args.bytes.now = λ i. omega (arith, c.type_inv.bytes i) in
    (read_is c.read_route.result c.args.afi c.args.bytes.now fits c.read_route.ensures).0

pub returns-clause-only_spelled : goal.returns-clause-only_spelled
returns-clause-only_spelled c = spelled_is_read c.read_route.result c.args.afi c.args.bytes.now c.read_route.ensures

pub returns-clause-first : goal.returns-clause-first
returns-clause-first c =
    let fits : IsOctets c.args.bytes.now = λ i. omega (arith, c.type_inv.bytes i) in
    (read_is c.read_route.result c.args.afi c.args.bytes.now fits c.read_route.ensures).1.0

pub returns-clause-only_first : goal.returns-clause-only_first
returns-clause-only_first c = fault_is_read c.read_route.result c.args.afi c.args.bytes.now c.read_route.ensures
