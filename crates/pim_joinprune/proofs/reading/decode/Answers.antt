use Rattle.std.proofs.Common.{arith}
use Rattle.mv_base.specs.Octets.{IsOctets}
use Rattle.pim_joinprune.proofs.Calls.{is_within, is_spelled, is_only, is_first, is_only_first}
use Rattle.pim_joinprune.proofs.reading.decode.Goals as goal

pub returns-clause-within : goal.returns-clause-within
returns-clause-within c =
    let fits : IsOctets c.args.bytes.now = λ i. omega (arith, c.type_inv.bytes i) in
    is_within c.read_placed.result c.args.bytes.now fits c.read_placed.ensures

pub returns-clause-spelled : goal.returns-clause-spelled
returns-clause-spelled c =
    let fits : IsOctets c.args.bytes.now = λ i. omega (arith, c.type_inv.bytes i) in
    is_spelled c.read_placed.result c.args.bytes.now fits c.read_placed.ensures

pub returns-clause-only_spelled : goal.returns-clause-only_spelled
returns-clause-only_spelled c = λ m s. is_only c.read_placed.result c.args.bytes.now m c.read_placed.ensures s

pub returns-clause-first : goal.returns-clause-first
returns-clause-first c =
    let fits : IsOctets c.args.bytes.now = λ i. omega (arith, c.type_inv.bytes i) in
    is_first c.read_placed.result c.args.bytes.now fits c.read_placed.ensures

pub returns-clause-only_first : goal.returns-clause-only_first
returns-clause-only_first c =
    let fits : IsOctets c.args.bytes.now = λ i. omega (arith, c.type_inv.bytes i) in
    is_only_first c.read_placed.result c.args.bytes.now fits c.read_placed.ensures
