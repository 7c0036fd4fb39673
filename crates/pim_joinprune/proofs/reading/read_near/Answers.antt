use Rattle.std.proofs.Common.{arith}
use Rattle.mv_base.specs.Octets.{IsOctets}
use Rattle.pim_joinprune.proofs.Calls.{is_near}
use Rattle.pim_joinprune.proofs.reading.read_near.Goals as goal

pub returns-clause-near : goal.returns-clause-near
returns-clause-near c =
    let fits : IsOctets c.args.bytes.now = λ i. omega (arith, c.type_inv.bytes i) in
    is_near c.read_message.result c.args.bytes.now fits c.read_message.ensures
