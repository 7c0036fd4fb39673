use Rattle.std.proofs.Common.{arith}
use Rattle.decode_text.proofs.FormatLemmas.{whole_tells, fault_tells}
use Rattle.decode_text.proofs.telling.tell.Goals as goal

pub returns-clause-whole : goal.returns-clause-whole
returns-clause-whole c whole =
    whole_tells c.args.format c.args.octets.now c.tell_format.result (λ i. omega (arith, c.type_inv.octets i)) whole c.tell_format.ensures

pub returns-clause-fault : goal.returns-clause-fault
returns-clause-fault c fault =
    fault_tells c.args.format c.args.octets.now c.tell_format.result (λ i. omega (arith, c.type_inv.octets i)) fault c.tell_format.ensures
