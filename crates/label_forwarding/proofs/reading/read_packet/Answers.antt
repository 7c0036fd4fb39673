use Rattle.std.proofs.Common.{◌∙◌, arith}
use Rattle.mv_base.specs.Octets.{IsOctets}
use Rattle.label_forwarding.proofs.PacketLemmas.{answer_is, packet_again, fails_packet}
use Rattle.label_forwarding.proofs.reading.read_packet.Goals as goal

pub returns-clause-spelled : goal.returns-clause-spelled
returns-clause-spelled c =
    let fits : IsOctets c.args.bytes.now = λ i. omega (arith, c.type_inv.bytes i) in
    (answer_is c.read.result c.args.bytes.now fits c.read.ensures).0

pub returns-clause-first : goal.returns-clause-first
returns-clause-first c =
    let fits : IsOctets c.args.bytes.now = λ i. omega (arith, c.type_inv.bytes i) in
    (answer_is c.read.result c.args.bytes.now fits c.read.ensures).1

pub returns-clause-only_spelled : goal.returns-clause-only_spelled
returns-clause-only_spelled c = λ source group spelled. c.read.ensures ∙ packet_again source group c.args.bytes.now spelled

pub returns-clause-only_first : goal.returns-clause-only_first
returns-clause-only_first c = λ fault first. c.read.ensures ∙ fails_packet c.args.bytes.now fault first
