use Rattle.label_forwarding.specs.Written.{written}
use Rattle.label_forwarding.proofs.PacketLemmas.{packet_again}
use Rattle.label_forwarding.proofs.WrittenLemmas.{written_spelled}
use Rattle.label_forwarding.proofs.laws.written_is_read.Goals as goal

pub returns-clause-spelled : goal.returns-clause-spelled
returns-clause-spelled c = written_spelled

pub returns-clause-read : goal.returns-clause-read
returns-clause-read c =
    λ source group payload sent. packet_again source group (written source group payload) (written_spelled source group payload sent)
