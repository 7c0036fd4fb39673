use Rattle.label_forwarding.proofs.PacketLemmas.{one_flow}
use Rattle.label_forwarding.proofs.laws.one_flow.Goals as goal

pub returns : goal.returns
returns c = one_flow
