use Rattle.std.proofs.Common.{refl}
use Rattle.node_laws.proofs.TakenLemmas.{message_called, spent_takes}
use Rattle.node_laws.proofs.bgp.messages_are_taken.Goals as goal

pub returns : goal.returns
returns c = record {
  none = λ place now from old. refl;
  more = λ place now from message more old. refl;
  calls = message_called;
  spent = spent_takes;
}
