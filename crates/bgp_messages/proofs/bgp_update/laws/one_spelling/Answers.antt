use Rattle.mv_base.proofs.framing.Cuts.{one_unit}
use Rattle.bgp_messages.specs.bgp_update.Reading.{message_front}
use Rattle.bgp_messages.specs.bgp_update.Spelling.{SpellsMessage}
use Rattle.bgp_messages.proofs.bgp_update.Messages.{messages_framed}
use Rattle.bgp_messages.proofs.bgp_update.laws.one_spelling.Goals as goal

pub returns : goal.returns
returns c = λ ms ns text other x y a b same. one_unit message_front SpellsMessage messages_framed ms ns text other x y a b same
