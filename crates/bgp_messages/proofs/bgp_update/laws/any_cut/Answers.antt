use Rattle.mv_base.proofs.framing.Feeds.{any_cut}
use Rattle.bgp_messages.specs.bgp_update.Reading.{message_front}
use Rattle.bgp_messages.specs.bgp_update.Spelling.{SpellsMessage}
use Rattle.bgp_messages.proofs.bgp_update.Messages.{message_format}
use Rattle.bgp_messages.proofs.bgp_update.laws.any_cut.Goals as goal

pub returns : goal.returns
returns c = λ ps qs fits same. any_cut message_front SpellsMessage message_format.stream ps qs fits same
