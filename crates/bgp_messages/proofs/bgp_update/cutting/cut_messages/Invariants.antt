use Rattle.std.proofs.Common.{◌-◌, length}
use Rattle.mv_base.proofs.framing.Loops.{OnWay}
use Rattle.bgp_messages.specs.bgp_update.Reading.{message_front}
use Rattle.bgp_messages.proofs.bgp_update.cutting.cut_messages.Given as goal

abbrev pub invariant-messages : goal.invariant-messages
invariant-messages l = OnWay message_front l.octets l.place l.messages.items

abbrev pub decreases-messages : goal.decreases-messages
decreases-messages l = length l.octets - l.place
