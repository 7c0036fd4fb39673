use Rattle.std.proofs.Common.{◌-◌, length}
use Rattle.mv_base.proofs.framing.Loops.{OnWay}
use Rattle.mldp.specs.mldp_msgs.Reading.{pdu_front}
use Rattle.mldp.proofs.mldp_msgs.pdu.cut_pdus.Given as goal

abbrev pub invariant-pdus : goal.invariant-pdus
invariant-pdus l = OnWay pdu_front l.octets l.place l.messages.items

abbrev pub decreases-pdus : goal.decreases-pdus
decreases-pdus l = length l.octets - l.place
