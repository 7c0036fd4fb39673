use Rattle.mv_base.proofs.framing.Feeds.{any_cut}
use Rattle.mldp.specs.mldp_msgs.Reading.{pdu_front}
use Rattle.mldp.specs.mldp_msgs.Spelling.{SpellsPdu}
use Rattle.mldp.proofs.mldp_msgs.Pdus.{pdu_format}
use Rattle.mldp.proofs.mldp_msgs.laws.any_cut.Goals as goal

pub returns : goal.returns
returns c = λ ps qs fits same. any_cut pdu_front SpellsPdu pdu_format.stream ps qs fits same
