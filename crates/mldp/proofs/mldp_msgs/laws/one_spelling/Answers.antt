use Rattle.mv_base.proofs.framing.Cuts.{one_unit}
use Rattle.mldp.specs.mldp_msgs.Reading.{pdu_front}
use Rattle.mldp.specs.mldp_msgs.Spelling.{SpellsPdu}
use Rattle.mldp.proofs.mldp_msgs.Pdus.{pdu_format}
use Rattle.mldp.proofs.mldp_msgs.laws.one_spelling.Goals as goal

pub returns : goal.returns
returns c = λ ms ns text other x y a b same. one_unit pdu_front SpellsPdu pdu_format.stream.framing ms ns text other x y a b same
