use Rattle.mldp.proofs.mldp_msgs.Writings.{pdu_spelled, waits_alone}
use Rattle.mldp.proofs.mldp_msgs.laws.reads_back.Goals as goal

pub returns-clause-spelled : goal.returns-clause-spelled
returns-clause-spelled c = pdu_spelled

pub returns-clause-waits : goal.returns-clause-waits
returns-clause-waits c = waits_alone
