use Rattle.std.proofs.Common.{◌↔◌, IsTrue, take}
use Rattle.mldp.specs.mldp_msgs.Labels.{IsMapped}
use Rattle.mldp.proofs.mldp_msgs.labels.is_mapped.Given as goal

-- whether it is mapped after the messages so far
abbrev pub invariant-messages : goal.invariant-messages
invariant-messages l = IsTrue l.mapped ↔ IsMapped (take l.message-index l.messages) l.fec l.label
