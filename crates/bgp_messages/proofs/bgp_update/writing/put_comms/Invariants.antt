use Rattle.std.proofs.Common.{◌≡◌, ◌++◌, take}
use Rattle.bgp_messages.specs.bgp_update.Written.{comms_octets}
use Rattle.bgp_messages.proofs.bgp_update.writing.put_comms.Given as goal

abbrev pub invariant-comms : goal.invariant-comms
invariant-comms l = l.out ≡ l.initial.out ++ comms_octets (take l.comm-index l.comms)
