use Rattle.std.proofs.Common.{◌-◌, length}
use Rattle.mv_base.proofs.framing.Loops.{OnWay}
use Rattle.bgp_messages.specs.bgp_attributes.Reading.{key_front}
use Rattle.bgp_messages.proofs.bgp_attributes.nlri.read_keys.Given as goal

abbrev pub invariant-keys : goal.invariant-keys
invariant-keys l = OnWay (key_front l.family) l.octets l.passed l.keys

abbrev pub decreases-keys : goal.decreases-keys
decreases-keys l = length l.octets - l.passed
