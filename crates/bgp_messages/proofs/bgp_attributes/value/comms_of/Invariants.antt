use Rattle.std.proofs.Common.{◌≡◌, take}
use Rattle.std.specs.Prelude.{map}
use Rattle.bgp_messages.specs.bgp_attributes.Reading.{comm}
use Rattle.bgp_messages.proofs.bgp_attributes.value.comms_of.Given as goal

abbrev pub invariant-loop-octets : goal.invariant-loop-octets
invariant-loop-octets l = l.comms ≡ map comm (take l.octets-index l.chunks)
