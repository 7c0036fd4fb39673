use Rattle.std.proofs.Common.{◌-◌, List, length}
use Rattle.bgp_messages.specs.declared.bgp_attributes.attribute.Attribute.{Attribute}
use Rattle.bgp_messages.proofs.bgp_attributes.AttributeLemmas.{IsRead}
use Rattle.bgp_messages.proofs.bgp_attributes.reading.read_attributes.Given as goal

abbrev pub invariant-attributes : goal.invariant-attributes
invariant-attributes l = (before : List Attribute) × IsRead l.octets l.passed before l.found

abbrev pub decreases-attributes : goal.decreases-attributes
decreases-attributes l = length l.octets - l.passed
