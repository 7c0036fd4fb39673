use Rattle.std.proofs.Common.{◌≡◌, take}
use Rattle.std.specs.Prelude.{map}
use Rattle.bgp_messages.specs.bgp_attributes.Reading.{advert_of}
use Rattle.bgp_messages.proofs.bgp_attributes.found.adverts_of.Given as goal

abbrev pub invariant-loop-key : goal.invariant-loop-key
invariant-loop-key l = l.adverts ≡ map (advert_of l.comms l.pmsi l.reachable.next_hop) (take l.key-index l.keys)
