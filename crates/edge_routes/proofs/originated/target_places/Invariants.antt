use Rattle.std.proofs.Common.{◌≡◌, map, take}
use Rattle.edge_defs.specs.bgp_messages.bgp_attributes.Spelling.{AreComms}
use Rattle.edge_routes.proofs.originated.target_places.Given as goal

abbrev pub invariant-loop-i : goal.invariant-loop-i
invariant-loop-i l = record { comms : take l.i l.places ≡ map (λ target. target.0) (take l.i l.list); octets : AreComms (take l.i l.places) }
