use Rattle.std.proofs.Common.{◌≡◌, ◌++◌, drop}
use Rattle.network_events.specs.Places.{among_from}
use Rattle.network_events.proofs.places.among.Given as goal

abbrev pub invariant-loop-number : goal.invariant-loop-number
invariant-loop-number l = l.found ++ among_from l.own l.number (drop l.number l.vrfs) ≡ among_from l.own 0 l.vrfs
