use Rattle.std.proofs.Common.{◌≡◌, take}
use Rattle.net_sessions.specs.session_ways.Ways.{ways_from}
use Rattle.net_sessions.proofs.session_ways.ways.ways_from.Given as goal

abbrev pub invariant-loop-over : goal.invariant-loop-over
invariant-loop-over l = l.found ≡ ways_from l.node (take l.over-index l.directions)
