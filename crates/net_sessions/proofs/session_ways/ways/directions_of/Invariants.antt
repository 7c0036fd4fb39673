use Rattle.std.proofs.Common.{◌≡◌, flat_map, take}
use Rattle.network_defs.specs.Counts.{directions_of}
use Rattle.net_sessions.proofs.session_ways.ways.directions_of.Given as goal

abbrev pub invariant-loop-session : goal.invariant-loop-session
invariant-loop-session l = l.found ≡ flat_map directions_of (take l.session-index l.sessions)
