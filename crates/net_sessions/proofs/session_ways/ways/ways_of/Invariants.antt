use Rattle.std.proofs.Common.{◌≡◌, map}
use Rattle.network_defs.specs.Counts.{node_ids}
use Rattle.net_sessions.specs.session_ways.Ways.{ways_from}
use Rattle.net_sessions.proofs.session_ways.ways.ways_of.Given as goal

abbrev pub invariant-loop-number : goal.invariant-loop-number
invariant-loop-number l = l.ways ≡ map (λ n. ways_from n l.directions) (node_ids 0 l.number)
