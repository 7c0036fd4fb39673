use Rattle.std.proofs.Common.{◌≡◌, ◌++◌, replicate}
use Rattle.network_events.proofs.draining.add_way.Given as goal

abbrev pub invariant-loop-copy : goal.invariant-loop-copy
invariant-loop-copy l = l.ways ≡ l.fn.ways ++ replicate l._copy (l.from, l.to)
