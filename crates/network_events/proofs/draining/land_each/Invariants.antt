use Rattle.std.proofs.Common.{take}
use Rattle.network_events.proofs.HopLemmas.{OnLanding}
use Rattle.network_events.proofs.draining.land_each.Given as goal

abbrev pub invariant-loop-way : goal.invariant-loop-way
invariant-loop-way l = OnLanding l.fn.network (take l.way-index l.ways) l.fn.lines l.lines l.network
