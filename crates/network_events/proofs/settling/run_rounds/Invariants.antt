use Rattle.std.proofs.Common.{Ok}
use Rattle.network_defs.specs.Events.{each, times, turn}
use Rattle.network_acts.specs.Words.{same_moment}
use Rattle.network_events.specs.Doing.{Does}
use Rattle.network_events.specs.Meeting.{IsResting}
use Rattle.network_events.proofs.settling.run_rounds.Given as goal

abbrev pub invariant-loop-round : goal.invariant-loop-round
invariant-loop-round l = Does IsResting same_moment (times (each turn l.ways) l._round) l.initial.network l.network l.initial.lines l.lines (Ok tt)
