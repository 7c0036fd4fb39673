use Rattle.std.proofs.Common.{take, Ok}
use Rattle.network_defs.specs.Events.{each, turn}
use Rattle.network_acts.specs.Words.{same_moment}
use Rattle.network_events.specs.Doing.{Does}
use Rattle.network_events.specs.Meeting.{IsResting}
use Rattle.network_events.proofs.settling.run_round.Given as goal

abbrev pub invariant-loop-over : goal.invariant-loop-over
invariant-loop-over l = Does IsResting same_moment (each turn (take l.over-index l.ways)) l.initial.network l.network l.initial.lines l.lines (Ok tt)
