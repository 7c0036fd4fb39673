use Rattle.std.proofs.Common.{take, Ok}
use Rattle.network_defs.specs.Events.{each, healed}
use Rattle.network_acts.specs.Words.{same_moment}
use Rattle.network_events.specs.Doing.{Does}
use Rattle.network_events.specs.Meeting.{IsResting}
use Rattle.network_events.proofs.sessions.heal_all.Given as goal

abbrev pub invariant-loop-session : goal.invariant-loop-session
invariant-loop-session l =
    Does IsResting same_moment (each healed (take l.session-index l.sessions)) l.initial.network l.network l.initial.lines l.lines (Ok tt)
