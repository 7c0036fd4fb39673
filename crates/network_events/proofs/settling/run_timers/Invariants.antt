use Rattle.std.proofs.Common.{map, Ok}
use Rattle.network_defs.specs.Acts as acts
use Rattle.network_defs.specs.Counts.{node_ids}
use Rattle.network_defs.specs.Events.{row}
use Rattle.network_acts.specs.Words.{same_moment}
use Rattle.network_events.specs.Doing.{Does}
use Rattle.network_events.specs.Meeting.{IsResting}
use Rattle.network_events.proofs.settling.run_timers.Given as goal

abbrev pub invariant-loop-number : goal.invariant-loop-number
invariant-loop-number l =
    Does IsResting same_moment (row (map (λ n. acts.Timers n) (node_ids 0 l.number))) l.initial.network l.network l.initial.lines l.lines (Ok tt)
