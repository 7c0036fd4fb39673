use Rattle.std.proofs.Common.{None, arith}
use Rattle.net_sessions.proofs.session_transit.Totals.{held_changes, held_least}
use Rattle.net_sessions.proofs.session_transit.sessions.close.Goals as goal

pub overflow_sub-total : goal.overflow_sub-total
overflow_sub-total c = omega (arith, c.waiting.ensures, c.requires.counted, held_least c.args.sessions.now c.args.over)

pub returns-clause-counted : goal.returns-clause-counted
returns-clause-counted c =
    omega (
      arith,
      c.waiting.ensures,
      c.requires.counted,
      held_changes c.args.sessions.now c.swap_remove.new.self c.args.over None c.swap_remove.ensures.updates.0,
    )
