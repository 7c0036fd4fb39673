use Rattle.std.proofs.Common.{length, sym, ap, ◌∙◌, arith}
use Rattle.net_sessions.proofs.session_transit.Totals.{held_less, held_same}
use Rattle.net_sessions.proofs.session_transit.sessions.take.Goals as goal

pub returns-in_err-bytes-clause-counted : goal.returns-in_err-bytes-clause-counted
returns-in_err-bytes-clause-counted c = c.requires.counted ∙ sym (held_same c.args.sessions.now c.take_front.new.sessions c.in_err-bytes.ensures.same)

pub overflow_sub-total : goal.overflow_sub-total
overflow_sub-total c =
    omega (
      arith,
      c.len.ensures,
      ap length c.in_ok-bytes.ensures.taken,
      c.requires.counted,
      held_less c.args.sessions.now c.take_front.new.sessions c.args.over c.args.count c.in_ok-bytes.ensures.rest,
    )

pub returns-clause-counted : goal.returns-clause-counted
returns-clause-counted c =
    omega (
      arith,
      c.len.ensures,
      ap length c.in_ok-bytes.ensures.taken,
      c.requires.counted,
      held_less c.args.sessions.now c.take_front.new.sessions c.args.over c.args.count c.in_ok-bytes.ensures.rest,
    )
