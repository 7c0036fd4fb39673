use Rattle.std.proofs.Common.{ℕ, ◌+◌, ◌<◌, length, Option, sym, subst, ◌∙◌, arith}
use Rattle.std.specs.Option.{SomeIff}
use Rattle.net_sessions.proofs.session_transit.Totals.{held_more, held_same}
use Rattle.net_sessions.proofs.session_transit.sessions.put.Goals as goal

pub returns-in_err-put_after-clause-counted : goal.returns-in_err-put_after-clause-counted
returns-in_err-put_after-clause-counted c =
    c.requires.counted ∙ sym (held_same c.args.sessions.now c.put_after.new.sessions c.in_err-put_after.ensures.same)

pub returns-clause-counted : goal.returns-clause-counted
returns-clause-counted c =
    let sum = c.args.total.now + length c.args.octets.now in
    let more = subst (λ (o : Option ℕ). SomeIff o (sum < 18446744073709551616) sum) c.in_ok-more.ensures.ok_part c.checked_add.ensures in
    let changes =
    held_more c.args.sessions.now c.put_after.new.sessions c.args.over c.args.octets.now c.in_ok-put_after.ensures.put
    (sym c.contains_key.ensures ∙ c.if-not-contains_key.false) in
    omega (arith, c.requires.counted, changes, more.1)
