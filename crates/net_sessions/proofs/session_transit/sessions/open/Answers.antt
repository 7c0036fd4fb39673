use Rattle.std.proofs.Common.{cond, [], Some, ◌∙◌, arith}
use Rattle.std.proofs.lemmas.Result.{IfOk-at_ok}
use Rattle.indexmap.specs.IndexMap.{get}
use Rattle.net_sessions.specs.session_transit.Kept.{is_key}
use Rattle.net_sessions.proofs.session_transit.Totals.{held_changes, held_least}
use Rattle.net_sessions.proofs.session_transit.sessions.open.Goals as goal

pub overflow_sub-total : goal.overflow_sub-total
overflow_sub-total c = omega (arith, c.waiting.ensures, c.requires.counted, held_least c.args.sessions.now c.args.over)

pub returns-clause-counted : goal.returns-clause-counted
returns-clause-counted c =
    let updates = IfOk-at_ok _ c.unwrap.ensures c.insert.ensures.updates in
    let changes = held_changes c.args.sessions.now c.insert.new.self c.args.over (Some []) (λ q.
    updates.0 q ∙ (λ i. cond (is_key c.args.over q) (Some (c.new.ensures i)) (get is_key c.args.sessions.now q))) in
    omega (arith, c.waiting.ensures, c.requires.counted, changes)
