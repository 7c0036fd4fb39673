use Rattle.std.proofs.Common.{sym, ap, subst, cond, [], ◌∷◌, Bool, Result}
use Rattle.network_defs.specs.Acts as acts
use Rattle.network_defs.specs.Events.{row}
use Rattle.network_acts.specs.Instant.{OfPlane}
use Rattle.network_acts.specs.Words.{IsLost, same_moment}
use Rattle.network_events.specs.Doing.{Does, answer_at}
use Rattle.network_events.specs.declared.halt.Halt.{Halt}
use Rattle.network_events.proofs.DoLemmas.{act_does}
use Rattle.network_events.proofs.RowLemmas.{does_alike, does_nothing}
use Rattle.network_events.proofs.sessions.notice_if.Goals as goal

pub returns-then-not-up : goal.returns-then-not-up
returns-then-not-up c =
    let kind = c.args.kind in
    let a = c.args.a in
    let b = c.args.b in
    does_nothing (OfPlane (IsLost kind a b)) (row (cond c.args.up (acts.Notice kind a b ∷ []) [])) c.args.network.now c.args.lines.now
    (λ at lost is. ap (λ (up : Bool). row (cond up (acts.Notice kind a b ∷ []) []) at.world) c.if-not-up.true)

pub returns : goal.returns
returns c =
    let kind = c.args.kind in
    let a = c.args.a in
    let b = c.args.b in
    subst (λ (r : Result (Unit {0}) Halt). Does (OfPlane (IsLost kind a b)) same_moment (row (cond c.args.up (acts.Notice kind a b ∷ []) []))
    c.args.network.now c.notice.new.self c.args.lines.now c.notice.new.lines r)
    (sym c.answer_at.ensures)
    (does_alike (OfPlane (IsLost kind a b)) (row (acts.Notice kind a b ∷ [])) (row (cond c.args.up (acts.Notice kind a b ∷ []) [])) c.args.network.now
    c.notice.new.self c.args.lines.now c.notice.new.lines
    (answer_at a c.notice.result) (λ at lost is. ap (λ (up : Bool). row (cond up (acts.Notice kind a b ∷ []) []) at.world) (sym c.if-not-up.false))
    (act_does (OfPlane (IsLost kind a b)) same_moment (acts.Notice kind a b) a c.args.network.now c.notice.new.self c.args.lines.now
    c.notice.new.lines c.notice.result c.notice.ensures))
