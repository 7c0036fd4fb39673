use Rattle.std.proofs.Common.{◌∙◌, sym, subst, [], ◌∷◌, Result}
use Rattle.network_defs.specs.Acts as acts
use Rattle.network_defs.specs.Events.{raise_acts, row}
use Rattle.network_acts.specs.Instant.{OfPlane}
use Rattle.network_acts.specs.Words.{IsDown, same_moment, with_rising}
use Rattle.network_events.specs.Doing.{Does}
use Rattle.network_events.specs.Parts.{IsRaisable}
use Rattle.network_events.specs.declared.halt.Halt.{Halt}
use Rattle.network_events.proofs.EndLemmas.{both_up, first_does, first_halted, raisable_down, some_half}
use Rattle.network_events.proofs.NodeLemmas.{some_as}
use Rattle.network_events.proofs.sessions.raise_ends.Goals as goal

pub raise_first-requires : goal.raise_first-requires
raise_first-requires c =
    let s = c.args.session in
    record {
      network =
          some_as (IsRaisable s.kind s.a s.b) (OfPlane (IsDown s.kind s.a s.b)) c.args.network.now
          (λ at raisable is. raisable_down s.kind s.a s.b at c.args.network.now raisable is) c.requires.network;
    }

pub returns-in-Err : goal.returns-in-Err
returns-in-Err c =
    let s = c.args.session in
    first_halted s c.args.network.now c.raise_first.new.self c.args.lines.now c.raise_first.new.lines c.in-Err.halt
    (subst (λ (r : Result (Unit {0}) Halt). Does (IsRaisable s.kind s.a s.b) (with_rising s.kind s.a s.b) (row (acts.RaiseFirst s.kind s.a s.b ∷ []))
    c.args.network.now c.raise_first.new.self c.args.lines.now c.raise_first.new.lines r)
    (sym c.answer_at.ensures ∙ c.in-Err.is)
    (first_does s c.args.network.now c.raise_first.new.self c.args.lines.now c.raise_first.new.lines c.raise_first.result c.raise_first.ensures))

pub raise_second-requires : goal.raise_second-requires
raise_second-requires c =
    let s = c.args.session in
    record {
      network = some_half s c.args.network.now c.raise_first.new.self c.args.lines.now c.raise_first.new.lines
          (subst (λ (r : Result (Unit {0}) Halt). Does (IsRaisable s.kind s.a s.b) (with_rising s.kind s.a s.b)
          (row (acts.RaiseFirst s.kind s.a s.b ∷ [])) c.args.network.now c.raise_first.new.self c.args.lines.now c.raise_first.new.lines r)
          (sym c.answer_at.ensures ∙ c.in_default.is)
          (first_does s c.args.network.now c.raise_first.new.self c.args.lines.now c.raise_first.new.lines c.raise_first.result
          c.raise_first.ensures))
          c.requires.network;
    }

pub returns : goal.returns
returns c =
    let s = c.args.session in
    subst (λ (r : Result (Unit {0}) Halt). Does (IsRaisable s.kind s.a s.b) same_moment (row (raise_acts s)) c.args.network.now
    c.raise_second.new.self c.args.lines.now c.raise_second.new.lines r) (sym c.answer_at-2.ensures)
    (both_up s c.args.network.now c.raise_first.new.self c.args.lines.now c.raise_first.new.lines c.raise_second.new.self c.raise_second.new.lines
    c.raise_second.result
    (subst (λ (r : Result (Unit {0}) Halt). Does (IsRaisable s.kind s.a s.b) (with_rising s.kind s.a s.b) (row (acts.RaiseFirst s.kind s.a s.b ∷ []))
    c.args.network.now c.raise_first.new.self c.args.lines.now c.raise_first.new.lines r)
    (sym c.answer_at.ensures ∙ c.in_default.is)
    (first_does s c.args.network.now c.raise_first.new.self c.args.lines.now c.raise_first.new.lines c.raise_first.result c.raise_first.ensures))
    c.raise_second.ensures)
