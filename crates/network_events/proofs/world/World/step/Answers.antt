use Rattle.std.proofs.Common.{◌≡◌, ◌∙◌, ◌+◌, ◌<◌, refl, sym, ap, subst, List, [], Option, None, Some, Result, Err}
use Rattle.std.proofs.lemmas.Option.{none-some}
use Rattle.scenario_defs.specs.Rules.{IsEventOf}
use Rattle.scenario_defs.specs.declared.report.ReportLine.{ReportLine}
use Rattle.mvpn_model.specs.Past.{ticks_of}
use Rattle.network_events.specs.Behind.{Steps}
use Rattle.network_events.specs.Meeting.{Meets}
use Rattle.network_events.specs.WorldView.{WorldView}
use Rattle.network_events.proofs.StepLemmas.{given_event, some_ready, step_goes, step_halts, still_reached}
use Rattle.network_events.proofs.world.World.step.Goals as goal

pub meet-answer-requires-clause-network : goal.meet-answer-requires-clause-network
meet-answer-requires-clause-network c =
    let inside = c.self.inside in
    let view : WorldView = record { network = inside.network; halt = inside.halt } in
    some_ready view (c.self.invariant c.in_default.is)

pub meet-answer-requires-clause-event : goal.meet-answer-requires-clause-event
meet-answer-requires-clause-event c =
    let inside = c.self.inside in
    let view : WorldView = record { network = inside.network; halt = inside.halt } in
    let unhalted = ap (λ (w : WorldView). w.halt) (sym c.self.view_is) ∙ c.in_default.is in
    let is = subst (λ (w : WorldView). IsEventOf w.network.scenario c.args.event.now) (sym c.self.view_is) (c.requires.event unhalted) in
    given_event view (c.self.invariant c.in_default.is) c.args.event.now is c.event_has_octets.ensures

pub meet-answer-requires-clause-clock : goal.meet-answer-requires-clause-clock
meet-answer-requires-clause-clock c =
    let unhalted = ap (λ (w : WorldView). w.halt) (sym c.self.view_is) ∙ c.in_default.is in
    subst (λ (w : WorldView). w.network.plane.clock + ticks_of c.args.event.now < 9223372036854775808) (sym c.self.view_is)
    (c.requires.clock unhalted)

pub returns-in-Err : goal.returns-in-Err
returns-in-Err c =
    let inside = c.self.inside in
    let view : WorldView = record { network = inside.network; halt = inside.halt } in
    let now : WorldView = record { network = c.meet-answer.new.network; halt = Some c.in-Err.halt } in
    let unhalted = ap (λ (w : WorldView). w.halt) (sym c.self.view_is) ∙ c.in_default.is in
    let is = subst (λ (w : WorldView). IsEventOf w.network.scenario c.args.event.now) (sym c.self.view_is) (c.requires.event unhalted) in
    let meets =
    subst (λ (l : List ReportLine). Meets c.args.event.now view.network c.meet-answer.new.network l c.meet-answer.new.lines c.meet-answer.result)
    c.new-own.ensures c.meet-answer.ensures in
    subst (λ (w : WorldView). Steps c.args.line c.args.event.now w now c.args.lines.now c.hand_over-result.new.lines (Err c.in-Err.halt))
    c.self.view_is
    (step_halts c.args.line c.args.event.now view c.in_default.is is c.meet-answer.new.network c.args.lines.now c.meet-answer.new.lines
    c.tell-told.new.lines c.hand_over-result.new.lines c.meet-answer.result meets
    c.in-Err.halt c.tell-told.result c.hand_over-result.result c.in-Err.is c.tell-told.ensures c.hand_over-result.ensures)

pub invariant_of-self : goal.invariant_of-self
invariant_of-self c = λ going. absurd (none-some c.in-Err.halt (sym going))

pub invariant_of-self-in_default-result : goal.invariant_of-self-in_default-result
invariant_of-self-in_default-result c = λ going.
    let inside = c.self.inside in
    let view : WorldView = record { network = inside.network; halt = inside.halt } in
    let now : WorldView = record { network = c.meet-answer.new.network; halt = inside.halt } in
    let unhalted = ap (λ (w : WorldView). w.halt) (sym c.self.view_is) ∙ c.in_default.is in
    let is = subst (λ (w : WorldView). IsEventOf w.network.scenario c.args.event.now) (sym c.self.view_is) (c.requires.event unhalted) in
    let meets =
    subst (λ (l : List ReportLine). Meets c.args.event.now view.network c.meet-answer.new.network l c.meet-answer.new.lines c.meet-answer.result)
    c.new-own.ensures c.meet-answer.ensures in
    still_reached c.args.line c.args.event.now view now c.args.lines.now c.hand_over-result.new.lines c.hand_over-result.result
    c.in_default-result.not-Err
    (step_goes c.args.line c.args.event.now view c.in_default.is is c.meet-answer.new.network c.args.lines.now c.meet-answer.new.lines
    c.tell-told.new.lines c.hand_over-result.new.lines c.meet-answer.result meets
    inside.halt c.in_default.is c.tell-told.result c.hand_over-result.result c.in_default-result.not-Err c.tell-told.ensures
    c.hand_over-result.ensures)
    (c.self.invariant c.in_default.is)

pub returns-in_default-result : goal.returns-in_default-result
returns-in_default-result c =
    let inside = c.self.inside in
    let view : WorldView = record { network = inside.network; halt = inside.halt } in
    let now : WorldView = record { network = c.meet-answer.new.network; halt = inside.halt } in
    let unhalted = ap (λ (w : WorldView). w.halt) (sym c.self.view_is) ∙ c.in_default.is in
    let is = subst (λ (w : WorldView). IsEventOf w.network.scenario c.args.event.now) (sym c.self.view_is) (c.requires.event unhalted) in
    let meets =
    subst (λ (l : List ReportLine). Meets c.args.event.now view.network c.meet-answer.new.network l c.meet-answer.new.lines c.meet-answer.result)
    c.new-own.ensures c.meet-answer.ensures in
    subst (λ (w : WorldView). Steps c.args.line c.args.event.now w now c.args.lines.now c.hand_over-result.new.lines c.hand_over-result.result)
    c.self.view_is
    (step_goes c.args.line c.args.event.now view c.in_default.is is c.meet-answer.new.network c.args.lines.now c.meet-answer.new.lines
    c.tell-told.new.lines c.hand_over-result.new.lines c.meet-answer.result meets
    inside.halt c.in_default.is c.tell-told.result c.hand_over-result.result c.in_default-result.not-Err c.tell-told.ensures
    c.hand_over-result.ensures)
