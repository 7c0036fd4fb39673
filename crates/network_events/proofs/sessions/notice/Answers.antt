use Rattle.std.proofs.Common.{◌≡◌, ◌∙◌, refl, sym, ap, subst, false, [], ◌∷◌, Option, Result}
use Rattle.scenario_defs.specs.declared.event.Event.TheVariants as events
use Rattle.scenario_defs.specs.declared.report.Refusal.{Refusal}
use Rattle.network_defs.specs.Acts as acts
use Rattle.network_defs.specs.Counts.{direction}
use Rattle.network_defs.specs.Events.{row}
use Rattle.network_acts.specs.Instant.{Instant, IsWorld, OfPlane}
use Rattle.network_acts.specs.Words.{IsLost, IsWithin, same_moment}
use Rattle.network_events.specs.Doing.{answer_at}
use Rattle.network_events.specs.Meeting.{IsReady, Meets, met}
use Rattle.network_events.specs.declared.halt.Halt.{Halt}
use Rattle.network_events.proofs.DoLemmas.{act_does}
use Rattle.network_events.proofs.EventLemmas.{meets_by, notice_taken}
use Rattle.network_events.proofs.NodeLemmas.{first_within, lost_in, some_as}
use Rattle.network_events.proofs.sessions.notice.Goals as goal

pub is_up-requires : goal.is_up-requires
is_up-requires c = record {
  network =
      some_as IsReady (OfPlane (IsWithin c.args.a)) c.args.network.now
      (λ at ready is. first_within c.args.kind c.args.a c.args.b c.args.network.now c.requires.event.of_it at is) c.requires.network;
}

pub notice-requires : goal.notice-requires
notice-requires c = record {
  network = some_as IsReady (OfPlane (IsLost c.args.kind c.args.a c.args.b)) c.args.network.now
      (λ at ready is. lost_in c.args.kind c.args.a c.args.b c.args.network.now c.requires.event.of_it at ready.resting is
      (sym (c.is_joined.ensures at is) ∙ c.if-is_joined.false)) c.requires.network;
}

pub returns : goal.returns
returns c =
    let kind = c.args.kind in
    let a = c.args.a in
    let b = c.args.b in
    let old = c.args.network.now in
    let apart : (at : Instant) → IsWorld at old → at.world.network.joined (direction kind a b) ≡ false =
    λ at is. sym (c.is_joined.ensures at is) ∙ c.if-is_joined.false in
    subst (λ (r : Result (Option Refusal) Halt). Meets (events.Notice kind a b) old c.notice.new.self c.args.lines.now c.notice.new.lines r)
    (sym (c.met.ensures ∙ ap met c.answer_at.ensures))
    (meets_by (OfPlane (IsLost kind a b)) (events.Notice kind a b) (row (acts.Notice kind a b ∷ [])) old c.notice.new.self c.args.lines.now
    c.notice.new.lines (answer_at a c.notice.result)
    (λ at ready is. notice_taken at.world kind a b (apart at is)
    (sym (c.is_up.ensures at (first_within kind a b old c.requires.event.of_it at is) is) ∙ c.if-not-is_up.false))
    (λ at ready is. (lost_in kind a b old c.requires.event.of_it at ready.resting is (apart at is), refl))
    (act_does (OfPlane (IsLost kind a b)) same_moment (acts.Notice kind a b) a old c.notice.new.self c.args.lines.now c.notice.new.lines
    c.notice.result c.notice.ensures))
