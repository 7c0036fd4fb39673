use Rattle.std.proofs.Common.{◌≡◌, ◌∙◌, refl, sym, ap, subst, true, [], ◌∷◌, Option, Result}
use Rattle.scenario_defs.specs.declared.event.Event.TheVariants as events
use Rattle.scenario_defs.specs.declared.report.Refusal.{Refusal}
use Rattle.network_defs.specs.Acts as acts
use Rattle.network_defs.specs.Counts.{direction}
use Rattle.network_defs.specs.Events.{row}
use Rattle.network_acts.specs.Instant.{Instant, IsWorld, OfPlane}
use Rattle.network_acts.specs.Words.{IsMovable, same_moment}
use Rattle.network_events.specs.Doing.{answer_at}
use Rattle.network_events.specs.Meeting.{IsReady, Meets, met}
use Rattle.network_events.specs.declared.halt.Halt.{Halt}
use Rattle.network_events.proofs.DoLemmas.{act_does}
use Rattle.network_events.proofs.EventLemmas.{meets_by, move_taken}
use Rattle.network_events.proofs.NodeLemmas.{some_as, way_in}
use Rattle.network_events.proofs.TurnLemmas.{moving}
use Rattle.network_events.proofs.sessions.move_octets.Goals as goal

pub move_octets-requires : goal.move_octets-requires
move_octets-requires c = record {
  network = some_as IsReady (OfPlane (IsMovable c.args.over)) c.args.network.now
      (λ at ready is.
      moving at c.args.network.now c.args.over ready.resting is
      (way_in c.args.over.kind c.args.over.from c.args.over.to c.args.network.now c.requires.event.of_it.0 at is)
      (sym (c.is_joined.ensures at is) ∙ c.if-not-is_joined.false))
      c.requires.network;
}

pub returns : goal.returns
returns c =
    let over = c.args.over in
    let old = c.args.network.now in
    let joined : (at : Instant) → IsWorld at old → at.world.network.joined (direction over.kind over.from over.to) ≡ true =
    λ at is. sym (c.is_joined.ensures at is) ∙ c.if-not-is_joined.false in
    subst (λ (r : Result (Option Refusal) Halt). Meets (events.Move over.kind over.from over.to c.args.count) old c.move_octets.new.self
    c.args.lines.now c.move_octets.new.lines r)
    (sym (c.met.ensures ∙ ap met c.answer_at.ensures))
    (meets_by (OfPlane (IsMovable over)) (events.Move over.kind over.from over.to c.args.count)
    (row (acts.Move over.kind over.from over.to c.args.count ∷ []))
    old c.move_octets.new.self c.args.lines.now c.move_octets.new.lines (answer_at over.to c.move_octets.result)
    (λ at ready is. move_taken at.world over.kind over.from over.to c.args.count (λ none. c.if-transit-eq0.false (c.transit.ensures at is ∙ none))
    (joined at is))
    (λ at ready is. (
      moving at old over ready.resting is (way_in over.kind over.from over.to old c.requires.event.of_it.0 at is) (joined at is),
      refl,
    ))
    (act_does (OfPlane (IsMovable over)) same_moment (acts.Move over.kind over.from over.to c.args.count) over.to old c.move_octets.new.self
    c.args.lines.now c.move_octets.new.lines c.move_octets.result
    c.move_octets.ensures))
