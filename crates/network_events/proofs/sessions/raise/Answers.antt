use Rattle.std.proofs.Common.{◌∙◌, refl, sym, subst, Option, Result}
use Rattle.scenario_defs.specs.declared.event.Event.TheVariants as events
use Rattle.scenario_defs.specs.declared.report.Refusal.{Refusal}
use Rattle.scenario_defs.specs.declared.report.Refusal.TheVariants as refusals
use Rattle.mvpn_model.specs.Sessions.{sessions}
use Rattle.network_defs.specs.Events.{raises, row}
use Rattle.network_defs.specs.World.{scenario_of}
use Rattle.network_acts.specs.Instant.{Instant, IsWorld, OfPlane}
use Rattle.network_acts.specs.Words.{IsWithin}
use Rattle.network_events.specs.Meeting.{IsReady, Meets}
use Rattle.network_events.specs.Parts.{IsRaisable}
use Rattle.network_events.specs.declared.halt.Halt.{Halt}
use Rattle.network_events.proofs.EventLemmas.{meets_by, raise_first_up, raise_second_up, raise_taken}
use Rattle.network_events.proofs.MeetLemmas.{meets_refused}
use Rattle.network_events.proofs.NodeLemmas.{first_within, second_within, some_as, way_in}
use Rattle.network_events.proofs.sessions.raise.Goals.{then-is_up-via-then-is_up, then-is_up-via-else-is_up+then-is_up-2}
use Rattle.network_events.proofs.sessions.raise.Goals as goal

pub is_up-requires : goal.is_up-requires
is_up-requires c = record {
  network =
      some_as IsReady (OfPlane (IsWithin c.args.a)) c.args.network.now
      (λ at ready is. first_within c.args.kind c.args.a c.args.b c.args.network.now c.requires.event.of_it at is) c.requires.network;
}

pub is_up-requires-else-is_up : goal.is_up-requires-else-is_up
is_up-requires-else-is_up c = record {
  network =
      some_as IsReady (OfPlane (IsWithin c.args.b)) c.args.network.now
      (λ at ready is. second_within c.args.kind c.args.a c.args.b c.args.network.now c.requires.event.of_it at is) c.requires.network;
}

pub returns-then-is_up : goal.returns-then-is_up
returns-then-is_up c =
    let kind = c.args.kind in
    let a = c.args.a in
    let b = c.args.b in
    let old = c.args.network.now in
    elim c.then-is_up.branch [
      | then-is_up-via-then-is_up w ↦
          meets_refused (events.Raise kind a b) old c.args.lines.now refusals.State
          (λ at ready is. raise_first_up at.world kind a b
          (sym (c.is_up.ensures at (first_within kind a b old c.requires.event.of_it at is) is) ∙ w.if-is_up.true))
      | then-is_up-via-else-is_up+then-is_up-2 w ↦
          meets_refused (events.Raise kind a b) old c.args.lines.now refusals.State
          (λ at ready is. raise_second_up at.world kind a b
          (sym (w.is_up-else-is_up.ensures at (second_within kind a b old c.requires.event.of_it at is) is) ∙ w.if-is_up-2.true))
    ]

pub raise_session-requires : goal.raise_session-requires
raise_session-requires c =
    let kind = c.args.kind in
    let a = c.args.a in
    let b = c.args.b in
    let old = c.args.network.now in
    record {
      network = some_as IsReady (IsRaisable kind a b) old (λ at ready is. record {
        resting = ready.resting;
        way = way_in kind a b old c.requires.event.of_it at is;
        first = sym (c.is_up.ensures at (first_within kind a b old c.requires.event.of_it at is) is) ∙ c.if-is_up.false;
        second = sym (c.is_up-else-is_up.ensures at (second_within kind a b old c.requires.event.of_it at is) is) ∙ c.if-is_up-2.false;
      }) c.requires.network;
    }

pub returns : goal.returns
returns c =
    let kind = c.args.kind in
    let a = c.args.a in
    let b = c.args.b in
    let old = c.args.network.now in
    let raisable : (at : Instant) → IsReady at → IsWorld at old → IsRaisable kind a b at = λ at ready is. record {
      resting = ready.resting;
      way = way_in kind a b old c.requires.event.of_it at is;
      first = sym (c.is_up.ensures at (first_within kind a b old c.requires.event.of_it at is) is) ∙ c.if-is_up.false;
      second = sym (c.is_up-else-is_up.ensures at (second_within kind a b old c.requires.event.of_it at is) is) ∙ c.if-is_up-2.false;
    } in
    subst (λ (r : Result (Option Refusal) Halt). Meets (events.Raise kind a b) old c.raise_session.new.network c.args.lines.now
    c.raise_session.new.lines r) (sym c.met.ensures)
    (meets_by (IsRaisable kind a b) (events.Raise kind a b) (λ world. row (raises (sessions (scenario_of world)) kind a b) world) old
    c.raise_session.new.network c.args.lines.now c.raise_session.new.lines
    c.raise_session.result
    (λ at ready is. raise_taken at.world kind a b (raisable at ready is).first (raisable at ready is).second)
    (λ at ready is. (raisable at ready is, refl)) c.raise_session.ensures)
