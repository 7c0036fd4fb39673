use Rattle.std.proofs.Common.{◌∙◌, sym, Ok}
use Rattle.scenario_defs.specs.declared.event.Event.TheVariants as events
use Rattle.network_defs.specs.Acts as acts
use Rattle.network_acts.specs.Words.{same_moment}
use Rattle.network_events.specs.Meeting.{IsReady}
use Rattle.network_events.proofs.EventLemmas.{lose_taken}
use Rattle.network_events.proofs.MeetLemmas.{meets_done}
use Rattle.network_events.proofs.RowLemmas.{passes_does}
use Rattle.network_events.proofs.sessions.lose.Goals as goal

pub returns : goal.returns
returns c =
    meets_done (events.Lose c.args.kind c.args.a c.args.b) c.args.network.now c.args.lines.now c.lose.new.self c.args.lines.now (Ok tt)
    (λ at ready is. lose_taken at.world c.args.kind c.args.a c.args.b (sym (c.is_joined.ensures at is) ∙ c.if-not-is_joined.false))
    (passes_does IsReady same_moment (acts.Lose c.args.kind c.args.a c.args.b) c.args.network.now c.lose.new.self c.args.lines.now
    (λ at ready is. c.lose.ensures at is))
