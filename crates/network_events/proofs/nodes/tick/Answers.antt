use Rattle.std.proofs.Common.{refl, Ok}
use Rattle.scenario_defs.specs.declared.event.Event.TheVariants as events
use Rattle.network_defs.specs.Acts as acts
use Rattle.network_acts.specs.Words.{same_moment}
use Rattle.network_events.specs.Meeting.{IsReady}
use Rattle.network_events.proofs.MeetLemmas.{meets_done}
use Rattle.network_events.proofs.RowLemmas.{passes_does}
use Rattle.network_events.proofs.nodes.tick.Goals as goal

pub returns : goal.returns
returns c =
    meets_done (events.Tick c.args.count) c.args.network.now c.args.lines.now c.tick.new.self c.args.lines.now (Ok tt) (λ at ready is. refl)
    (passes_does IsReady same_moment (acts.Tick c.args.count) c.args.network.now c.tick.new.self c.args.lines.now
    (λ at ready is. c.tick.ensures at is))
