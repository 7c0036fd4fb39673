use Rattle.std.proofs.Common.{refl, Ok}
use Rattle.scenario_defs.specs.declared.event.Event.TheVariants as events
use Rattle.network_defs.specs.Acts as acts
use Rattle.network_acts.specs.Instant.{Any}
use Rattle.network_acts.specs.Words.{same_moment}
use Rattle.network_events.specs.Meeting.{IsReady}
use Rattle.network_events.proofs.MeetLemmas.{meets_done}
use Rattle.network_events.proofs.NodeLemmas.{some_as}
use Rattle.network_events.proofs.RowLemmas.{passes_does}
use Rattle.network_events.proofs.nodes.restart.Goals as goal

pub restart-requires-clause-network : goal.restart-requires-clause-network
restart-requires-clause-network c = some_as IsReady Any c.args.network.now (λ at ready is. tt) c.requires.network

pub returns-in-Ok : goal.returns-in-Ok
returns-in-Ok c =
    meets_done (events.Restart c.args.node) c.args.network.now c.args.lines.now c.restart.new.self c.args.lines.now (Ok tt) (λ at ready is. refl)
    (passes_does IsReady same_moment (acts.Restart c.args.node) c.args.network.now c.restart.new.self c.args.lines.now
    (λ at ready is. c.in-Ok.ensures at tt is))
