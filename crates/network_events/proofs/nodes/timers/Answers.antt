use Rattle.std.proofs.Common.{refl, sym, subst, [], ◌∷◌, Option, Result}
use Rattle.scenario_defs.specs.declared.event.Event.TheVariants as events
use Rattle.scenario_defs.specs.declared.report.Refusal.{Refusal}
use Rattle.network_defs.specs.Acts as acts
use Rattle.network_defs.specs.Events.{row}
use Rattle.network_events.specs.Meeting.{IsReady, IsResting, Meets}
use Rattle.network_events.specs.declared.halt.Halt.{Halt}
use Rattle.network_events.proofs.EventLemmas.{meets_by}
use Rattle.network_events.proofs.NodeLemmas.{some_as}
use Rattle.network_events.proofs.nodes.timers.Goals as goal

pub timers_at-requires-clause-network : goal.timers_at-requires-clause-network
timers_at-requires-clause-network c = some_as IsReady IsResting c.args.network.now (λ at ready is. ready.resting) c.requires.network

pub returns : goal.returns
returns c =
    subst (λ (r : Result (Option Refusal) Halt). Meets (events.Timers c.args.node) c.args.network.now c.timers_at.new.network c.args.lines.now
    c.timers_at.new.lines r) (sym c.met.ensures)
    (meets_by IsResting (events.Timers c.args.node) (row (acts.Timers c.args.node ∷ [])) c.args.network.now c.timers_at.new.network c.args.lines.now
    c.timers_at.new.lines c.timers_at.result (λ at ready is. refl)
    (λ at ready is. (ready.resting, refl)) c.timers_at.ensures)
