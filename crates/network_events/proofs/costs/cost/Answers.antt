use Rattle.std.proofs.Common.{refl, sym, subst, Option, Result}
use Rattle.scenario_defs.specs.declared.event.Event.TheVariants as events
use Rattle.scenario_defs.specs.declared.report.Refusal.{Refusal}
use Rattle.network_defs.specs.Events.{cost_acts, row}
use Rattle.network_defs.specs.World.{scenario_of}
use Rattle.network_events.specs.Meeting.{IsReady, IsResting, Meets}
use Rattle.network_events.specs.declared.halt.Halt.{Halt}
use Rattle.network_events.proofs.EventLemmas.{meets_by}
use Rattle.network_events.proofs.NodeLemmas.{some_as}
use Rattle.network_events.proofs.costs.cost.Goals as goal

pub change_cost-requires-clause-network : goal.change_cost-requires-clause-network
change_cost-requires-clause-network c = some_as IsReady IsResting c.args.network.now (λ at ready is. ready.resting) c.requires.network

pub returns : goal.returns
returns c =
    subst (λ (r : Result (Option Refusal) Halt). Meets (events.Cost c.args.a c.args.b c.args.cost) c.args.network.now c.change_cost.new.network
    c.args.lines.now c.change_cost.new.lines r) (sym c.met.ensures)
    (meets_by IsResting (events.Cost c.args.a c.args.b c.args.cost) (λ world. row (cost_acts (scenario_of world) c.args.a c.args.b c.args.cost) world)
    c.args.network.now c.change_cost.new.network c.args.lines.now
    c.change_cost.new.lines c.change_cost.result (λ at ready is. refl) (λ at ready is. (ready.resting, refl)) c.change_cost.ensures)
