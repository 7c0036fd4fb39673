use Rattle.std.proofs.Common.{◌∙◌, ap, length}
use Rattle.scenario_defs.specs.declared.scenario.Scenario.{Scenario}
use Rattle.network_defs.specs.Acts as acts
use Rattle.network_acts.specs.Words.{all_late}
use Rattle.network_events.specs.Meeting.{IsResting}
use Rattle.network_events.proofs.CostLemmas.{costs_change, priced_scenario, some_repriced}
use Rattle.network_events.proofs.RowLemmas.{passes_does}
use Rattle.network_events.proofs.costs.change_cost.Goals as goal

pub reroute_all-requires-clause-network : goal.reroute_all-requires-clause-network
reroute_all-requires-clause-network c =
    some_repriced c.args.a c.args.b c.args.cost c.args.network.now c.set_cost.new.self c.args.lines.now
    (passes_does IsResting all_late (acts.SetCost c.args.a c.args.b c.args.cost) c.args.network.now c.set_cost.new.self c.args.lines.now
    (λ at resting is. c.in-Ok.ensures at tt is)) c.requires.network

pub reroute_all-requires-clause-nodes : goal.reroute_all-requires-clause-nodes
reroute_all-requires-clause-nodes c = c.len-nodes.ensures ∙ ap (λ (s : Scenario). length s.nodes) c.scenario.ensures

pub returns-in-Ok : goal.returns-in-Ok
returns-in-Ok c =
    let priced =
    passes_does IsResting all_late (acts.SetCost c.args.a c.args.b c.args.cost) c.args.network.now c.set_cost.new.self c.args.lines.now
    (λ at resting is. c.in-Ok.ensures at tt is) in
    costs_change c.args.a c.args.b c.args.cost c.args.network.now c.set_cost.new.self c.args.lines.now priced c.len-nodes.result
    (c.len-nodes.ensures
    ∙ ap (λ (s : Scenario). length s.nodes) (c.scenario.ensures
    ∙ priced_scenario c.args.a c.args.b c.args.cost c.args.network.now c.set_cost.new.self c.args.lines.now priced c.requires.network))
    c.reroute_all.new.network c.reroute_all.new.lines c.reroute_all.result c.reroute_all.ensures
