use Rattle.std.proofs.Common.{◌∙◌, sym, ap, length, map}
use Rattle.scenario_defs.specs.declared.scenario.Scenario.{Scenario}
use Rattle.network_defs.specs.Acts as acts
use Rattle.network_defs.specs.Counts.{directions, node_ids}
use Rattle.network_defs.specs.Events.{row}
use Rattle.network_events.proofs.KeptLemmas.{row_even, same_scenario, still_some}
use Rattle.network_events.proofs.SettleLemmas.{rounds_follow}
use Rattle.network_events.proofs.settling.settle_nodes.Goals as goal

pub run_rounds-requires-clause-network : goal.run_rounds-requires-clause-network
run_rounds-requires-clause-network c =
    let all = map (λ n. acts.Timers n) (node_ids 0 c.len-nodes.result) in
    still_some (row all) (row_even all) c.args.network.now c.run_timers.new.network c.args.lines.now c.run_timers.new.lines
    c.in_default-run_timers.ensures c.requires.network

pub run_rounds-requires-clause-ways : goal.run_rounds-requires-clause-ways
run_rounds-requires-clause-ways c =
    let all = map (λ n. acts.Timers n) (node_ids 0 c.len-nodes.result) in
    c.as_slice.ensures ∙ (c.in-Ok.ensures ∙ (ap directions c.scenario-2.ensures
    ∙ ap directions (sym (same_scenario (row all) (row_even all) c.args.network.now c.run_timers.new.network c.args.lines.now c.run_timers.new.lines
    c.in_default-run_timers.ensures c.requires.network))))

pub returns : goal.returns
returns c =
    rounds_follow c.args.network.now c.len-nodes.result c.as_slice.result.now
    (c.len-nodes.ensures ∙ ap (λ (s : Scenario). length s.nodes) c.scenario.ensures)
    (c.as_slice.ensures ∙ (c.in-Ok.ensures ∙ ap directions c.scenario-2.ensures)) c.run_timers.new.network c.args.lines.now c.run_timers.new.lines
    c.in_default-run_timers.ensures
    c.run_rounds.new.network c.run_rounds.new.lines c.run_rounds.result c.run_rounds.ensures
