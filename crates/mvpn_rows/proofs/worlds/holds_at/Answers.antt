use Rattle.std.proofs.Common.{◌∙◌, ap}
use Rattle.scenario_defs.specs.declared.scenario.Scenario.{Scenario}
use Rattle.mvpn_rows.proofs.NodeLemmas.{kind_at, within_at}
use Rattle.mvpn_rows.proofs.worlds.holds_at.Goals as goal

pub core_node-requires-clause-within : goal.core_node-requires-clause-within
core_node-requires-clause-within c =
    within_at c.args.world.now.network.scenario c.as_slice.result.now (c.as_slice.ensures ∙ ap (λ (s : Scenario). s.nodes) c.scenario.ensures)
    c.from.result c.args.node c.from.ensures c.in-Some.found c.in-Some.ensures.lookup

pub core_node-requires-clause-core : goal.core_node-requires-clause-core
core_node-requires-clause-core c =
    kind_at c.args.world.now.network.scenario c.as_slice.result.now (c.as_slice.ensures ∙ ap (λ (s : Scenario). s.nodes) c.scenario.ensures)
    c.from.result c.args.node c.from.ensures c.in-Some.found c.in-Some.ensures.lookup ∙ c.if-found.false
