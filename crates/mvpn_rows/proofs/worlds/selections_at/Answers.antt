use Rattle.std.proofs.Common.{◌∙◌, ap}
use Rattle.scenario_defs.specs.declared.scenario.Scenario.{Scenario}
use Rattle.mvpn_rows.proofs.NodeLemmas.{kind_at}
use Rattle.mvpn_rows.proofs.worlds.selections_at.Goals as goal

pub edge-requires : goal.edge-requires
edge-requires c = record {
  edge =
      kind_at c.args.world.now.network.scenario c.as_slice.result.now (c.as_slice.ensures ∙ ap (λ (s : Scenario). s.nodes) c.scenario.ensures)
      c.from.result c.args.node c.from.ensures c.in-Some.found c.in-Some.ensures.lookup
      ∙ c.if-found.true;
}
