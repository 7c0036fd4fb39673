use Rattle.std.proofs.Common.{ap, ◌∙◌}
use Rattle.std.specs.List.{list_any}
use Rattle.scenario_defs.specs.declared.scenario.Scenario.{Scenario}
use Rattle.edge_defs.specs.Originated.{is_iface_of}
use Rattle.edge_routes.specs.declared.edge_home.own_vrf.OwnVrf.{OwnVrf}
use Rattle.session_rows.proofs.RoleLemmas.{any_own}
use Rattle.session_rows.proofs.two_edges.has_iface.Goals as goal

pub returns : goal.returns
returns c =
    c.is_iface_of_any.ensures
    ∙ ap (λ (scenario : Scenario). list_any (λ (own : OwnVrf). is_iface_of scenario own.id c.args.iface) c.vrfs.result.now)
    c.scenario.ensures.scenario
    ∙ any_own c.args.home.now c.vrfs.result.now (λ own. is_iface_of c.args.home.now.scenario own.id c.args.iface) c.vrfs.ensures.vrfs
