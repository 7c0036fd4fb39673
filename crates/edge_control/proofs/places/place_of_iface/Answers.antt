use Rattle.std.proofs.Common.{position, sym, ap, ◌∙◌}
use Rattle.scenario_defs.specs.declared.scenario.Scenario.{Scenario}
use Rattle.edge_defs.specs.Originated.{is_iface_of}
use Rattle.edge_control.proofs.PlaceLemmas.{none_placed, placed}
use Rattle.edge_control.proofs.places.place_of_iface.Goals as goal

pub unreachable-requires : goal.unreachable-requires
unreachable-requires c =
    none_placed c.args.home.now c.vrfs.result.now c.vrfs.ensures.vrfs (λ own. is_iface_of c.args.home.now.scenario own.id c.args.iface)
    (sym (ap (λ (s : Scenario). position (λ own. is_iface_of s own.id c.args.iface) c.vrfs.result.now) c.scenario.ensures.scenario)
    ∙ sym c.position_of_iface.ensures ∙ c.in-None.is)
    c.requires

pub returns : goal.returns
returns c =
    placed c.args.home.now c.vrfs.result.now c.vrfs.ensures.vrfs (λ own. is_iface_of c.args.home.now.scenario own.id c.args.iface) c.in-Some.place
    (sym (ap (λ (s : Scenario). position (λ own. is_iface_of s own.id c.args.iface) c.vrfs.result.now) c.scenario.ensures.scenario)
    ∙ sym c.position_of_iface.ensures ∙ c.in-Some.is)
