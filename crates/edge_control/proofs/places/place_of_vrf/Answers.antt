use Rattle.std.proofs.Common.{◌==◌, sym, ◌∙◌}
use Rattle.edge_control.proofs.PlaceLemmas.{none_placed, placed}
use Rattle.edge_control.proofs.places.place_of_vrf.Goals as goal

pub unreachable-requires : goal.unreachable-requires
unreachable-requires c =
    none_placed c.args.home.now c.vrfs.result.now c.vrfs.ensures.vrfs (λ own. own.id.0 == c.args.vrf.0) (sym c.position_of_vrf.ensures ∙ c.in-None.is)
    c.requires

pub returns : goal.returns
returns c =
    placed c.args.home.now c.vrfs.result.now c.vrfs.ensures.vrfs (λ own. own.id.0 == c.args.vrf.0) c.in-Some.place
    (sym c.position_of_vrf.ensures ∙ c.in-Some.is)
