use Rattle.std.proofs.Common.{ap, ◌∙◌}
use Rattle.std.specs.List.{list_any}
use Rattle.edge_defs.specs.Imported.{is_admitted}
use Rattle.edge_defs.specs.Keys.{Value}
use Rattle.edge_routes.specs.edge_home.Home.{as_own}
use Rattle.edge_routes.specs.declared.edge_home.own_vrf.OwnVrf.{OwnVrf}
use Rattle.edge_routing.proofs.edge_leaves.InclusiveLemmas.{none_of, some_of}
use Rattle.edge_routing.proofs.edge_leaves.inclusive.is_route_of.Goals as goal

pub returns-then-not-is_of_tunnel : goal.returns-then-not-is_of_tunnel
returns-then-not-is_of_tunnel c =
    none_of c.args.fec.now c.args.addr c.args.key.now c.args.entry.now c.args.vrfs.now c.is_of_tunnel.result c.is_of_tunnel.ensures
    c.if-not-is_of_tunnel.true

pub returns : goal.returns
returns c =
    c.any_admits.ensures
    ∙ ap (λ (value : Value). list_any (λ (own : OwnVrf). is_admitted (as_own own).vrf value.comms) c.args.vrfs.now) c.value.ensures
    ∙ some_of c.args.fec.now c.args.addr c.args.key.now c.args.entry.now c.args.vrfs.now c.is_of_tunnel.result c.is_of_tunnel.ensures
    c.if-not-is_of_tunnel.false
