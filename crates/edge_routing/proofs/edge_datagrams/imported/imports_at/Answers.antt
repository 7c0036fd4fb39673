use Rattle.std.proofs.Common.{sym, ap, ◌∙◌}
use Rattle.edge_defs.specs.Datagrams.{is_route_of}
use Rattle.edge_defs.specs.Place.{addr_of}
use Rattle.edge_routes.specs.edge_home.Home.{Home, as_own, place_of}
use Rattle.edge_routing.proofs.edge_datagrams.ImportLemmas.{any_passes, none_passes}
use Rattle.edge_routing.proofs.edge_datagrams.imported.imports_at.Goals as goal

pub returns-in-None : goal.returns-in-None
returns-in-None c = λ core.
    none_passes c.args.control.now c.taken.result.now c.taken.ensures c.args.edge
    (is_route_of (place_of c.args.control.now.home core) (as_own c.args.own.now) c.args.edge c.args.fec.now) c.in-None.ensures.entries

pub returns-in-Some : goal.returns-in-Some
returns-in-Some c = λ core.
    c.has_route.ensures (place_of c.args.control.now.home core) c.args.edge
    (sym (c.addr_of.ensures ∙ ap (λ (home : Home). addr_of home.scenario c.args.edge) c.home.ensures.home))
    ∙ any_passes c.args.control.now c.taken.result.now c.taken.ensures c.args.edge
    (is_route_of (place_of c.args.control.now.home core) (as_own c.args.own.now) c.args.edge c.args.fec.now) c.in-Some.entries
    c.in-Some.ensures.entries
