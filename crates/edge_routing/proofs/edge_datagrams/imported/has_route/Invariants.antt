use Rattle.std.proofs.Common.{◌≡◌}
use Rattle.std.specs.List.{list_any}
use Rattle.mv_base.specs.declared.ids.NodeId.{NodeId}
use Rattle.edge_defs.specs.Datagrams.{is_route_of}
use Rattle.edge_defs.specs.Place.{EdgePlace, addr_of}
use Rattle.edge_routes.specs.edge_home.Home.{as_own}
use Rattle.edge_routing.proofs.edge_datagrams.imported.has_route.Given as goal

abbrev pub invariant-loop-key : goal.invariant-loop-key
invariant-loop-key l = (place : EdgePlace) (peer : NodeId) → addr_of place.scenario peer ≡ l.addr
    → list_any (is_route_of place (as_own l.own) peer l.fec) l.key-iterator
    ≡ list_any (is_route_of place (as_own l.own) peer l.fec) l.initial.key-iterator
