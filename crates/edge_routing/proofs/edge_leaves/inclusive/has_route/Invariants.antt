use Rattle.std.proofs.Common.{◌≡◌, Bool}
use Rattle.std.specs.List.{list_any}
use Rattle.bgp_messages.specs.declared.bgp_attributes.key.Key.{Key}
use Rattle.edge_defs.specs.Datagrams.{is_tunnel}
use Rattle.edge_defs.specs.Edge.{TakenRoute}
use Rattle.edge_defs.specs.Imported.{imported_inclusive}
use Rattle.edge_routes.specs.edge_home.Home.{as_own}
use Rattle.edge_routes.specs.declared.edge_home.own_vrf.OwnVrf.{OwnVrf}
use Rattle.edge_routing.proofs.edge_leaves.inclusive.has_route.Given as goal

abbrev pub invariant-loop-key : goal.invariant-loop-key
invariant-loop-key l =
    let test : Key × TakenRoute → Bool = λ entry.
    list_any (λ (own : OwnVrf). is_tunnel l.fec (imported_inclusive (as_own own).vrf l.addr entry)) l.vrfs in
    list_any test l.key-iterator ≡ list_any test l.initial.key-iterator
