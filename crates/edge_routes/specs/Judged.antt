-- What is read of routes that were taken, in the words of an edge.
use Rattle.std.specs.Prelude.{Option}
use Rattle.mv_base.specs.Number.{◌>>?◌}
use Rattle.mv_base.specs.declared.addr.Addr.{Addr}
use Rattle.bgp_values.specs.mldp.declared.mldp_fec.fec.Fec.{Fec}
use Rattle.edge_defs.specs.bgp_messages.declared.bgp_attributes.key.Key.{Key}
use Rattle.edge_defs.specs.Imported as edges
use Rattle.edge_defs.specs.Imported.{inclusive_of, tunnel_by}
use Rattle.edge_defs.specs.Keys.{Value}
use Rattle.edge_routes.specs.declared.imported.FlowRoute.{FlowRoute}
use Rattle.edge_routes.specs.declared.imported.ImportedSelective.{ImportedSelective}
use Rattle.edge_routes.specs.declared.imported.JoinBy.{JoinBy}
use Rattle.edge_routes.specs.declared.imported.SelectiveRoute.{SelectiveRoute}
use Rattle.edge_routes.specs.declared.imported.TakenValue.{TakenValue}
use Rattle.edge_routes.specs.Local.{as_import}
use Rattle.edge_routes.specs.route_order.Values.{as_value}

-- the value that was taken
abbrev pub value_of : TakenValue → Value
value_of taken = as_value taken.next_hop taken.comms.now taken.pmsi.now

abbrev pub as_join : JoinBy → edges.JoinBy
as_join by = record { import = as_import by.import; source_as = by.source_as }

abbrev pub as_route : SelectiveRoute → edges.SelectiveRoute
as_route route = record { rd = route.rd; source = route.pattern.source; group = route.pattern.group; originator = route.originator }

abbrev pub as_selective : ImportedSelective → edges.ImportedSelective
as_selective imported = record { route = as_route imported.route; fec = imported.fec }

abbrev pub as_flow : FlowRoute → edges.FlowRoute
as_flow flow = record { source = flow.source; group = flow.group }

-- the tunnel of an inclusive route from the peer, for each VRF that imports it
abbrev pub inclusive_tunnel : Addr → Key → Value → Option Fec
inclusive_tunnel peer key value = inclusive_of key >>? λ originator. tunnel_by peer originator value
