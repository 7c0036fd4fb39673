-- Values of routes as they are handed in.
use Rattle.std.specs.Prelude.{List}
use Rattle.mv_base.specs.declared.route_targets.communities.ExtComm.{ExtComm}
use Rattle.edge_defs.specs.Keys.{Value}
use Rattle.edge_routes.specs.route_order.Values.{as_value}
use Rattle.edge_tables.specs.declared.taken_tables.entry.RouteValue.{RouteValue}
use Rattle.edge_tables.specs.declared.taken_tables.kept_comms.KeptComms.{KeptComms}
use Rattle.edge_tables.specs.declared.taken_tables.kept_comms.KeptComms.TheVariants as comms

-- the extended communities that are kept so
abbrev pub comms_of : KeptComms → List ExtComm
comms_of (comms.One own) = own
comms_of (comms.Two own) = own
comms_of (comms.Any own) = own

abbrev pub handed : RouteValue → Value
handed value = as_value value.next_hop (comms_of value.comms) value.pmsi
