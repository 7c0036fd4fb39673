-- Keys that are kept by the numbers by which they are compared first.
use Rattle.std.specs.Prelude.{ℕ, ◌==◌, Bool, false, List, ◌++◌, slice_index, replicate, Option, None, Some, Result, Ok, Err, if◌then◌else◌}
use Rattle.std.specs.Int.{to_be_bytes, w64}
use Rattle.bgp_values.specs.declared.mvpn_nlri.fault.RouteFault.{RouteFault}
use Rattle.bgp_values.specs.declared.mvpn_nlri.route.Afi.{Afi}
use Rattle.bgp_values.specs.declared.mvpn_nlri.route.Afi.TheVariants.{Ipv4, Ipv6}
use Rattle.bgp_values.specs.declared.mvpn_nlri.route.Route.{Route}
use Rattle.bgp_values.specs.declared.mvpn_nlri.route.Route.TheVariants.{Inter}
use Rattle.bgp_values.specs.mvpn_nlri.Reading.{route_at}
use Rattle.bgp_values.specs.mvpn_nlri.Spelling.{kind}
use Rattle.edge_defs.specs.bgp_messages.declared.bgp_attributes.key.Key.{Key}
use Rattle.edge_defs.specs.bgp_messages.declared.bgp_attributes.key.Key.TheVariants.{Mcast, Unicast}
use Rattle.edge_routes.specs.declared.route_order.route_type.RouteType.{RouteType}
use Rattle.edge_routes.specs.declared.route_order.route_type.RouteType.TheVariants as types

-- the octets that the numbers of a multicast key spell
abbrev pub octets_by : List ℕ → List ℕ
octets_by front =
    to_be_bytes w64 (slice_index front 1) ++ (to_be_bytes w64 (slice_index front 2) ++ to_be_bytes w64 (slice_index front 3))

abbrev pub afi_by : List ℕ → Afi
afi_by front = if slice_index front 0 == 3 then Ipv4 else Ipv6

-- the route that is read, and some route where none is
abbrev pub read_route : Result (Route × ℕ) RouteFault → Route
read_route (Ok read) = read.0
read_route (Err fault) = Inter (record { 0 = replicate 8 0 }) 0

-- the multicast key of which these are the numbers, where they spell all of it
abbrev pub key_by : List ℕ → Key
key_by front = Mcast (afi_by front) (read_route (route_at (afi_by front) (octets_by front)))

-- the key that is kept: the one beside the numbers, or else the one that they spell
abbrev pub kept_key : List ℕ → Option Key → Key
kept_key front None = key_by front
kept_key front (Some key) = key

-- the type as the first octet of a route (RFC 6514 section 4)
abbrev pub code_of : RouteType → ℕ
code_of types.Intra = 1
code_of types.Inter = 2
code_of types.Selective = 3
code_of types.Leaf = 4
code_of types.Active = 5
code_of types.SharedJoin = 6
code_of types.SourceJoin = 7

-- whether the key is that of a route of this type
abbrev pub is_of_type : RouteType → Key → Bool
is_of_type own (Unicast rd prefix) = false
is_of_type own (Mcast afi route) = kind route == code_of own
