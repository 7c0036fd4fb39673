-- What an edge is to hold towards each peer before anything happens (RFC 6514 section 9.1.1; RFC 4364 section 4.3).
use Rattle.std.specs.Prelude.{◌≡◌, List, [], ◌∷◌, ◌++◌, map, None, Some}
use Rattle.std.specs.List.{flat_map}
use Rattle.std.specs.FinMap.{empty, get}
use Rattle.mv_base.specs.declared.ids.NodeId.{NodeId}
use Rattle.mv_base.specs.declared.rd.Rd.{Rd}
use Rattle.bgp_messages.specs.declared.bgp_attributes.key.Key.{Key}
use Rattle.bgp_messages.specs.declared.bgp_attributes.key.Key.TheVariants.{Unicast}
use Rattle.mv_base.specs.core_walks.Core.{Core}
use Rattle.scenario_defs.specs.declared.scenario.Route.{Route}
use Rattle.edge_defs.specs.Keys.{Value}
use Rattle.edge_defs.specs.Originated.{inclusive_route, unicast_routes}
use Rattle.edge_defs.specs.Place.{EdgePlace, OwnVrf, own_vrfs}
use Rattle.edge_routes.specs.edge_home.Home.{Home, place_of}
use Rattle.edge_tables.specs.Tables.{PeerTable, Tables, with_route}

-- ---- routes

-- the inclusive route of a VRF, alone
abbrev pub inclusive_routes : EdgePlace → OwnVrf → List (Key × Value)
inclusive_routes place own = inclusive_route place own ∷ []

-- the inclusive route of a VRF, and a unicast route for each prefix of each site that is attached at it
abbrev pub start_routes : EdgePlace → OwnVrf → List (Key × Value)
start_routes place own = inclusive_routes place own ++ unicast_routes place own

-- those of all VRFs of the edge, in order
abbrev pub all_start_routes : EdgePlace → List (Key × Value)
all_start_routes place = flat_map (start_routes place) (own_vrfs place)

-- unicast routes of one value
abbrev pub prefix_routes : Rd → Value → List Route → List (Key × Value)
prefix_routes rd value routes = map (λ route. (Unicast rd route.prefix, value)) routes

-- ---- tables

-- no peer is to have a route
abbrev pub AreEmpty : Tables → Type 0
AreEmpty tables = (peer : NodeId) (table : PeerTable) → get tables peer ≡ Some table → table.set ≡ empty

-- the peer is to have these routes besides; of several of one key the last one counts
abbrev pub with_routes : List (Key × Value) → PeerTable → PeerTable
with_routes [] table = table
with_routes (route ∷ more) table = with_routes more (with_route route.0 route.1 table)

-- the peer is to have some first ones of the routes besides
pub record HasFront (routes : List (Key × Value)) (old new : PeerTable) : Type 0 where
  pub done : List (Key × Value)
  pub left : List (Key × Value)
  pub all : routes ≡ done ++ left
  pub is : new ≡ with_routes done old

-- ---- places

-- a core of which nothing is asked
abbrev no_core : Core
no_core = record { cost = λ from to. 0; toward = λ from to. None }

-- the place of the edge, for what does not look at the core
abbrev pub home_place : Home → EdgePlace
home_place home = place_of home no_core
