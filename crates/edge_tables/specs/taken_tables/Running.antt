-- The delays of selective routes, by the VRFs of the edge and the addresses of the nodes.
use Rattle.std.specs.Prelude.{◌≡◌, ℕ, ◌+◌, ◌≤◌, ◌&&◌, ◌||◌, Bool, true, false, not, min, nat_le, List, Option, map, is_some, slice_get, None, Some}
use Rattle.std.specs.List.{list_any}
use Rattle.std.specs.FinMap as maps
use Rattle.mv_base.specs.declared.addr.Addr.{Addr}
use Rattle.mv_base.specs.declared.ids.NodeId.{NodeId}
use Rattle.bgp_values.specs.declared.mvpn_nlri.route.Route.TheVariants.{Selective}
use Rattle.bgp_messages.specs.declared.bgp_attributes.key.Key.{Key}
use Rattle.bgp_messages.specs.declared.bgp_attributes.key.Key.TheVariants.{Mcast}
use Rattle.scenario_defs.specs.declared.scenario.Node.{Node}
use Rattle.edge_defs.specs.Edge.{Taken, TakenRoute}
use Rattle.edge_defs.specs.Imported.{imported_selective}
use Rattle.edge_defs.specs.Place.{EdgePlace, own_vrfs}
use Rattle.edge_routes.specs.Local.{Local}
use Rattle.edge_tables.specs.taken_tables.Tables.{Tables}

-- whether one of the VRFs imports the selective route from the peer of that address
abbrev pub imports : List Local → Addr → Key × TakenRoute → Bool
imports vrfs peer entry = list_any (λ own. is_some (imported_selective own.vrf peer entry)) vrfs

-- the route once its delay is run, where one of the VRFs imports it and the delay is over
abbrev pub run_at : List Local → ℕ → ℕ → Addr → Key → TakenRoute → TakenRoute
run_at vrfs delay now peer key route =
    record route { run = route.run || (imports vrfs peer (key, route) && nat_le (route.since + delay) now) }

abbrev pub table_run : List Local → ℕ → ℕ → Addr → Taken → Taken
table_run vrfs delay now peer taken =
    maps.from_entries (map (λ (entry : Key × TakenRoute). (entry.0, run_at vrfs delay now peer entry.0 entry.1)) (maps.entries taken))

-- the same of the table of a node
abbrev pub node_run : List Local → List Node → ℕ → ℕ → NodeId → Taken → Taken
node_run vrfs nodes delay now peer taken =
    elim (slice_get nodes peer.0) [ None ↦ taken | Some node ↦ table_run vrfs delay now node.addr taken ]

-- whether a route of the key may have a delay: an S-PMSI A-D route alone
abbrev pub is_delayed : Key → Bool
is_delayed (Mcast afi (Selective rd source group originator)) = true
is_delayed other = false

-- whether the delay of the route may still be run
abbrev pub awaits : Key → TakenRoute → Bool
awaits key route = is_delayed key && not route.run

-- the earliest of some clocks, and this one where it counts
abbrev pub earlier : Bool → Option ℕ → ℕ → Option ℕ
earlier false earliest clock = earliest
earlier true None clock = Some clock
earlier true (Some first) clock = Some (min first clock)

-- the earliest clock at which a route was learned whose delay may still be run, with one more route
abbrev pub earliest_with : Option ℕ → Key × TakenRoute → Option ℕ
earliest_with earliest entry = earlier (awaits entry.0 entry.1) earliest entry.1.since

-- whether the delay may be over of a route that was learned then or later
abbrev pub is_any_over : Option ℕ → ℕ → ℕ → Bool
is_any_over None delay now = false
is_any_over (Some since) delay now = nat_le (since + delay) now

-- the clock is none before the earliest one
abbrev pub IsFrom : Option ℕ → ℕ → Type 0
IsFrom None clock = ⊥
IsFrom (Some first) clock = first ≤ clock

-- No route whose delay may still be run was learned before the clock that is noted.
abbrev pub IsNoted : Option ℕ → Taken → Type 0
IsNoted earliest taken =
    (key : Key) (route : TakenRoute) → maps.get taken key ≡ Some route → awaits key route ≡ true → IsFrom earliest route.since

-- These are the VRFs of the edge, the nodes of its network and its delay; and each peer is one of the nodes.
pub record IsOf (place : EdgePlace) (vrfs : List Local) (nodes : List Node) (delay : ℕ) (tables : Tables) : Type 0 where
  pub own : map (λ (own : Local). own.vrf) vrfs ≡ map (λ own. own.vrf) (own_vrfs place)
  pub network : nodes ≡ place.scenario.nodes
  pub wait : delay ≡ place.scenario.delay
  pub peers : (peer : NodeId) → maps.contains_key tables peer ≡ true → is_some (slice_get nodes peer.0) ≡ true
