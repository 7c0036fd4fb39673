-- What an edge lists: the routes that a VRF takes from the edge's peers.
use Rattle.std.specs.Prelude.{List, map}
use Rattle.std.specs.List.{filter, flat_map}
use Rattle.std.specs.FinMap as maps
use Rattle.scenario_defs.specs.declared.scenario.Vrf.{Vrf}
use Rattle.bgp_messages.specs.declared.bgp_attributes.key.Key.{Key}
use Rattle.edge_defs.specs.Edge.{Control, TakenRoute}
use Rattle.edge_defs.specs.Imported.{is_admitted, taken_from}
use Rattle.edge_routes.specs.edge_home.Home.{Home, peers_of}

-- The keys of those of the routes that have a Route Target of the VRF (RFC 4364 section 4.3.1), whether the VRF uses them or not.
abbrev pub admitted_keys : Vrf → List (Key × TakenRoute) → List Key
admitted_keys vrf routes = map (λ route. route.0) (filter (λ (route : Key × TakenRoute). is_admitted vrf route.1.value.comms) routes)

-- Those of the routes that were taken from each peer, peer after peer, in the order of keys.
abbrev pub admitted_from : Home → Control → Vrf → List Key
admitted_from home control vrf = flat_map (λ peer. admitted_keys vrf (maps.entries (taken_from control peer))) (peers_of home)
