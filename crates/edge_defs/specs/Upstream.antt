-- The upstream that a VRF chooses for a source and group (RFC 6513 section 5.1).
use Rattle.std.specs.Prelude.{ℕ, List, ◌++◌, map, Option, None, Some}
use Rattle.std.specs.List.{flat_map}
use Rattle.std.specs.FinMap as maps
use Rattle.mv_base.specs.Number.{◌>>?◌, only_if}
use Rattle.mv_base.specs.declared.addr.Addr.{Addr}
use Rattle.mv_base.specs.declared.ids.NodeId.{NodeId}
use Rattle.bgp_messages.specs.declared.bgp_attributes.key.Key.{Key}
use Rattle.bgp_messages.specs.declared.bgp_attributes.key.Key.TheVariants.{Unicast}
use Rattle.choice_defs.specs.scenario_defs.Home.{local_routes}
use Rattle.choice_defs.specs.scenario_defs.declared.scenario.Vrf.{Vrf}
use Rattle.choice_defs.specs.Choice.{cost_by, best_route, of_site}
use Rattle.choice_defs.specs.declared.known_route.KnownRoute.{KnownRoute}
use Rattle.choice_defs.specs.declared.origin.Origin.TheVariants as origins
use Rattle.edge_defs.specs.Edge.{Upstream, Site, Remote, TakenRoute, Taken, Control}
use Rattle.edge_defs.specs.Imported.{join_by, found_in, is_admitted, taken_from}
use Rattle.edge_defs.specs.Place.{EdgePlace, OwnVrf, addr_of}

-- a unicast route that the VRF imports from a peer, as one that it knows
abbrev pub known_route : EdgePlace → Vrf → NodeId → Key × TakenRoute → Option KnownRoute
known_route place vrf peer (Unicast rd prefix, taken) =
    only_if (is_admitted vrf taken.value.comms) taken.value >>? λ value.
    join_by (addr_of place.scenario peer) value >>? λ by.
    Some (record { prefix = prefix; origin = origins.Remote peer (addr_of place.scenario peer) rd })
known_route place vrf peer other = None

-- those of one peer
abbrev pub known_from : EdgePlace → Vrf → NodeId × Taken → List KnownRoute
known_from place vrf peer = found_in (known_route place vrf peer.0) (maps.entries peer.1)

-- The unicast routes that a VRF knows: its local ones, and those that it imports from the peers.
abbrev pub known_routes : EdgePlace → Control → OwnVrf → List KnownRoute
known_routes place control own =
    map of_site (local_routes place.scenario own.id) ++ flat_map (known_from place own.vrf) (maps.entries control.peers)

-- what the chosen route says, with what its value says for a Source Tree Join
abbrev pub upstream_by : EdgePlace → Control → KnownRoute → Option Upstream
upstream_by place control route = elim route.origin [
  | origins.Local site ↦ Some (Site site)
  | origins.Remote edge address rd ↦
      maps.get (taken_from control edge) (Unicast rd route.prefix) >>? λ taken.
      join_by address taken.value >>? λ by.
      Some (Remote edge rd by.import by.source_as)
]

-- what a VRF with those routes compares before addresses, by its rule and the core that the edge knows
abbrev pub costs_of : EdgePlace → OwnVrf → List KnownRoute → Addr → Addr → NodeId → ℕ
costs_of place own routes source group = cost_by own.vrf.rule (place.core.cost place.me) routes source group

-- The upstream of the VRF for a source and group, over all routes that it knows; none where none of them covers the source.
abbrev pub upstream_for : EdgePlace → Control → OwnVrf → Addr → Addr → Option Upstream
upstream_for place control own source group =
    let routes = known_routes place control own in
    best_route (costs_of place own routes source group) routes source >>? upstream_by place control
