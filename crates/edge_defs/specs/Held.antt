-- The table that an edge holds towards each peer, and what it puts (RFC 4271 sections 3.1 and 9.1.3; RFC 6514 section 11.1.3).
use Rattle.std.specs.Prelude.{◌==◌, ◌++◌, List, [], ◌∷◌, is_some, Option, None, Some, if◌then◌else◌}
use Rattle.std.specs.FinMap as maps
use Rattle.mv_base.specs.declared.ids.NodeId.{NodeId}
use Rattle.bgp_messages.specs.bgp_values.declared.mvpn_nlri.route.Route.TheVariants as routes
use Rattle.bgp_messages.specs.declared.bgp_attributes.key.Key.{Key}
use Rattle.bgp_messages.specs.declared.bgp_attributes.key.Key.TheVariants.{Mcast}
use Rattle.mv_base.specs.declared.table_defs.change.Change.{Change}
use Rattle.mv_base.specs.table_defs.Changes.{changes}
use Rattle.edge_defs.specs.Edge.{VrfFlow, Upstream, Remote, Control}
use Rattle.edge_defs.specs.Imported.{found_in}
use Rattle.edge_defs.specs.Keys.{Value, Table, same_value}
use Rattle.bgp_messages.specs.bgp_update.Written.{afi_of}
use Rattle.edge_defs.specs.Originated.{import_target, originated}
use Rattle.edge_defs.specs.Place.{EdgePlace, own_addr}

-- The Source Tree Join of a flow whose upstream is that peer: it has RD and Source AS of the chosen route, and the Route Target made
-- of its VRF Route Import.
abbrev pub join_route : EdgePlace → NodeId → VrfFlow × Option Upstream → Option (Key × Value)
join_route place peer (flow, Some (Remote edge rd import source_as)) =
    if edge.0 == peer.0
    then Some (
      Mcast (afi_of flow.source) (routes.SourceJoin rd source_as flow.source flow.group),
      record { next_hop = own_addr place; comms = import_target import ∷ []; pmsi = None },
    )
    else None
join_route place peer (flow, other) = None

-- Those of all flows, in order of VRFs.
abbrev pub join_routes : EdgePlace → Control → NodeId → List (Key × Value)
join_routes place control peer = found_in (join_route place peer) (maps.entries control.flows)

-- The table that the edge holds for a peer: the routes that it originates, and the joins at that peer. Of several routes of one key
-- the first one stands.
abbrev pub held_for : EdgePlace → Control → NodeId → Table
held_for place control peer = maps.from_entries (originated place control ++ join_routes place control peer)

-- what of it was put while the session's end is up, and nothing while it is down
abbrev pub told : EdgePlace → Control → NodeId → Table
told place control peer = if is_some (maps.get control.peers peer) then held_for place control peer else maps.empty

-- The changes that a step puts to a peer: from what was told before it to what is told after it. At a raise that is the whole table,
-- and to an end that is down nothing is put.
abbrev pub put_to : EdgePlace → Control → Control → NodeId → List (Change Key Value)
put_to place old new peer = if is_some (maps.get new.peers peer) then changes same_value (told place old peer) (told place new peer) else []
