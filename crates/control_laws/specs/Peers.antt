-- What the tree of a VRF takes of a route of a peer that changed (RFC 4271 section 9; RFC 6513 section 5.1; RFC 6514 sections 11.3, 12.3
-- and 14.2).
use Rattle.std.specs.Prelude.{◌≡◌, ℕ, Bool, true, false, List, [], ◌∷◌, map, Option, None, Some, fold, is_some, if◌then◌else◌}
use Rattle.std.specs.List.{flat_map}
use Rattle.std.specs.FinMap as maps
use Rattle.std.specs.FinMap.{FinMap}
use Rattle.std.specs.FinSet as sets
use Rattle.std.specs.FinSet.{FinSet}
use Rattle.mv_base.specs.Number.{◌>>?◌}
use Rattle.mv_base.specs.declared.addr.Addr.{Addr}
use Rattle.mv_base.specs.declared.ids.NodeId.{NodeId}
use Rattle.mv_base.specs.declared.pattern.Pattern.{Pattern}
use Rattle.mv_base.specs.declared.rd.Rd.{Rd}
use Rattle.bgp_values.specs.declared.mvpn_nlri.route.Route.TheVariants as routes
use Rattle.bgp_messages.specs.declared.bgp_attributes.key.Key.{Key}
use Rattle.bgp_messages.specs.declared.bgp_attributes.key.Key.TheVariants.{Mcast, Unicast}
use Rattle.bgp_messages.specs.declared.bgp_attributes.update.Change.{Change}
use Rattle.bgp_messages.specs.declared.bgp_attributes.update.Change.TheVariants as updates
use Rattle.bgp_messages.specs.bgp_update.Written.{IsWritableKey}
use Rattle.mldp.specs.declared.mldp_fec.fec.Fec.{Fec}
use Rattle.selective.specs.Leaves as leaves
use Rattle.selective.specs.Leaves.{learned_now}
use Rattle.umh_select.specs.Order as unicast_order
use Rattle.umh_select.specs.Routes.{key_from, without_peer}
use Rattle.umh_select.specs.declared.key.RouteKey.{RouteKey}
use Rattle.umh_select.specs.declared.route.Held.{Held}
use Rattle.vrf_words.specs.declared.tree_defs.flow.ActiveRoute.{ActiveRoute}
use Rattle.vrf_words.specs.declared.tree_defs.flow.TakenJoin.{TakenJoin}
use Rattle.vrf_words.specs.tree_defs.Keys.{active_cmp}
use Rattle.vrf_words.specs.tree_defs.Trees.{TreeData, join_cmp, wanted_by}
use Rattle.edge_defs.specs.Edge.{Control, Taken, TakenRoute}
use Rattle.edge_defs.specs.Imported.{FlowRoute, ImportedSelective, imported_active, imported_inclusive, imported_join}
use Rattle.edge_defs.specs.Imported.{imported_selective, taken_from}
use Rattle.edge_defs.specs.Keys.{same_value}
use Rattle.edge_defs.specs.Place.{EdgePlace, OwnVrf, addr_of}
use Rattle.edge_defs.specs.Steps.{learned, taken_change}
use Rattle.edge_defs.specs.Tunnels.{inclusive_tunnels}
use Rattle.mv_base.specs.core_walks.Core.{Core}
use Rattle.edge_routes.specs.edge_home.Home.{place_of}
use Rattle.vrf_words.specs.tree_laws.TreeOf.{IsTreeOf, held_from}
use Rattle.control_laws.specs.Control.{Kept, control_of, trees_of}

-- ---- routes of peers

-- Each key of a table that was taken has a spelling.
abbrev pub AreWritable : Control → Type 0
AreWritable control = (peer : NodeId) (key : Key) → is_some (maps.get (taken_from control peer) key) ≡ true → IsWritableKey key

-- the key of a change, and what is there after it where that was there before
abbrev pub key_of : Change → Key
key_of (updates.Reach advert) = advert.key
key_of (updates.Unreach key) = key

abbrev pub route_after : ℕ → Change → Option TakenRoute → Option TakenRoute
route_after now (updates.Reach advert) old =
    Some (learned now (record { next_hop = advert.next_hop; comms = advert.comms; pmsi = advert.pmsi }) old)
route_after now (updates.Unreach key) old = None

-- whether both say the same
abbrev pub same_route : Option TakenRoute → Option TakenRoute → Bool
same_route None None = true
same_route (Some own) (Some other) = same_value own.value other.value
same_route own other = false

-- ---- what a VRF takes of a route

abbrev pub told_unicast : EdgePlace → OwnVrf → NodeId → Option TakenRoute → Option Held
told_unicast place own peer route = route >>? λ taken. held_from place own.vrf peer taken.value

abbrev pub told_active : OwnVrf → Key → Option TakenRoute → Option FlowRoute
told_active own key route = route >>? λ taken. imported_active own.vrf (key, taken)

abbrev pub told_join : EdgePlace → OwnVrf → Key → Option TakenRoute → Option FlowRoute
told_join place own key route = route >>? λ taken. imported_join place own.vrf (key, taken)

abbrev pub told_selective : EdgePlace → OwnVrf → NodeId → Key → Option TakenRoute → Option ImportedSelective
told_selective place own peer key route = route >>? λ taken. imported_selective own.vrf (addr_of place.scenario peer) (key, taken)

-- ---- where the tree keeps it

abbrev pub active_of : NodeId → Rd → Addr → Addr → ActiveRoute
active_of peer rd source group = record { peer = peer; rd = rd.0; flow = record { source = source; group = group } }

abbrev pub join_of : NodeId → Addr → Addr → TakenJoin
join_of peer source group = record { peer = peer; flow = record { source = source; group = group } }

abbrev pub pattern_of : Option Addr → Option Addr → Pattern
pattern_of source group = record { source = source; group = group }

-- ---- a tree with other routes

abbrev pub with_learned : FinMap unicast_order.key_cmp Held → TreeData → TreeData
with_learned next tree = record tree { vrf = record tree.vrf { routes = record tree.vrf.routes { learned = next } } }

abbrev pub with_actives : FinSet active_cmp → TreeData → TreeData
with_actives next tree = record tree { vrf = record tree.vrf { actives = next } }

abbrev pub with_joined : FinSet join_cmp → TreeData → TreeData
with_joined next tree = record tree { joined = next }

abbrev pub with_selective : leaves.Routes → TreeData → TreeData
with_selective next tree = record tree { leaf = record tree.leaf { routes = next } }

-- ---- a route that changed

-- A unicast route is forgotten, and learned where the VRF imports and uses the new one.
abbrev pub learned_with : RouteKey → Option Held → FinMap unicast_order.key_cmp Held → FinMap unicast_order.key_cmp Held
learned_with key None routes = maps.remove routes key
learned_with key (Some held) routes = maps.insert (maps.remove routes key) key held

-- a Source Active route too
abbrev pub actives_with : ActiveRoute → Option FlowRoute → FinSet active_cmp → FinSet active_cmp
actives_with route None actives = sets.remove actives route
actives_with route (Some flow) actives = sets.insert (sets.remove actives route) route

-- A Source Tree Join is left where the VRF used the old one, and taken where it uses the new one. One of the same source and group that
-- another VRF uses is no part of this.
abbrev pub left_with : NodeId → Option FlowRoute → FinSet join_cmp → FinSet join_cmp
left_with peer None joined = joined
left_with peer (Some old) joined = sets.remove joined (join_of peer old.source old.group)

abbrev pub joined_with : NodeId → Option FlowRoute → FinSet join_cmp → FinSet join_cmp
joined_with peer None joined = joined
joined_with peer (Some new) joined = sets.insert joined (join_of peer new.source new.group)

-- A selective route is forgotten where the VRF imported the old one, and learned at the clock where it imports the new one. One of the same
-- route distinguisher and pattern with another originator is no part of this.
abbrev pub selective_without : NodeId → Option ImportedSelective → leaves.Routes → leaves.Routes
selective_without peer None routes = routes
selective_without peer (Some old) routes =
    maps.remove routes (leaves.key_of peer old.route.rd (pattern_of old.route.source old.route.group))

abbrev pub selective_with : NodeId → ℕ → Option ImportedSelective → leaves.Routes → leaves.Routes
selective_with peer now None routes = routes
selective_with peer now (Some new) routes =
    maps.insert routes (leaves.key_of peer new.route.rd (pattern_of new.route.source new.route.group)) (learned_now new.fec now)

-- What the tree of a VRF becomes where another route is at the key of the peer, or none, by the kind of the key.
abbrev pub tree_with : EdgePlace → OwnVrf → NodeId → ℕ → Key → Option TakenRoute → Option TakenRoute → TreeData → TreeData
tree_with place own peer now (Unicast rd prefix) old new tree =
    with_learned (learned_with (key_from peer rd prefix) (told_unicast place own peer new) tree.vrf.routes.learned) tree
tree_with place own peer now (Mcast afi (routes.Active rd source group)) old new tree =
    with_actives
    (actives_with (active_of peer rd source group) (told_active own (Mcast afi (routes.Active rd source group)) new) tree.vrf.actives)
    tree
tree_with place own peer now (Mcast afi (routes.SourceJoin rd source_as source group)) old new tree =
    let key = Mcast afi (routes.SourceJoin rd source_as source group) in
    with_joined (joined_with peer (told_join place own key new) (left_with peer (told_join place own key old) tree.joined)) tree
tree_with place own peer now (Mcast afi (routes.Selective rd source group originator)) old new tree =
    let key = Mcast afi (routes.Selective rd source group originator) in
    with_selective
    (selective_with peer now (told_selective place own peer key new)
    (selective_without peer (told_selective place own peer key old) tree.leaf.routes))
    tree
tree_with place own peer now key old new tree = tree

-- A route that says the same as before changes nothing.
abbrev pub tree_change : EdgePlace → OwnVrf → NodeId → ℕ → Key → Option TakenRoute → Option TakenRoute → TreeData → TreeData
tree_change place own peer now key old new tree =
    if same_route old new then tree else tree_with place own peer now key old new tree

-- What it becomes by a change of the table of the peer, and by changes one after another.
abbrev pub tree_taking : EdgePlace → OwnVrf → NodeId → ℕ → Taken → Change → TreeData → TreeData
tree_taking place own peer now taken change tree =
    tree_change place own peer now (key_of change) (maps.get taken (key_of change))
    (route_after now change (maps.get taken (key_of change))) tree

abbrev pub tree_updated : EdgePlace → OwnVrf → NodeId → ℕ → Taken → List Change → TreeData → TreeData
tree_updated place own peer now taken [] tree = tree
tree_updated place own peer now taken (change ∷ more) tree =
    tree_updated place own peer now (taken_change now taken change) more (tree_taking place own peer now taken change tree)

-- ---- a peer that is lost, or whose session comes up anew

-- the tree without a Source Active route of the peer, or without a Source Tree Join that the VRF uses
abbrev pub tree_without : EdgePlace → OwnVrf → NodeId → TreeData → Key × TakenRoute → TreeData
tree_without place own peer tree (Mcast afi (routes.Active rd source group), taken) =
    with_actives (sets.remove tree.vrf.actives (active_of peer rd source group)) tree
tree_without place own peer tree (key, taken) = with_joined (left_with peer (imported_join place own.vrf (key, taken)) tree.joined) tree

-- What a tree becomes where all that it took of the peer is forgotten: these of each route of the peer's table, and then its unicast and
-- its selective routes at once.
abbrev pub tree_lost : EdgePlace → OwnVrf → NodeId → Taken → TreeData → TreeData
tree_lost place own peer taken tree =
    let rest = fold (tree_without place own peer) tree (maps.entries taken) in
    with_learned (without_peer peer rest.vrf.routes.learned) (with_selective (leaves.without_peer peer rest.leaf.routes) rest)

-- ---- delays

-- the tree with the delays run of its selective routes, where they are due
abbrev pub tree_run : ℕ → TreeData → TreeData
tree_run now tree = with_selective (leaves.routes_run tree.leaf.delay now tree.leaf.routes) tree

-- ---- inclusive tunnels

abbrev pub told_inclusive : EdgePlace → OwnVrf → NodeId → Key → Option TakenRoute → Option Fec
told_inclusive place own peer key route = route >>? λ taken. imported_inclusive own.vrf (addr_of place.scenario peer) (key, taken)

-- the tunnels of the inclusive routes that the VRF imports from all peers
abbrev pub inclusive_of : EdgePlace → Control → OwnVrf → List Fec
inclusive_of place control own = flat_map (inclusive_tunnels place own) (maps.entries control.peers)

-- ---- between two refreshes

-- What a tree wants is what its last refresh left. So while routes change, it keeps all of its VRF but that: the tree as it is, with what
-- its flows want by the routes of now.
abbrev pub as_wanted : TreeData → TreeData
as_wanted tree = record tree { wants = sets.from_list (wanted_by tree.leaf tree.vrf.flows) }

abbrev pub IsTreeBetween : EdgePlace → Control → OwnVrf → TreeData → Type 0
IsTreeBetween place control own tree = IsTreeOf place control own (as_wanted tree)

-- ---- all trees

-- each tree changed by its VRF
abbrev pub changed_trees : (OwnVrf → TreeData → TreeData) → Kept → List TreeData
changed_trees change kept = map (λ it. change it.own it.tree) (trees_of kept)

-- what the tree of a VRF makes of a message, and of a peer that is lost
abbrev pub tree_updates : Kept → Core → NodeId → ℕ → Taken → List Change → OwnVrf → TreeData → TreeData
tree_updates kept core peer now taken changes own tree = tree_updated (place_of kept.home core) own peer now taken changes tree

abbrev pub tree_losses : Kept → Core → NodeId → OwnVrf → TreeData → TreeData
tree_losses kept core peer own tree = tree_lost (place_of kept.home core) own peer (taken_from (control_of kept) peer) tree
