-- What the tree of a VRF makes of a route of a peer that is there no more, and of one that is there anew.
use Rattle.std.specs.Prelude.{◌≡◌, ℕ, false, zero, suc, List, [], ◌∷◌, map, fold, Option, None, Some}
use Rattle.std.specs.FinMap as maps
use Rattle.std.specs.FinMap.{FinMap}
use Rattle.std.specs.FinSet as sets
use Rattle.std.specs.FinSet.{FinSet}
use Rattle.mv_base.specs.declared.addr.Addr.{Addr}
use Rattle.mv_base.specs.declared.ids.NodeId.{NodeId}
use Rattle.bgp_values.specs.declared.mvpn_nlri.route.Route.TheVariants as routes
use Rattle.mv_base.specs.core_walks.Core.{Core}
use Rattle.bgp_messages.specs.declared.bgp_attributes.key.Key.{Key}
use Rattle.bgp_messages.specs.declared.bgp_attributes.key.Key.TheVariants.{Mcast, Unicast}
use Rattle.umh_select.specs.Order as unicast_order
use Rattle.selective.specs.Leaves as leaves
use Rattle.umh_select.specs.Routes.{key_from, without_peer}
use Rattle.umh_select.specs.declared.key.RouteKey.{RouteKey}
use Rattle.umh_select.specs.declared.route.Held.{Held}
use Rattle.vrf_words.specs.declared.tree_defs.flow.ActiveRoute.{ActiveRoute}
use Rattle.vrf_words.specs.tree_defs.Keys.{active_cmp}
use Rattle.vrf_words.specs.tree_defs.Trees.{TreeData}
use Rattle.edge_defs.specs.Edge.{Taken, TakenRoute}
use Rattle.edge_defs.specs.Imported.{FlowRoute}
use Rattle.edge_defs.specs.Keys.{Value}
use Rattle.edge_defs.specs.Place.{EdgePlace, OwnVrf, addr_of, vrfs_from}
use Rattle.edge_routes.specs.edge_home.Home.{Home, place_of}
use Rattle.edge_routes.specs.declared.edge_home.own_vrf.OwnVrf as homes
use Rattle.edge_routes.specs.Judged.{value_of}
use Rattle.edge_routes.specs.Local.{IsAt}
use Rattle.edge_routes.specs.declared.imported.TakenValue.{TakenValue}
use Rattle.control_laws.specs.Peers.{active_of, joined_with, left_with, selective_with}
use Rattle.control_laws.specs.Peers.{told_active, told_join, told_selective, told_unicast}
use Rattle.edge_tables.specs.taken_tables.Tables.{Tables}
use Rattle.control_laws.specs.Control.{own_trees}
use Rattle.control_laws.specs.Peers.{tree_change, tree_lost, tree_with, tree_without, with_actives, with_joined, with_learned, with_selective}

-- The VRF is one of the edge at the place, and the peer has that address there.
pub record IsFrom (place : EdgePlace) (own : homes.OwnVrf) (peer : NodeId) (addr : Addr) : Type 0 where
  pub of_edge : IsAt place own.local
  pub address : addr_of place.scenario peer ≡ addr

-- Both are there, and the route has that value, or neither is.
abbrev pub Says : Option TakenValue → Option TakenRoute → Type 0
Says None None = Unit {0}
Says (Some value) (Some taken) = taken.value ≡ value_of value
Says value taken = ⊥

-- the learned routes of a VRF, which has none of the key, with this one where it keeps it
abbrev pub more_learned : RouteKey → Option Held → FinMap unicast_order.key_cmp Held → FinMap unicast_order.key_cmp Held
more_learned key None learned = learned
more_learned key (Some held) learned = maps.insert learned key held

-- and its Source Active routes
abbrev pub more_actives : ActiveRoute → Option FlowRoute → FinSet active_cmp → FinSet active_cmp
more_actives route None actives = actives
more_actives route (Some flow) actives = sets.insert actives route

-- The tree has no unicast route, and no Source Active route, of the key of the peer.
abbrev pub IsWithout : NodeId → Key → TreeData → Type 0
IsWithout peer (Unicast rd prefix) tree = maps.get tree.vrf.routes.learned (key_from peer rd prefix) ≡ None
IsWithout peer (Mcast afi (routes.Active rd source group)) tree = sets.contains tree.vrf.actives (active_of peer rd source group) ≡ false
IsWithout peer key tree = Unit {0}

-- What the tree becomes where a route comes to a key at which there was none, by the kind of the key.
abbrev pub tree_learning : EdgePlace → OwnVrf → NodeId → ℕ → Key → Option TakenRoute → TreeData → TreeData
tree_learning place own peer now (Unicast rd prefix) new tree =
    with_learned (more_learned (key_from peer rd prefix) (told_unicast place own peer new) tree.vrf.routes.learned) tree
tree_learning place own peer now (Mcast afi (routes.Active rd source group)) new tree =
    with_actives
    (more_actives (active_of peer rd source group) (told_active own (Mcast afi (routes.Active rd source group)) new) tree.vrf.actives)
    tree
tree_learning place own peer now (Mcast afi (routes.SourceJoin rd source_as source group)) new tree =
    with_joined (joined_with peer (told_join place own (Mcast afi (routes.SourceJoin rd source_as source group)) new) tree.joined) tree
tree_learning place own peer now (Mcast afi (routes.Selective rd source group originator)) new tree =
    with_selective
    (selective_with peer now (told_selective place own peer (Mcast afi (routes.Selective rd source group originator)) new) tree.leaf.routes)
    tree
tree_learning place own peer now key new tree = tree

-- a route of that value that is taken at the clock
abbrev pub route_of : Value → ℕ → TakenRoute
route_of value now = record { value = value; since = now; run = false }

-- ---- all trees

-- the trees of these VRFs, the first so many of them changed by their VRF
abbrev pub turned : ℕ → (OwnVrf → TreeData → TreeData) → List OwnVrf → List TreeData → List TreeData
turned zero change owns trees = trees
turned (suc n) change [] trees = trees
turned (suc n) change (own ∷ owns) [] = []
turned (suc n) change (own ∷ owns) (tree ∷ trees) = change own tree ∷ turned n change owns trees

-- and all of them
abbrev pub turned_all : (OwnVrf → TreeData → TreeData) → List OwnVrf → List TreeData → List TreeData
turned_all change owns trees = map (λ it. change it.own it.tree) (own_trees owns trees)

-- a route that is there no more, or anew, as the tree of a VRF of the edge takes it
abbrev pub forgetting : Home → Core → NodeId → ℕ → Key → Option TakenRoute → OwnVrf → TreeData → TreeData
forgetting home core peer now key old own tree = tree_with (place_of home core) own peer now key old None tree

-- where there was none, nothing
abbrev pub dropping : Home → Core → NodeId → ℕ → Key → Option TakenRoute → OwnVrf → TreeData → TreeData
dropping home core peer now key old own tree = tree_change (place_of home core) own peer now key old None tree

abbrev pub coming : Home → Core → NodeId → ℕ → Key → Option TakenRoute → OwnVrf → TreeData → TreeData
coming home core peer now key new own tree = tree_change (place_of home core) own peer now key None new tree

abbrev pub learning : Home → Core → NodeId → ℕ → Key → Option TakenRoute → OwnVrf → TreeData → TreeData
learning home core peer now key new own tree = tree_learning (place_of home core) own peer now key new tree

-- ---- a peer that is lost

-- the table of the peer; none where its session's end is down
abbrev pub table_of : Tables → NodeId → Taken
table_of tables peer = elim (maps.get tables peer) [ None ↦ maps.empty | Some taken ↦ taken ]

abbrev pub losing : Home → Core → NodeId → Taken → OwnVrf → TreeData → TreeData
losing home core peer taken own tree = tree_lost (place_of home core) own peer taken tree

-- a route of the peer's table that is lost, unicast and selective routes aside, as the tree of a VRF of the edge takes it
abbrev pub losing_row : Home → Core → NodeId → Key × TakenRoute → OwnVrf → TreeData → TreeData
losing_row home core peer row own tree = tree_without (place_of home core) own peer tree row

-- the trees of all VRFs of the edge after these routes are lost, one after another
abbrev pub losing_rows : Home → Core → NodeId → List TreeData → List (Key × TakenRoute) → List TreeData
losing_rows home core peer trees rows =
    fold (λ (now : List TreeData) (row : Key × TakenRoute). turned_all (losing_row home core peer row) (vrfs_from home.me 0 home.scenario.vrfs) now)
    trees rows

-- the tree without what it lists by peer, its unicast and its selective routes
abbrev pub without_lists : NodeId → TreeData → TreeData
without_lists peer tree = with_learned (without_peer peer tree.vrf.routes.learned) (with_selective (leaves.without_peer peer tree.leaf.routes) tree)

-- what the tree becomes where the peer's route of the key is lost, unicast and selective routes aside
abbrev pub tree_losing : EdgePlace → OwnVrf → NodeId → Key → Option TakenRoute → TreeData → TreeData
tree_losing place own peer (Mcast afi (routes.Active rd source group)) taken tree =
    with_actives (sets.remove tree.vrf.actives (active_of peer rd source group)) tree
tree_losing place own peer (Mcast afi (routes.SourceJoin rd source_as source group)) taken tree =
    with_joined (left_with peer (told_join place own (Mcast afi (routes.SourceJoin rd source_as source group)) taken) tree.joined) tree
tree_losing place own peer key taken tree = tree
