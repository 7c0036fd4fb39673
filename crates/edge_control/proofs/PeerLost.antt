-- What the trees of all VRFs make of a peer that is lost: route by route, and VRF by VRF.
use Rattle.std.proofs.Common.{◌≡◌, List, [], ◌∷◌, length, map, fold, refl, sym, ap, ◌∙◌, arith}
use Rattle.std.specs.Prelude.{◌||◌, false}
use Rattle.mv_base.specs.core_walks.Core.{Core}
use Rattle.mv_base.specs.declared.ids.NodeId.{NodeId}
use Rattle.bgp_values.specs.declared.mvpn_nlri.route.Route.TheVariants as routes
use Rattle.bgp_messages.specs.declared.bgp_attributes.key.Key.{Key}
use Rattle.bgp_messages.specs.declared.bgp_attributes.key.Key.TheVariants.{Mcast, Unicast}
use Rattle.vrf_words.specs.tree_defs.Trees.{TreeData}
use Rattle.edge_defs.specs.Edge.{Taken, TakenRoute}
use Rattle.edge_defs.specs.Place.{EdgePlace, OwnVrf, vrfs_from}
use Rattle.edge_routes.specs.edge_home.Home.{Home}
use Rattle.edge_routes.specs.declared.route_order.route_type.RouteType.TheVariants as types
use Rattle.edge_routes.specs.route_order.Kept.{is_of_type}
use Rattle.std.specs.FinMap as maps
use Rattle.control_laws.specs.Peers.{tree_without}
use Rattle.edge_control.specs.Taking.{losing, losing_row, losing_rows, turned_all, without_lists}
use Rattle.edge_control.proofs.PeerTurns.{all_length}

-- A change that leaves each tree as it is leaves all.
pub turned_same : (change : OwnVrf → TreeData → TreeData) → ((own : OwnVrf) (tree : TreeData) → change own tree ≡ tree)
    → (owns : List OwnVrf) (trees : List TreeData) → length trees ≡ length owns → turned_all change owns trees ≡ trees
turned_same change same [] [] long = refl
turned_same change same [] (tree ∷ trees) long = absurd (omega (arith, long))
turned_same change same (own ∷ owns) [] long = refl
turned_same change same (own ∷ owns) (tree ∷ trees) long = λ i. same own tree i ∷ turned_same change same owns trees (omega (arith, long)) i

-- One change after another is both at once.
turned_twice : (second first : OwnVrf → TreeData → TreeData) (owns : List OwnVrf) (trees : List TreeData)
    → turned_all second owns (turned_all first owns trees) ≡ turned_all (λ own tree. second own (first own tree)) owns trees
turned_twice second first [] trees = refl
turned_twice second first (own ∷ owns) [] = refl
turned_twice second first (own ∷ owns) (tree ∷ trees) = ap (λ (rest : List TreeData). second own (first own tree) ∷ rest) (turned_twice second first owns trees)

map_turned : (then : TreeData → TreeData) (change : OwnVrf → TreeData → TreeData) (owns : List OwnVrf) (trees : List TreeData)
    → map then (turned_all change owns trees) ≡ turned_all (λ own tree. then (change own tree)) owns trees
map_turned then change [] trees = refl
map_turned then change (own ∷ owns) [] = refl
map_turned then change (own ∷ owns) (tree ∷ trees) = ap (λ (rest : List TreeData). then (change own tree) ∷ rest) (map_turned then change owns trees)

-- Changes of all trees, one after another, are of each tree all of its changes.
turned_rows : {Row : Type 0} (change : Row → OwnVrf → TreeData → TreeData) (owns : List OwnVrf) (rows : List Row) (trees : List TreeData)
    → length trees ≡ length owns
    → fold (λ (now : List TreeData) (row : Row). turned_all (change row) owns now) trees rows
    ≡ turned_all (λ own tree. fold (λ (now : TreeData) (row : Row). change row own now) tree rows) owns trees
turned_rows change owns [] trees long = sym (turned_same (λ own tree. tree) (λ own tree. refl) owns trees long)
turned_rows change owns (row ∷ rows) trees long =
    turned_rows change owns rows (turned_all (change row) owns trees) (all_length (change row) owns trees long)
    ∙ turned_twice (λ own tree. fold (λ (now : TreeData) (next : _). change next own now) tree rows) (change row) owns trees

-- The tree keeps no routes of the key one by one, and is left as it is.
pub rest_is : (place : EdgePlace) (own : OwnVrf) (peer : NodeId) (key : Key) (taken : TakenRoute) (tree : TreeData)
    → (is_of_type types.Active key || is_of_type types.SourceJoin key) ≡ false → tree_without place own peer tree (key, taken) ≡ tree
rest_is place own peer (Unicast rd prefix) taken tree other = refl
rest_is place own peer (Mcast afi (routes.Active rd source group)) taken tree other = absurd cc
rest_is place own peer (Mcast afi (routes.SourceJoin rd source_as source group)) taken tree other = absurd cc
rest_is place own peer (Mcast afi (routes.Selective rd source group originator)) taken tree other = refl
rest_is place own peer (Mcast afi (routes.Intra rd originator)) taken tree other = refl
rest_is place own peer (Mcast afi (routes.Inter rd source_as)) taken tree other = refl
rest_is place own peer (Mcast afi (routes.Leaf leaf originator)) taken tree other = refl
rest_is place own peer (Mcast afi (routes.SharedJoin rd source_as source group)) taken tree other = refl
rest_is place own peer (Mcast afi (routes.Other kind octets)) taken tree other = refl

-- All routes, and then what is listed by peer, are the whole table.
pub lost_is : (home : Home) (core : Core) (peer : NodeId) (taken : Taken) (trees : List TreeData)
    → length trees ≡ length (vrfs_from home.me 0 home.scenario.vrfs)
    → map (without_lists peer) (losing_rows home core peer trees (maps.entries taken))
    ≡ turned_all (losing home core peer taken) (vrfs_from home.me 0 home.scenario.vrfs) trees
lost_is home core peer taken trees long =
    let owns = vrfs_from home.me 0 home.scenario.vrfs in
    ap (map (without_lists peer)) (turned_rows (losing_row home core peer) owns (maps.entries taken) trees long)
    ∙ map_turned (without_lists peer) (λ own tree. fold (λ (now : TreeData) (row : Key × TakenRoute). losing_row home core peer row own now) tree
    (maps.entries taken)) owns trees
