-- What is found in lists one after another, and what VRFs of an edge are given.
use Rattle.std.proofs.Common.{◌≡◌, false, ℕ, ◌+◌, ◌<◌, List, [], ◌∷◌, ◌++◌, length, get_or, map, take, Option, None, Some, option_map, refl, sym, ap, ◌∙◌}
use Rattle.std.proofs.lemmas.List.{map-append, take_more}
use Rattle.std.specs.FinMap as maps
use Rattle.mv_base.specs.declared.addr.Addr.{Addr}
use Rattle.mv_base.specs.declared.ids.NodeId.{NodeId}
use Rattle.mldp.specs.declared.mldp_fec.fec.Fec.{Fec}
use Rattle.bgp_messages.specs.declared.bgp_attributes.key.Key.{Key}
use Rattle.bgp_messages.specs.declared.bgp_attributes.update.Advert.{Advert}
use Rattle.bgp_messages.specs.declared.bgp_attributes.update.Change.TheVariants as updates
use Rattle.bgp_messages.specs.bgp_update.Table.{announced, unannounced}
use Rattle.edge_defs.specs.Edge.{Taken, TakenRoute}
use Rattle.edge_defs.specs.Imported.{found_in, imported_inclusive, inclusive_of, is_admitted, tunnel_by}
use Rattle.mv_base.specs.Number.{◌>>?◌, only_if}
use Rattle.edge_defs.specs.Keys.{Value}
use Rattle.edge_defs.specs.Place.{OwnVrf, addr_of}
use Rattle.bgp_messages.specs.declared.bgp_attributes.key.Key.TheVariants.{Mcast, Unicast}
use Rattle.bgp_values.specs.declared.mvpn_nlri.route.Afi.TheVariants.{Ipv4, Ipv6}
use Rattle.bgp_values.specs.declared.mvpn_nlri.route.Route.TheVariants as routes
use Rattle.edge_control.specs.Places.{vrfs_of}
use Rattle.edge_routes.specs.declared.route_order.route_type.RouteType.TheVariants as types
use Rattle.edge_routes.specs.route_order.Kept.{is_of_type}
use Rattle.edge_routes.specs.edge_home.Home.{AreOwn, Home, as_own}
use Rattle.edge_routes.specs.declared.edge_home.own_vrf.OwnVrf as homes
use Rattle.control_laws.proofs.Parts.{no_core}
use Rattle.edge_routing.specs.edge_updates.Tunnels.{listed, route_of, tunnels_at, tunnels_by, tunnels_from, tunnels_to}

abbrev found_or : {B : Type 0} → Option B → List B → List B
found_or o rest = elim o [ None ↦ rest | Some found ↦ found ∷ rest ]

-- what is found in one list after another
found_append : {A B : Type 0} (f : A → Option B) (xs ys : List A) → found_in f (xs ++ ys) ≡ found_in f xs ++ found_in f ys
found_append f [] ys = refl
found_append f (x ∷ xs) ys = ap (found_or (f x)) (found_append f xs ys) ∙ by (f x) (found_in f xs)
  where
    by : (o : Option _) (rest : List _) → found_or o (rest ++ found_in f ys) ≡ found_or o rest ++ found_in f ys
    by None rest = refl
    by (Some y) rest = refl

found_one : {A : Type 0} (f : A → Option Fec) (x : A) → found_in f (x ∷ []) ≡ listed (f x)
found_one f x = by (f x)
  where
    by : (o : Option Fec) → found_or o [] ≡ listed o
    by None = refl
    by (Some fec) = refl

found_map : {A B C : Type 0} (f : B → Option C) (g : A → B) (xs : List A) → found_in (λ x. f (g x)) xs ≡ found_in f (map g xs)
found_map f g [] = refl
found_map f g (x ∷ xs) = ap (found_or (f (g x))) (found_map f g xs)

none_found : {A B : Type 0} (f : A → Option B) → ((x : A) → f x ≡ None) → (xs : List A) → found_in f xs ≡ []
none_found f none [] = refl
none_found f none (x ∷ xs) = ap (λ (o : Option _). found_or o (found_in f xs)) (none x) ∙ none_found f none xs

-- A key of another type is that of no inclusive route.
not_inclusive : (key : Key) → is_of_type types.Intra key ≡ false → inclusive_of key ≡ None
not_inclusive (Unicast rd prefix) other = refl
not_inclusive (Mcast afi (routes.Intra rd originator)) other = absurd cc
not_inclusive (Mcast Ipv4 (routes.Inter rd source_as)) other = refl
not_inclusive (Mcast Ipv6 (routes.Inter rd source_as)) other = refl
not_inclusive (Mcast Ipv4 (routes.Selective rd source group originator)) other = refl
not_inclusive (Mcast Ipv6 (routes.Selective rd source group originator)) other = refl
not_inclusive (Mcast Ipv4 (routes.Leaf leaf originator)) other = refl
not_inclusive (Mcast Ipv6 (routes.Leaf leaf originator)) other = refl
not_inclusive (Mcast Ipv4 (routes.Active rd source group)) other = refl
not_inclusive (Mcast Ipv6 (routes.Active rd source group)) other = refl
not_inclusive (Mcast Ipv4 (routes.SharedJoin rd source_as source group)) other = refl
not_inclusive (Mcast Ipv6 (routes.SharedJoin rd source_as source group)) other = refl
not_inclusive (Mcast Ipv4 (routes.SourceJoin rd source_as source group)) other = refl
not_inclusive (Mcast Ipv6 (routes.SourceJoin rd source_as source group)) other = refl
not_inclusive (Mcast Ipv4 (routes.Other kind octets)) other = refl
not_inclusive (Mcast Ipv6 (routes.Other kind octets)) other = refl

pub tunnels_of_others : (home : Home) (peer : NodeId) (key : Key) (value : Value) → is_of_type types.Intra key ≡ false
    → tunnels_by home peer key value ≡ []
tunnels_of_others home peer key value other =
    none_found (λ (own : OwnVrf). imported_inclusive own.vrf (addr_of home.scenario peer) (key, route_of value))
    (λ own. ap (λ (found : Option Addr). found >>? λ originator.
    only_if (is_admitted own.vrf value.comms) value >>? λ own_value.
    tunnel_by (addr_of home.scenario peer) originator own_value) (not_inclusive key other))
    (vrfs_of home)

pub at_others : (home : Home) (peer : NodeId) (key : Key) (o : Option TakenRoute) → is_of_type types.Intra key ≡ false
    → tunnels_at home peer key o ≡ []
at_others home peer key None other = refl
at_others home peer key (Some taken) other = tunnels_of_others home peer key taken.value other

pub from_others : (home : Home) (o : Option Taken) (peer : NodeId) (key : Key) (value : Value) → is_of_type types.Intra key ≡ false
    → tunnels_from home o peer key value ≡ []
from_others home None peer key value other = refl
from_others home (Some taken) peer key value other = tunnels_of_others home peer key value other

-- one more of the VRFs
pub tunnels_more : (peer : Addr) (key : Key) (value : Value) (vrfs : List homes.OwnVrf) (n : ℕ) (own : homes.OwnVrf) → n < length vrfs
    → own ≡ get_or vrfs n own
    → tunnels_to peer key value (take (n + 1) vrfs) ≡ tunnels_to peer key value (take n vrfs)
    ++ listed (imported_inclusive own.local.vrf peer (key, route_of value))
tunnels_more peer key value vrfs n own lt is =
    let find : homes.OwnVrf → Option Fec = λ own. imported_inclusive own.local.vrf peer (key, route_of value) in
    ap (found_in find) (take_more vrfs n own lt) ∙ found_append find (take n vrfs) (get_or vrfs n own ∷ [])
    ∙ ap (λ (x : homes.OwnVrf). found_in find (take n vrfs) ++ found_in find (x ∷ [])) (sym is)
    ∙ ap (λ xs. found_in find (take n vrfs) ++ xs) (found_one find own)

-- all VRFs of the edge
pub tunnels_all : (home : Home) (peer : NodeId) (key : Key) (value : Value) (vrfs : List homes.OwnVrf) → AreOwn home vrfs
    → tunnels_to (addr_of home.scenario peer) key value vrfs ≡ tunnels_by home peer key value
tunnels_all home peer key value vrfs are =
    let find : OwnVrf → Option Fec = λ own. imported_inclusive own.vrf (addr_of home.scenario peer) (key, route_of value) in
    found_map find as_own vrfs ∙ ap (found_in find) (are.vrfs no_core)

-- one more of the keys
pub unannounced_more : (keys : List Key) (n : ℕ) (key : Key) → n < length keys → key ≡ get_or keys n key
    → unannounced (take n keys) ++ (updates.Unreach key ∷ []) ≡ unannounced (take (n + 1) keys)
unannounced_more keys n key lt is =
    ap (λ (k : Key). unannounced (take n keys) ++ (updates.Unreach k ∷ [])) is
    ∙ sym (ap unannounced (take_more keys n key lt) ∙ map-append (λ (k : Key). updates.Unreach k) (take n keys) (get_or keys n key ∷ []))

-- one more of the adverts
pub announced_more : (adverts : List Advert) (n : ℕ) (advert : Advert) → n < length adverts → advert ≡ get_or adverts n advert
    → announced (take n adverts) ++ (updates.Reach advert ∷ []) ≡ announced (take (n + 1) adverts)
announced_more adverts n advert lt is =
    ap (λ (a : Advert). announced (take n adverts) ++ (updates.Reach a ∷ [])) is
    ∙ sym (ap announced (take_more adverts n advert lt) ∙ map-append (λ (a : Advert). updates.Reach a) (take n adverts) (get_or adverts n advert ∷ []))

-- ---- whether routes are taken from the peer

pub from_none : (home : Home) (o : Option Taken) (peer : NodeId) (key : Key) (value : Value)
    → None ≡ option_map (λ (taken : Taken). maps.entries taken) o → tunnels_from home o peer key value ≡ []
from_none home None peer key value e = refl
from_none home (Some taken) peer key value e = absurd cc

pub from_some : (home : Home) (o : Option Taken) (peer : NodeId) (key : Key) (value : Value) (all : List (Key × TakenRoute))
    → Some all ≡ option_map (λ (taken : Taken). maps.entries taken) o → tunnels_from home o peer key value ≡ tunnels_by home peer key value
from_some home None peer key value all e = absurd cc
from_some home (Some taken) peer key value all e = refl
