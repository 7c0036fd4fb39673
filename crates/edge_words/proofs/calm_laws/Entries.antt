-- The entries of the table that an edge holds for a peer, by where they are from.
use Rattle.std.proofs.Common.{◌≡◌, ℕ, ◌==◌, Bool, true, false, cond, inl, inr, [], ◌∷◌, ◌++◌, Option, Some, None, refl, sym, ap, subst, ◌∙◌}
use Rattle.std.specs.List.{filter}
use Rattle.std.specs.FinMap as maps
use Rattle.std.proofs.lemmas.Bool.{eqb-true}
use Rattle.mv_base.specs.declared.ids.NodeId.{NodeId}
use Rattle.mv_base.specs.declared.ids.VrfId.{VrfId}
use Rattle.mv_base.specs.declared.pattern.Pattern.{Pattern}
use Rattle.mv_base.specs.declared.prefix.Prefix.{Prefix}
use Rattle.mv_base.specs.declared.rd.Rd.{Rd}
use Rattle.bgp_messages.specs.bgp_values.declared.mvpn_nlri.route.Route.{Route}
use Rattle.bgp_messages.specs.bgp_values.declared.mvpn_nlri.route.Route.TheVariants as routes
use Rattle.bgp_messages.specs.declared.bgp_attributes.key.Key.{Key}
use Rattle.bgp_messages.specs.declared.bgp_attributes.key.Key.TheVariants.{Mcast, Unicast}
use Rattle.scenario_defs.specs.Home.{local_routes}
use Rattle.selective_defs.specs.Selective.{Among}
use Rattle.edge_defs.specs.Edge.{VrfPattern, Selected, VrfFlow, Import, Upstream, Site, Remote, Control}
use Rattle.edge_defs.specs.Held.{join_route, join_routes, held_for}
use Rattle.edge_defs.specs.Keys.{Value}
use Rattle.bgp_messages.specs.bgp_update.Written.{afi_of}
use Rattle.edge_defs.specs.Originated.{import_target, selective_key, active_key, plain_value, unicast_value, tunnel_value, inclusive_route, unicast_routes, notes_of, active_routes, selective_routes, routes_of, originated}
use Rattle.edge_defs.specs.Place.{EdgePlace, OwnVrf, own_addr, own_vrfs, tunnel_number}
use Rattle.edge_defs.proofs.KeyLemmas.{key_total, key_exact, pattern_total}
use Rattle.edge_words.proofs.calm_laws.Lists.{among_front, among_either, map_among, among_flat_map, flat_map_among, filter_among, found_among}
use Rattle.edge_words.proofs.calm_laws.Maps.{some_found, found_stands, entry_get}

abbrev pub Entry : Type 0
Entry = Key × Value

-- ---- where an entry is from

abbrev pub route_kind : Route → ℕ
route_kind (routes.Intra rd originator) = 1
route_kind (routes.Inter rd source_as) = 2
route_kind (routes.Selective rd source group originator) = 3
route_kind (routes.Leaf key originator) = 4
route_kind (routes.Active rd source group) = 5
route_kind (routes.SharedJoin rd source_as source group) = 6
route_kind (routes.SourceJoin rd source_as source group) = 7
route_kind (routes.Other kind octets) = 8

abbrev pub kind_of : Key → ℕ
kind_of (Unicast rd prefix) = 0
kind_of (Mcast afi route) = route_kind route

pub data IsHeld (place : EdgePlace) (control : Control) (peer : NodeId) (entry : Entry) : Type 0 where
  OfInclusive : (own : OwnVrf) → Among own (own_vrfs place) → entry ≡ inclusive_route place own → IsHeld place control peer entry
  OfUnicast : (own : OwnVrf) → Among own (own_vrfs place) → Among entry (unicast_routes place own) → IsHeld place control peer entry
  OfSelective : (own : OwnVrf) → Among own (own_vrfs place) → Among entry (selective_routes place control own) → IsHeld place control peer entry
  OfActive : (own : OwnVrf) → Among own (own_vrfs place) → Among entry (active_routes place control own) → IsHeld place control peer entry
  OfJoin : Among entry (join_routes place control peer) → IsHeld place control peer entry

held_of : (place : EdgePlace) (control : Control) (peer : NodeId) (own : OwnVrf) (entry : Entry) → Among own (own_vrfs place)
    → Among entry (routes_of place control own) → IsHeld place control peer entry
held_of place control peer own entry a (inl e) = OfInclusive own a e
held_of place control peer own entry a (inr b) =
    elim (among_either entry (unicast_routes place own) (selective_routes place control own ++ active_routes place control own) b) [
      | inl c ↦ OfUnicast own a c
      | inr c ↦ elim (among_either entry (selective_routes place control own) (active_routes place control own) c) [
        | inl d ↦ OfSelective own a d
        | inr d ↦ OfActive own a d
      ]
    ]

pub is_held : (place : EdgePlace) (control : Control) (peer : NodeId) (key : Key) (value : Value)
    → maps.get (held_for place control peer) key ≡ Some value → IsHeld place control peer (key, value)
is_held place control peer key value h =
    let list = originated place control ++ join_routes place control peer in
    let a : Among (key, value) list = found_stands key_exact key value list (sym (maps.get-from_entries key_total list key) ∙ h) in
    elim (among_either (key, value) (originated place control) (join_routes place control peer) a) [
      | inl b ↦ let by = flat_map_among (routes_of place control) (key, value) (own_vrfs place) b in
          held_of place control peer by.0 (key, value) by.1 by.2
      | inr b ↦ OfJoin b
    ]

pub some_held : (place : EdgePlace) (control : Control) (peer : NodeId) (key : Key) (value : Value)
    → Among (key, value) (originated place control ++ join_routes place control peer)
    → (held : Value) × (maps.get (held_for place control peer) key ≡ Some held)
some_held place control peer key value a =
    let list = originated place control ++ join_routes place control peer in
    let by = some_found key_total key value list a in
    (by.0, maps.get-from_entries key_total list key ∙ by.1)

pub own_held : (place : EdgePlace) (control : Control) (peer : NodeId) (own : OwnVrf) (key : Key) (value : Value) → Among own (own_vrfs place)
    → Among (key, value) (routes_of place control own) → (held : Value) × (maps.get (held_for place control peer) key ≡ Some held)
own_held place control peer own key value a b =
    some_held place control peer key value (among_front (key, value) (originated place control) (join_routes place control peer)
    (among_flat_map (routes_of place control) own (key, value) (own_vrfs place) a b))

-- ---- the types of the routes

-- a VPN-IPv4 route of a VRF
pub record IsUnicastRoute (place : EdgePlace) (own : OwnVrf) (entry : Entry) : Type 0 where
  pub prefix : Prefix
  pub key : entry.0 ≡ Unicast own.vrf.rd prefix
  pub value : entry.1 ≡ unicast_value place own.vrf

pub is_unicast : (place : EdgePlace) (own : OwnVrf) (entry : Entry) → Among entry (unicast_routes place own) → IsUnicastRoute place own entry
is_unicast place own entry a =
    let by = map_among (λ route. (Unicast own.vrf.rd route.prefix, unicast_value place own.vrf)) entry (local_routes place.scenario own.id) a in
    record { prefix = by.0.prefix; key = ap (λ (e : Entry). e.0) by.2; value = ap (λ (e : Entry). e.1) by.2 }

-- the S-PMSI A-D route of a selection of a VRF
pub record IsSelectiveRoute (place : EdgePlace) (control : Control) (own : OwnVrf) (entry : Entry) : Type 0 where
  pub pattern : Pattern
  pub selected : Selected
  pub at : maps.get control.selections (record { vrf = own.id; pattern = pattern }) ≡ Some selected
  pub key : entry.0 ≡ selective_key place own.vrf pattern
  pub value : entry.1 ≡ tunnel_value place own.vrf (tunnel_number own.vrf selected.number)

pub of_vrf : (id : VrfId) (entry : VrfPattern) → (entry.vrf.0 == id.0) ≡ true → entry ≡ record { vrf = id; pattern = entry.pattern }
of_vrf id entry h = let e = eqb-true entry.vrf.0 id.0 h in λ i. record { vrf = record { 0 = e i }; pattern = entry.pattern }

pub is_selective : (place : EdgePlace) (control : Control) (own : OwnVrf) (entry : Entry) → Among entry (selective_routes place control own)
    → IsSelectiveRoute place control own entry
is_selective place control own entry a =
    let by = map_among (λ (e : VrfPattern × Selected).
    (selective_key place own.vrf e.0.pattern, tunnel_value place own.vrf (tunnel_number own.vrf e.1.number))) entry
    (filter (λ (e : VrfPattern × Selected). e.0.vrf.0 == own.id.0) (maps.entries control.selections)) a in
    let passing = filter_among (λ (e : VrfPattern × Selected). e.0.vrf.0 == own.id.0) by.0 (maps.entries control.selections) by.1 in
    record {
      pattern = by.0.0.pattern;
      selected = by.0.1;
      at = subst (λ (k : VrfPattern). maps.get control.selections k ≡ Some by.0.1) (of_vrf own.id by.0.0 passing.1)
          (entry_get pattern_total control.selections by.0.0 by.0.1 passing.0);
      key = ap (λ (e : Entry). e.0) by.2;
      value = ap (λ (e : Entry). e.1) by.2;
    }

pub active_kind : (place : EdgePlace) (control : Control) (own : OwnVrf) (entry : Entry) → Among entry (active_routes place control own)
    → kind_of entry.0 ≡ 5
active_kind place control own entry a =
    let by = map_among (λ note. (active_key own.vrf note.source note.group, plain_value place own.vrf)) entry (notes_of place control own.id) a in
    ap (λ (e : Entry). kind_of e.0) by.2

-- the Source Tree Join of a flow
pub record IsJoin (place : EdgePlace) (peer : NodeId) (flow : VrfFlow) (up : Option Upstream) (entry : Entry) : Type 0 where
  pub rd : Rd
  pub import : Import
  pub source_as : ℕ
  pub remote : up ≡ Some (Remote peer rd import source_as)
  pub key : entry.0 ≡ Mcast (afi_of flow.source) (routes.SourceJoin rd source_as flow.source flow.group)
  pub comms : entry.1.comms ≡ import_target import ∷ []

joined_by : (place : EdgePlace) (peer edge : NodeId) (flow : VrfFlow) (rd : Rd) (import : Import) (source_as : ℕ) (entry : Entry) (b : Bool)
    → (edge.0 == peer.0) ≡ b
    → cond b (Some (
      Mcast (afi_of flow.source) (routes.SourceJoin rd source_as flow.source flow.group),
      record { next_hop = own_addr place; comms = import_target import ∷ []; pmsi = None },
    )) None ≡ Some entry
    → IsJoin place peer flow (Some (Remote edge rd import source_as)) entry
joined_by place peer edge flow rd import source_as entry false e h = absurd cc
joined_by place peer edge flow rd import source_as entry true e h =
    let number = eqb-true edge.0 peer.0 e in
    let made : Entry = (
      Mcast (afi_of flow.source) (routes.SourceJoin rd source_as flow.source flow.group),
      record { next_hop = own_addr place; comms = import_target import ∷ []; pmsi = None },
    ) in
    let same : made ≡ entry = cc in
    record {
      rd = rd;
      import = import;
      source_as = source_as;
      remote = λ i. Some (Remote (record { 0 = number i }) rd import source_as);
      key = ap (λ (x : Entry). x.0) (sym same);
      comms = ap (λ (x : Entry). x.1.comms) (sym same);
    }

pub is_join : (place : EdgePlace) (peer : NodeId) (flow : VrfFlow) (up : Option Upstream) (entry : Entry)
    → join_route place peer (flow, up) ≡ Some entry → IsJoin place peer flow up entry
is_join place peer flow None entry h = absurd cc
is_join place peer flow (Some (Site site)) entry h = absurd cc
is_join place peer flow (Some (Remote edge rd import source_as)) entry h =
    joined_by place peer edge flow rd import source_as entry (edge.0 == peer.0) refl h

pub join_kind : (place : EdgePlace) (control : Control) (peer : NodeId) (entry : Entry) → Among entry (join_routes place control peer)
    → kind_of entry.0 ≡ 7
join_kind place control peer entry a =
    let by = found_among (join_route place peer) entry (maps.entries control.flows) a in
    ap kind_of (is_join place peer by.0.0 by.0.1 entry by.2).key

pub unicast_kind : (place : EdgePlace) (own : OwnVrf) (entry : Entry) → Among entry (unicast_routes place own) → kind_of entry.0 ≡ 0
unicast_kind place own entry a = ap kind_of (is_unicast place own entry a).key

pub selective_kind : (place : EdgePlace) (control : Control) (own : OwnVrf) (entry : Entry) → Among entry (selective_routes place control own)
    → kind_of entry.0 ≡ 3
selective_kind place control own entry a = ap kind_of (is_selective place control own entry a).key
