-- Where routes and flows stay, and no selective route has a wildcard, an edge stays a leaf of each tunnel.
use Rattle.std.proofs.Common.{◌≡◌, ℕ, ◌==◌, Bool, true, false, not, nat_lt, ◌&&◌, List, map, Option, Some, None, is_some, inl, inr, refl, sym, ap, subst, ◌∙◌}
use Rattle.std.specs.List.{flat_map, list_any}
use Rattle.std.specs.Ordering.{eq_by_cmp}
use Rattle.std.specs.Cmp.{Equal-is}
use Rattle.std.specs.FinMap as maps
use Rattle.std.specs.FinSet as sets
use Rattle.std.proofs.lemmas.Bool.{cases_Bool}
use Rattle.std.proofs.lemmas.Option.{same_Some, none-some}
use Rattle.mv_base.specs.Lists.{Among}
use Rattle.mv_base.specs.Number.{◌>>?◌, only_if}
use Rattle.mv_base.specs.Pattern.{rank}
use Rattle.mv_base.specs.declared.addr.Addr.{Addr}
use Rattle.mv_base.specs.declared.ids.NodeId.{NodeId}
use Rattle.mv_base.specs.declared.pattern.Pattern.{Pattern}
use Rattle.mldp.specs.declared.mldp_fec.fec.Fec.{Fec}
use Rattle.bgp_values.specs.declared.mvpn_nlri.route.Afi.TheVariants.{Ipv4, Ipv6}
use Rattle.bgp_values.specs.declared.mvpn_nlri.route.Route.TheVariants as routes
use Rattle.bgp_messages.specs.declared.bgp_attributes.key.Key.{Key}
use Rattle.bgp_messages.specs.declared.bgp_attributes.key.Key.TheVariants.{Mcast, Unicast}
use Rattle.label_defs.specs.Keys.{fec_cmp}
use Rattle.label_defs.proofs.KeyLemmas.{ties, fec_cmp_total, fec_cmp_exact}
use Rattle.selective_defs.specs.Selective.{matches, overtakes, is_wanted, wanted}
use Rattle.selective_defs.specs.declared.learned_route.LearnedRoute.{LearnedRoute}
use Rattle.edge_defs.specs.Edge.{VrfFlow, Upstream, Site, Remote, TakenRoute, Taken, Control}
use Rattle.edge_defs.specs.Imported.{taken_from, inclusive_of, selective_of, tunnel_by, is_admitted, ImportedSelective, imported_inclusive, imported_selective}
use Rattle.edge_defs.specs.Keys.{key_cmp, Value}
use Rattle.edge_defs.specs.Place.{EdgePlace, OwnVrf, addr_of, own_vrfs}
use Rattle.edge_defs.specs.Tunnels.{learned_route, learned_routes, inclusive_tunnels, flow_tunnels, flows_of, tunnels_of, leaves}
use Rattle.edge_defs.proofs.KeyLemmas.{key_total, key_exact, flow_total, flow_exact}
use Rattle.edge_words.proofs.calm_laws.Lists.{any_from, any_among, among_front, among_after, among_either, among_map, map_among, among_flat_map, flat_map_among, filter_among, among_filter, found_among, among_found}
use Rattle.edge_words.proofs.calm_laws.Maps.{entry_get, get_entry}
use Rattle.edge_words.proofs.calm_laws.Imports.{learned_of}
use Rattle.edge_words.proofs.calm_laws.Tables.{among_peers, peer_table}
use Rattle.edge_words.specs.held_laws.Held.{IsJoinKey}
use Rattle.growth_laws.specs.Edges.{TakenStays, FlowsStay, IsNarrow, AreNarrow, LeavesStay}

-- ---- what a leaf is by

pub leaf_of : (place : EdgePlace) (control : Control) (own : OwnVrf) (fec : Fec) → Among own (own_vrfs place)
    → Among fec (tunnels_of place control own) → sets.contains (leaves place control) fec ≡ true
leaf_of place control own fec a b =
    let list : List Fec = flat_map (tunnels_of place control) (own_vrfs place) in
    sets.contains-from_list fec_cmp_total list fec
    ∙ any_from (eq_by_cmp fec_cmp fec) fec list (among_flat_map (tunnels_of place control) own fec (own_vrfs place) a b)
    (ties fec_cmp fec_cmp_total fec fec refl)

pub of_leaf : (place : EdgePlace) (control : Control) (fec : Fec) → sets.contains (leaves place control) fec ≡ true
    → (own : OwnVrf) × Among own (own_vrfs place) × Among fec (tunnels_of place control own)
of_leaf place control fec h =
    let list : List Fec = flat_map (tunnels_of place control) (own_vrfs place) in
    let by = any_among (eq_by_cmp fec_cmp fec) list (sym (sets.contains-from_list fec_cmp_total list fec) ∙ h) in
    let same : fec ≡ by.0 = fec_cmp_exact fec by.0 ((Equal-is (fec_cmp fec by.0)).0 by.2) in
    flat_map_among (tunnels_of place control) fec (own_vrfs place) (subst (λ (x : Fec). Among x list) (sym same) by.1)

-- ---- one table

pub peer_up : (control : Control) (peer : NodeId) (key : Key) (route : TakenRoute) → maps.get (taken_from control peer) key ≡ Some route
    → is_some (maps.get control.peers peer) ≡ true
peer_up control peer key route h = by (maps.get control.peers peer) h
  where
    by : (o : Option Taken) → maps.get (elim o as (λ (o : Option Taken). Taken) [ None ↦ maps.empty | Some taken ↦ taken ]) key ≡ Some route
        → is_some o ≡ true
    by None e = (let bad : None ≡ Some route = sym (maps.get-empty key_cmp key) ∙ e in absurd cc)
    by (Some taken) e = refl

-- the same value is read in the same way
inclusive_by : (vrf : _) (peer : Addr) (key : Key) (route next : TakenRoute) → next.value ≡ route.value
    → imported_inclusive vrf peer (key, next) ≡ imported_inclusive vrf peer (key, route)
inclusive_by vrf peer key route next e =
    ap (λ (v : Value). inclusive_of key >>? λ originator. only_if (is_admitted vrf v.comms) v >>? λ value. tunnel_by peer originator value) e

selective_by : (vrf : _) (peer : Addr) (key : Key) (route next : TakenRoute) → next.value ≡ route.value
    → imported_selective vrf peer (key, next) ≡ imported_selective vrf peer (key, route)
selective_by vrf peer key route next e =
    ap (λ (v : Value). selective_of key >>? λ found. only_if (is_admitted vrf v.comms) v >>? λ value. tunnel_by peer found.originator value >>? λ fec.
    Some (record { route = found; fec = fec })) e

abbrev pub as_learned : TakenRoute → Option ImportedSelective → Option LearnedRoute
as_learned taken o = elim o [
  | None ↦ None
  | Some imported ↦
      (let pattern : Pattern = record { source = imported.route.source; group = imported.route.group } in
      Some (record { pattern = pattern; fec = imported.fec; since = taken.since; run = taken.run }))
]

first_holds : (a b : Bool) → (a && b) ≡ true → a ≡ true
first_holds true b h = refl
first_holds false b h = h

-- a learned route of the same value has the same pattern and tunnel
read_again : (place : EdgePlace) (own : OwnVrf) (edge : NodeId) (key : Key) (route next : TakenRoute) (learned : LearnedRoute)
    → imported_selective own.vrf (addr_of place.scenario edge) (key, next) ≡ imported_selective own.vrf (addr_of place.scenario edge) (key, route)
    → learned_route place own edge (key, route) ≡ Some learned
    → (other : LearnedRoute) × (learned_route place own edge (key, next) ≡ Some other) × (other.pattern ≡ learned.pattern) × (other.fec ≡ learned.fec)
read_again place own edge key route next learned same h =
    by (imported_selective own.vrf (addr_of place.scenario edge) (key, next)) (imported_selective own.vrf (addr_of place.scenario edge) (key, route))
    same h
  where
    by : (o p : Option ImportedSelective) → o ≡ p → as_learned route p ≡ Some learned
        → (other : LearnedRoute) × (as_learned next o ≡ Some other) × (other.pattern ≡ learned.pattern) × (other.fec ≡ learned.fec)
    by None None e k = (let bad : None ≡ Some learned = k in absurd cc)
    by None (Some q) e k = absurd (none-some q e)
    by (Some p) None e k = absurd (none-some p (sym e))
    by (Some p) (Some q) e k =
        let one : p ≡ q = same_Some p q e in
        let made : LearnedRoute =
        record { pattern = record { source = q.route.source; group = q.route.group }; fec = q.fec; since = route.since; run = route.run } in
        let is : made ≡ learned = same_Some made learned k in (
          record { pattern = record { source = p.route.source; group = p.route.group }; fec = p.fec; since = next.since; run = next.run },
          refl,
          ap (λ (x : ImportedSelective). record { source = x.route.source; group = x.route.group }) one ∙ ap (λ (r : LearnedRoute). r.pattern) is,
          ap (λ (x : ImportedSelective). x.fec) one ∙ ap (λ (r : LearnedRoute). r.fec) is,
        )

-- an inclusive route is no join
pub inclusive_no_join : (own : OwnVrf) (peer : Addr) (key : Key) (route : TakenRoute) (fec : Fec)
    → imported_inclusive own.vrf peer (key, route) ≡ Some fec → IsJoinKey key → ⊥
inclusive_no_join own peer (Mcast Ipv4 (routes.SourceJoin rd source_as source group)) route fec h join = none-some fec h
inclusive_no_join own peer (Mcast Ipv6 (routes.SourceJoin rd source_as source group)) route fec h join = none-some fec h
inclusive_no_join own peer (Mcast afi (routes.Intra rd originator)) route fec h join = join
inclusive_no_join own peer (Mcast afi (routes.Inter rd source_as)) route fec h join = join
inclusive_no_join own peer (Mcast afi (routes.Selective rd source group originator)) route fec h join = join
inclusive_no_join own peer (Mcast afi (routes.Leaf key originator)) route fec h join = join
inclusive_no_join own peer (Mcast afi (routes.Active rd source group)) route fec h join = join
inclusive_no_join own peer (Mcast afi (routes.SharedJoin rd source_as source group)) route fec h join = join
inclusive_no_join own peer (Mcast afi (routes.Other kind octets)) route fec h join = join
inclusive_no_join own peer (Unicast rd prefix) route fec h join = join

module _ (place : EdgePlace) (old new : Control) (taken : TakenStays old new) (flows : FlowsStay old new) (narrow : AreNarrow new) (own : OwnVrf)
  where
    -- ---- inclusive tunnels

    inclusive_stays : (fec : Fec) → Among fec (flat_map (inclusive_tunnels place own) (maps.entries old.peers))
        → Among fec (flat_map (inclusive_tunnels place own) (maps.entries new.peers))
    inclusive_stays fec a =
        let at = flat_map_among (inclusive_tunnels place own) fec (maps.entries old.peers) a in
        let peer : NodeId = at.0.0 in
        let table : Taken = at.0.1 in
        let found = found_among (imported_inclusive own.vrf (addr_of place.scenario peer)) fec (maps.entries table) at.2 in
        let key : Key = found.0.0 in
        let route : TakenRoute = found.0.1 in
        let got : maps.get (taken_from old peer) key ≡ Some route =
        ap (λ (t : Taken). maps.get t key) (peer_table old peer table at.1) ∙ entry_get key_total table key route found.1 in
        let next = taken peer key route (inclusive_no_join own (addr_of place.scenario peer) key route fec found.2) got in
        let read = inclusive_by own.vrf (addr_of place.scenario peer) key route next.0 next.2 ∙ found.2 in
        among_flat_map (inclusive_tunnels place own) (peer, taken_from new peer) fec (maps.entries new.peers)
        (among_peers new peer (peer_up new peer key next.0 next.1))
        (among_found (imported_inclusive own.vrf (addr_of place.scenario peer)) (key, next.0) fec (maps.entries (taken_from new peer))
        (get_entry key_exact (taken_from new peer) key next.0 next.1) read)

    -- ---- selective tunnels

    narrow_rank : (edge : NodeId) (route : LearnedRoute) → Among route (learned_routes place new own edge) → rank route.pattern ≡ 4
    narrow_rank edge route a =
        let found = found_among (learned_route place own edge) route (maps.entries (taken_from new edge)) a in
        let is = learned_of place own edge found.0.0 found.0.1 route found.2 in
        let got = entry_get key_total (taken_from new edge) found.0.0 found.0.1 found.1 in
        subst IsNarrow is.is (narrow edge found.0.0 found.0.1 got)

    -- none of them is more specific than another
    none_overtakes : (edge : NodeId) (source group : Addr) (route : LearnedRoute) → rank route.pattern ≡ 4
        → list_any (overtakes source group route) (learned_routes place new own edge) ≡ false
    none_overtakes edge source group route e = elim (cases_Bool (list_any (overtakes source group route) (learned_routes place new own edge))) [
      | inr f ↦ f
      | inl t ↦
          let by = any_among (overtakes source group route) (learned_routes place new own edge) t in
          absurd (not_more (rank route.pattern) (rank by.0.pattern) by.0.run (matches by.0.pattern source group) e (narrow_rank edge by.0 by.1) by.2)
    ]
      where
        never : (run fits : Bool) → (run && (fits && false)) ≡ true → ⊥
        never true true h = absurd cc
        never true false h = absurd cc
        never false fits h = absurd cc

        not_more : (a b : ℕ) (run fits : Bool) → a ≡ 4 → b ≡ 4 → (run && (fits && nat_lt a b)) ≡ true → ⊥
        not_more a b run fits p q h = never run fits (sym (λ i. run && (fits && nat_lt (p i) (q i))) ∙ h)

    record Again (edge : NodeId) (route : LearnedRoute) : Type 0 where
      next : LearnedRoute
      among : Among next (learned_routes place new own edge)
      pattern : next.pattern ≡ route.pattern
      fec : next.fec ≡ route.fec

    again : (edge : NodeId) (route : LearnedRoute) → Among route (learned_routes place old own edge) → Again edge route
    again edge route a =
        let found = found_among (learned_route place own edge) route (maps.entries (taken_from old edge)) a in
        let key : Key = found.0.0 in
        let is = learned_of place own edge key found.0.1 route found.2 in
        let got = entry_get key_total (taken_from old edge) key found.0.1 found.1 in
        let next = taken edge key found.0.1 (λ join. subst IsJoinKey is.is join) got in
        let read =
        read_again place own edge key found.0.1 next.0 route (selective_by own.vrf (addr_of place.scenario edge) key found.0.1 next.0 next.2)
        found.2 in
        record {
          next = read.0;
          among = among_found (learned_route place own edge) (key, next.0) read.0 (maps.entries (taken_from new edge))
              (get_entry key_exact (taken_from new edge) key next.0 next.1) read.1;
          pattern = read.2;
          fec = read.3;
        }

    selective_stays : (flow : VrfFlow) (edge : NodeId) (fec : Fec)
        → Among fec (map (λ (route : LearnedRoute). route.fec) (wanted (learned_routes place old own edge) flow.source flow.group))
        → Among fec (map (λ (route : LearnedRoute). route.fec) (wanted (learned_routes place new own edge) flow.source flow.group))
    selective_stays flow edge fec a =
        let of = map_among (λ (route : LearnedRoute). route.fec) fec (wanted (learned_routes place old own edge) flow.source flow.group) a in
        let both = filter_among (is_wanted (learned_routes place old own edge) flow.source flow.group) of.0 (learned_routes place old own edge) of.1 in
        let next = again edge of.0 both.0 in
        let fits : matches next.next.pattern flow.source flow.group ≡ true =
        ap (λ p. matches p flow.source flow.group) next.pattern
        ∙ first_holds (matches of.0.pattern flow.source flow.group)
        (not (list_any (overtakes flow.source flow.group of.0) (learned_routes place old own edge))) both.1 in
        let stands : is_wanted (learned_routes place new own edge) flow.source flow.group next.next ≡ true =
        (λ i. fits i && not (none_overtakes edge flow.source flow.group next.next (narrow_rank edge next.next next.among) i)) in
        subst (λ (f : Fec). Among f (map (λ (route : LearnedRoute). route.fec) (wanted (learned_routes place new own edge) flow.source flow.group)))
        (next.fec ∙ sym of.2)
        (among_map (λ (route : LearnedRoute). route.fec) next.next (wanted (learned_routes place new own edge) flow.source flow.group)
        (among_filter (is_wanted (learned_routes place new own edge) flow.source flow.group) next.next (learned_routes place new own edge) stands
        next.among))

    flow_stays : (flow : VrfFlow) (up : Option Upstream) (fec : Fec) → (flow.vrf.0 == own.id.0) ≡ true → maps.get old.flows flow ≡ Some up
        → Among fec (flow_tunnels place old own (flow, up)) → Among fec (flat_map (flow_tunnels place new own) (flows_of new own.id))
    flow_stays flow None fec of h a = absurd a
    flow_stays flow (Some (Site site)) fec of h a = absurd a
    flow_stays flow (Some (Remote edge rd import source_as)) fec of h a =
        let up : Option Upstream = Some (Remote edge rd import source_as) in
        let there : Among (flow, up) (flows_of new own.id) =
        among_filter (λ (entry : VrfFlow × Option Upstream). entry.0.vrf.0 == own.id.0) (flow, up) (maps.entries new.flows) of
        (get_entry flow_exact new.flows flow up (flows flow (Remote edge rd import source_as) h)) in
        among_flat_map (flow_tunnels place new own) (flow, up) fec (flows_of new own.id) there (selective_stays flow edge fec a)

    pub tunnel_stays : (fec : Fec) → Among fec (tunnels_of place old own) → Among fec (tunnels_of place new own)
    tunnel_stays fec a =
        elim (among_either fec (flat_map (inclusive_tunnels place own) (maps.entries old.peers))
        (flat_map (flow_tunnels place old own) (flows_of old own.id)) a) [
          | inl b ↦ among_front fec (flat_map (inclusive_tunnels place own) (maps.entries new.peers))
              (flat_map (flow_tunnels place new own) (flows_of new own.id)) (inclusive_stays fec b)
          | inr b ↦
              let by = flat_map_among (flow_tunnels place old own) fec (flows_of old own.id) b in
              let of = filter_among (λ (entry : VrfFlow × Option Upstream). entry.0.vrf.0 == own.id.0) by.0 (maps.entries old.flows) by.1 in
              among_after fec (flat_map (inclusive_tunnels place own) (maps.entries new.peers))
              (flat_map (flow_tunnels place new own) (flows_of new own.id))
              (flow_stays by.0.0 by.0.1 fec of.1 (entry_get flow_total old.flows by.0.0 by.0.1 of.0) by.2)
        ]

pub leaves_stay : (place : EdgePlace) (old new : Control) → TakenStays old new → FlowsStay old new → AreNarrow new → LeavesStay place old new
leaves_stay place old new taken flows narrow fec h =
    let by = of_leaf place old fec h in
    leaf_of place new by.0 fec by.1 (tunnel_stays place old new taken flows narrow by.0 fec by.2)
