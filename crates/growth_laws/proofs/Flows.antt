-- A flow that some interface asks for is asked for again, and its VRF chooses the upstream that it chose before.
use Rattle.std.proofs.Common.{◌≡◌, ℕ, ◌&&◌, Bool, true, false, cond, not, List, map, Option, Some, None, inl, inr, refl, sym, ap, subst, ◌∙◌}
use Rattle.std.specs.List.{filter, flat_map}
use Rattle.std.specs.FinMap as maps
use Rattle.std.specs.FinMap.{FinMap}
use Rattle.std.proofs.lemmas.Bool.{or_cases, or_left}
use Rattle.mv_base.specs.Lists.{Among}
use Rattle.mv_base.specs.Number.{◌>>?◌, only_if}
use Rattle.mv_base.specs.declared.addr.Addr.{Addr}
use Rattle.mv_base.specs.declared.ids.IfaceId.{IfaceId}
use Rattle.mv_base.specs.declared.ids.NodeId.{NodeId}
use Rattle.mv_base.specs.declared.prefix.Prefix.{Prefix}
use Rattle.bgp_messages.specs.declared.bgp_attributes.key.Key.{Key}
use Rattle.bgp_messages.specs.declared.bgp_attributes.key.Key.TheVariants.{Mcast, Unicast}
use Rattle.scenario_defs.specs.Home.{local_routes}
use Rattle.scenario_defs.specs.declared.event.IfaceEntry.{IfaceEntry}
use Rattle.scenario_defs.specs.declared.event.JoinEntry.TheVariants as entries
use Rattle.scenario_defs.specs.declared.scenario.Vrf.{Vrf}
use Rattle.choice_defs.specs.Choice.{best_route, of_site}
use Rattle.choice_defs.specs.declared.known_route.KnownRoute.{KnownRoute}
use Rattle.choice_defs.specs.declared.origin.Origin.{Origin}
use Rattle.choice_defs.specs.declared.origin.Origin.TheVariants as origins
use Rattle.choice_defs.proofs.BestLemmas.{Best, BestIs, best}
use Rattle.pim_defs.specs.Entries.{expiry_at, asks}
use Rattle.pim_defs.specs.Expiry.{is_after, counts}
use Rattle.pim_defs.specs.declared.expiry.Expiry.{Expiry}
use Rattle.edge_defs.specs.Edge.{VrfFlow, flow_cmp, Upstream, Remote, TakenRoute, Taken, Control}
use Rattle.edge_defs.specs.Flows.{is_active, is_asking, ifaces_of, is_flow, joined_by, active_flows, possible_flows, with_upstream, vrf_flows, flows_at}
use Rattle.edge_defs.specs.Imported.{FlowRoute, found_in, taken_from, join_by, is_admitted}
use Rattle.edge_defs.specs.Keys.{Value}
use Rattle.edge_defs.specs.Originated.{is_iface_of}
use Rattle.edge_defs.specs.Place.{EdgePlace, OwnVrf, addr_of, own_vrfs}
use Rattle.edge_defs.specs.Steps.{refreshed}
use Rattle.edge_defs.specs.Upstream.{known_route, known_from, known_routes, upstream_by, costs_of, upstream_for}
use Rattle.pim_defs.proofs.KeyLemmas.{entry_cmp_exact}
use Rattle.edge_defs.proofs.KeyLemmas.{key_total, key_exact, flow_total, flow_exact}
use Rattle.edge_words.proofs.Members.{ifaces_from, of_iface}
use Rattle.edge_words.proofs.calm_laws.Lists.{among_choice, any_from, any_among, among_front, among_after, among_either, among_map, map_among, among_flat_map, flat_map_among, filter_among, among_filter, found_among, among_found}
use Rattle.edge_words.proofs.calm_laws.Maps.{entry_get, get_entry, some_found, found_stands}
use Rattle.edge_words.proofs.calm_laws.Tables.{among_peers, peer_table}
use Rattle.edge_words.proofs.calm_laws.Upstreams.{chained}
use Rattle.edge_words.proofs.calm_laws.Vrfs.{one_number}
use Rattle.edge_words.specs.held_laws.Held.{IsJoinKey}
use Rattle.growth_laws.specs.Edges.{TakenStays, FlowsStay, EntriesStay, AreLasting, KnowsOneOrigin, KeepsAll}
use Rattle.growth_laws.proofs.Leaves.{peer_up}

-- ---- what an interface asks for

module _ (place : EdgePlace) (moment now : ℕ) (old new : Control) (entries_stay : EntriesStay old new) (lasting : AreLasting now new) (own : OwnVrf)
  where
    -- there is no (*,G) join
    no_star : (iface : IfaceId) (group : Addr) → (o : Option Expiry) → expiry_at old.entries iface (entries.Star group) ≡ o → o ≡ None
    no_star iface group None e = refl
    no_star iface group (Some expiry) e =
        let later = entries_stay (record { iface = iface; entry = entries.Star group }) expiry e in
        absurd (lasting (record { iface = iface; entry = entries.Star group }) later.0 later.1).0

    pub record Asked (iface : IfaceId) (source group : Addr) : Type 0 where
      pub expiry : Expiry
      pub at : expiry_at new.entries iface (entries.Source source group) ≡ Some expiry
      pub lasts : is_after expiry now ≡ true

    asked_by : (iface : IfaceId) (source group : Addr) (o : Option Expiry) → expiry_at old.entries iface (entries.Source source group) ≡ o
        → counts moment o ≡ true → Asked iface source group
    asked_by iface source group None e h = absurd cc
    asked_by iface source group (Some expiry) e h =
        let at : IfaceEntry = record { iface = iface; entry = entries.Source source group } in
        let later = entries_stay at expiry e in
        record { expiry = later.0; at = later.1; lasts = (lasting at later.0 later.1).1 }

    asked : (iface : IfaceId) (source group : Addr) (active : Bool) → asks old.entries iface source group active moment ≡ true
        → Asked iface source group
    asked iface source group active h =
        elim (or_cases (counts moment (expiry_at old.entries iface (entries.Source source group)))
        (counts moment (expiry_at old.entries iface (entries.Star group))
        && not (counts moment (expiry_at old.entries iface (entries.Rpt source group))) && active) h) [
          | inl joined ↦ asked_by iface source group (expiry_at old.entries iface (entries.Source source group)) refl joined
          | inr shared ↦
              let none : expiry_at old.entries iface (entries.Star group) ≡ None =
              no_star iface group (expiry_at old.entries iface (entries.Star group)) refl in
              absurd (never (not (counts moment (expiry_at old.entries iface (entries.Rpt source group)))) active
              (sym (ap (λ (o : Option Expiry). counts moment o && not (counts moment (expiry_at old.entries iface (entries.Rpt source group)))
              && active) none) ∙ shared))
        ]
      where
        never : (a b : Bool) → (false && a && b) ≡ true → ⊥
        never a b e = absurd cc

    asks_again : (iface : IfaceId) (source group : Addr) (active : Bool) → Asked iface source group
        → asks new.entries iface source group active now ≡ true
    asks_again iface source group active a =
        or_left (counts now (expiry_at new.entries iface (entries.Source source group)))
        (counts now (expiry_at new.entries iface (entries.Star group)) && not (counts now (expiry_at new.entries iface (entries.Rpt source group)))
        && active)
        (ap (counts now) a.at ∙ a.lasts)

    -- the flow is one again
    pub flow_again : (flow : FlowRoute) → is_flow place moment old own flow ≡ true
        → Among flow (filter (is_flow place now new own) (possible_flows place new own))
    flow_again flow h =
        let by = any_among (is_asking place moment old own flow.source flow.group) (ifaces_of place own) h in
        let iface : IfaceId = by.0 in
        let a = asked iface flow.source flow.group (is_active place old own flow.source flow.group) by.2 in
        let at : IfaceEntry = record { iface = iface; entry = entries.Source flow.source flow.group } in
        let mine : is_iface_of place.scenario own.id iface ≡ true =
        of_iface place.scenario own.id iface (ifaces_from place.scenario own.id iface by.1) in
        let joins : joined_by place own at ≡ Some flow =
        ap (λ (b : Bool). cond b (Some (record { source = flow.source; group = flow.group })) None) mine in
        let key : Among at (maps.keys new.entries) =
        among_map (λ (e : IfaceEntry × Expiry). e.0) (at, a.expiry) (maps.entries new.entries)
        (get_entry entry_cmp_exact new.entries at a.expiry a.at) in
        among_filter (is_flow place now new own) flow (possible_flows place new own)
        (any_from (is_asking place now new own flow.source flow.group) iface (ifaces_of place own) by.1
        (asks_again iface flow.source flow.group (is_active place new own flow.source flow.group) a))
        (among_front flow (found_in (joined_by place own) (maps.keys new.entries)) (active_flows place new own)
        (among_found (joined_by place own) at flow (maps.keys new.entries) key joins))

-- ---- the upstream

-- a route that is known of a peer is a unicast one
not_join : (place : EdgePlace) (vrf : Vrf) (peer : NodeId) (key : Key) (taken : TakenRoute) (route : KnownRoute)
    → known_route place vrf peer (key, taken) ≡ Some route → IsJoinKey key → ⊥
not_join place vrf peer (Unicast rd prefix) taken route h join = join
not_join place vrf peer (Mcast afi own) taken route h join = absurd cc

known_by : (place : EdgePlace) (vrf : Vrf) (peer : NodeId) (key : Key) (taken next : TakenRoute) (route : KnownRoute) → next.value ≡ taken.value
    → known_route place vrf peer (key, taken) ≡ Some route → known_route place vrf peer (key, next) ≡ Some route
known_by place vrf peer (Mcast afi own) taken next route e h = absurd cc
known_by place vrf peer (Unicast rd prefix) taken next route e h =
    ap (λ (v : Value). only_if (is_admitted vrf v.comms) v >>? λ value. join_by (addr_of place.scenario peer) value >>? λ by. Some
    (record { prefix = prefix; origin = origins.Remote peer (addr_of place.scenario peer) rd })) e ∙ h

module _ (place : EdgePlace) (old new : Control) (taken : TakenStays old new) (one : KnowsOneOrigin place new) (own : OwnVrf)
    (among : Among own (own_vrfs place)) where
  known_stays : (route : KnownRoute) → Among route (known_routes place old own) → Among route (known_routes place new own)
  known_stays route a =
      elim (among_either route (map of_site (local_routes place.scenario own.id)) (flat_map (known_from place own.vrf) (maps.entries old.peers)) a) [
        | inl b ↦ among_front route (map of_site (local_routes place.scenario own.id)) (flat_map (known_from place own.vrf) (maps.entries new.peers)) b
        | inr b ↦
            let at = flat_map_among (known_from place own.vrf) route (maps.entries old.peers) b in
            let peer : NodeId = at.0.0 in
            let table : Taken = at.0.1 in
            let found = found_among (known_route place own.vrf peer) route (maps.entries table) at.2 in
            let key : Key = found.0.0 in
            let got : maps.get (taken_from old peer) key ≡ Some found.0.1 =
            ap (λ (t : Taken). maps.get t key) (peer_table old peer table at.1) ∙ entry_get key_total table key found.0.1 found.1 in
            let next = taken peer key found.0.1 (not_join place own.vrf peer key found.0.1 route found.2) got in
            among_after route (map of_site (local_routes place.scenario own.id)) (flat_map (known_from place own.vrf) (maps.entries new.peers))
            (among_flat_map (known_from place own.vrf) (peer, taken_from new peer) route (maps.entries new.peers)
            (among_peers new peer (peer_up new peer key next.0 next.1))
            (among_found (known_route place own.vrf peer) (key, next.0) route (maps.entries (taken_from new peer))
            (get_entry key_exact (taken_from new peer) key next.0 next.1)
            (known_by place own.vrf peer key found.0.1 next.0 route next.2 found.2)))
      ]

  -- what the chosen route says stays
  said_again : (prefix : Prefix) (origin : Origin) (up : Upstream) → upstream_by place old (record { prefix = prefix; origin = origin }) ≡ Some up
      → upstream_by place new (record { prefix = prefix; origin = origin }) ≡ Some up
  said_again prefix (origins.Local site) up h = h
  said_again prefix (origins.Remote edge address rd) up h =
      let says : TakenRoute → Option Upstream = λ taken. join_by address taken.value >>? λ by. Some (Remote edge rd by.import by.source_as) in
      let by = chained (maps.get (taken_from old edge) (Unicast rd prefix)) says up h in
      let next = taken edge (Unicast rd prefix) by.0 (λ join. join) by.1 in
      ap (λ (o : Option TakenRoute). o >>? says) next.1
      ∙ ap (λ (v : Value). join_by address v >>? λ by. Some (Remote edge rd by.import by.source_as)) next.2 ∙ by.2

  -- the best route stays the best one
  best_again : (source group : Addr) (route : KnownRoute)
      → best_route (costs_of place own (known_routes place old own) source group) (known_routes place old own) source ≡ Some route
      → best_route (costs_of place own (known_routes place new own) source group) (known_routes place new own) source ≡ Some route
  best_again source group route e = by (best_route cost routes source) refl (best cost routes source)
    where
      routes : List KnownRoute
      routes = known_routes place new own

      cost : NodeId → ℕ
      cost = costs_of place own (known_routes place new own) source group

      was : Best (costs_of place own (known_routes place old own) source group) (known_routes place old own) source route
      was = subst (BestIs (costs_of place own (known_routes place old own) source group) (known_routes place old own) source) e
          (best (costs_of place own (known_routes place old own) source group) (known_routes place old own) source)

      stays : Among route (known_routes place new own)
      stays = known_stays route (among_choice route (known_routes place old own) was.among)

      by : (o : Option KnownRoute) → best_route cost routes source ≡ o → BestIs cost routes source o → best_route cost routes source ≡ Some route
      by None h none = (let bad : true ≡ false = sym was.covering ∙ none route stays in absurd cc)
      by (Some other) h is =
          h ∙ ap (λ (r : KnownRoute). Some r) (one own other route source among (among_choice other routes is.among) stays is.covering was.covering)

  pub upstream_again : (source group : Addr) (up : Upstream) → upstream_for place old own source group ≡ Some up
      → upstream_for place new own source group ≡ Some up
  upstream_again source group up h =
      let by = chained (best_route (costs_of place own (known_routes place old own) source group) (known_routes place old own) source)
      (upstream_by place old) up h in
      ap (λ (o : Option KnownRoute). o >>? upstream_by place new) (best_again source group by.0 by.1) ∙ said_again by.0.prefix by.0.origin up by.2

-- ---- the flows

-- what is known of a flow of the edge
pub record IsFlowAt (place : EdgePlace) (moment : ℕ) (control : Control) (flow : VrfFlow) (up : Option Upstream) : Type 0 where
  pub own : OwnVrf
  pub among : Among own (own_vrfs place)
  pub route : FlowRoute
  pub asked : is_flow place moment control own route ≡ true
  pub is : flow ≡ record { vrf = own.id; source = route.source; group = route.group }
  pub upstream : up ≡ upstream_for place control own route.source route.group

pub flow_at : (place : EdgePlace) (moment : ℕ) (control : Control) (flow : VrfFlow) (up : Option Upstream)
    → maps.get (flows_at place moment control) flow ≡ Some up → IsFlowAt place moment control flow up
flow_at place moment control flow up h =
    let list : List (VrfFlow × Option Upstream) = flat_map (vrf_flows place moment control) (own_vrfs place) in
    let a : Among (flow, up) list = found_stands flow_exact flow up list (sym (maps.get-from_entries flow_total list flow) ∙ h) in
    let by = flat_map_among (vrf_flows place moment control) (flow, up) (own_vrfs place) a in
    let made =
    map_among (with_upstream place control by.0) (flow, up) (filter (is_flow place moment control by.0) (possible_flows place control by.0)) by.2
    in
    let passes = filter_among (is_flow place moment control by.0) made.0 (possible_flows place control by.0) made.1 in
    record {
      own = by.0;
      among = by.1;
      route = made.0;
      asked = passes.1;
      is = ap (λ (x : VrfFlow × Option Upstream). x.0) made.2;
      upstream = ap (λ (x : VrfFlow × Option Upstream). x.1) made.2;
    }

pub some_flow : (place : EdgePlace) (moment : ℕ) (control : Control) (own : OwnVrf) (route : FlowRoute) → Among own (own_vrfs place)
    → Among route (filter (is_flow place moment control own) (possible_flows place control own))
    → (up : Option Upstream) × (maps.get (flows_at place moment control) (record { vrf = own.id; source = route.source; group = route.group })
    ≡ Some up)
some_flow place moment control own route a b =
    let flow : VrfFlow = record { vrf = own.id; source = route.source; group = route.group } in
    let list : List (VrfFlow × Option Upstream) = flat_map (vrf_flows place moment control) (own_vrfs place) in
    let there : Among (with_upstream place control own route) list =
    among_flat_map (vrf_flows place moment control) own (with_upstream place control own route) (own_vrfs place) a
    (among_map (with_upstream place control own) route (filter (is_flow place moment control own) (possible_flows place control own)) b) in
    let found = some_found flow_total flow (upstream_for place control own route.source route.group) list there in
    (found.0, maps.get-from_entries flow_total list flow ∙ found.1)

pub flows_stay : (place : EdgePlace) (moment now : ℕ) (old new : Control) → old.flows ≡ flows_at place moment old → KeepsAll place now old new
    → FlowsStay old (refreshed place now new)
flows_stay place moment now old new stand none flow up h =
    let was = flow_at place moment old flow (Some up) (ap (λ (flows : FinMap flow_cmp (Option Upstream)). maps.get flows flow) (sym stand) ∙ h) in
    let listed = flow_again place moment now old new none.entries none.lasting was.own was.route was.asked in
    let there = some_flow place now new was.own was.route was.among listed in
    let key : VrfFlow = record { vrf = was.own.id; source = was.route.source; group = was.route.group } in
    let is = flow_at place now new key there.0 there.1 in
    let same : is.own ≡ was.own = one_number place is.own was.own is.among was.among (ap (λ (f : VrfFlow). f.vrf.0) (sym is.is)) in
    let source : is.route.source ≡ was.route.source = ap (λ (f : VrfFlow). f.source) (sym is.is) in
    let group : is.route.group ≡ was.route.group = ap (λ (f : VrfFlow). f.group) (sym is.is) in
    let up_is : there.0 ≡ Some up =
    is.upstream ∙ (λ i. upstream_for place new (same i) (source i) (group i))
    ∙ upstream_again place old new none.taken none.one was.own was.among was.route.source was.route.group up (sym was.upstream) in
    ap (maps.get (flows_at place now new)) was.is ∙ there.1 ∙ ap (λ (o : Option Upstream). Some o) up_is
