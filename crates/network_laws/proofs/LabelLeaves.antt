-- The trees of which an edge is a leaf have sound FECs, since the values of its routes are sound.
use Rattle.std.proofs.Common.{◌≡◌, ◌&&◌, true, List, [], ◌∷◌, flat_map, Option, Some, None, refl, sym, ap, subst, ◌∙◌}
use Rattle.std.specs.List.{AllByRecursion}
use Rattle.std.specs.Cmp.{IsTotalOrder, nat_cmp_total}
use Rattle.std.specs.FinMap as maps
use Rattle.std.specs.FinSet as sets
use Rattle.std.proofs.lemmas.Cmp.{on_total, lists_total}
use Rattle.std.proofs.lemmas.Option.{same_Some, none-some}
use Rattle.mv_base.specs.Number.{◌>>?◌, only_if}
use Rattle.mv_base.specs.Address.{same_addr}
use Rattle.mv_base.specs.declared.addr.Addr.{Addr}
use Rattle.mv_base.specs.declared.ids.NodeId.{NodeId}
use Rattle.mv_base.proofs.CutLemmas.{if_some}
use Rattle.mldp.specs.declared.mldp_fec.fec.Fec.{Fec}
use Rattle.bgp_messages.specs.declared.bgp_attributes.key.Key.{Key}
use Rattle.scenario_defs.specs.declared.scenario.Vrf.{Vrf}
use Rattle.network_defs.specs.edge_defs.selective_defs.Selective.{wanted, is_wanted}
use Rattle.network_defs.specs.edge_defs.selective_defs.declared.learned_route.LearnedRoute.{LearnedRoute}
use Rattle.label_defs.proofs.KeyLemmas.{fec_cmp_total, fec_cmp_exact, node_cmp_total}
use Rattle.label_defs.proofs.SettleLemmas.{bind_some}
use Rattle.network_defs.specs.edge_defs.Edge.{VrfFlow, Upstream, Site, Remote, TakenRoute, Taken, Control}
use Rattle.network_defs.specs.edge_defs.Imported.{is_admitted, found_in, lsp_of, tunnel_by, inclusive_of, SelectiveRoute, selective_of, taken_from, imported_inclusive, ImportedSelective, imported_selective}
use Rattle.network_defs.specs.edge_defs.Keys.{Value, key_parts, key_cmp}
use Rattle.network_defs.specs.edge_defs.Place.{EdgePlace, OwnVrf, addr_of, own_vrfs}
use Rattle.network_defs.specs.edge_defs.Tunnels.{learned_route, learned_routes, inclusive_tunnels, flow_tunnels, flows_of, tunnels_of, leaves}
use Rattle.network_laws.specs.Sound.{IsSoundFec, SoundValue, SoundTaken, SoundControl}
use Rattle.network_laws.proofs.LabelEntries.{each_entry}
use Rattle.network_laws.proofs.Lists.{each_append, each_of, each_map, each_flat, each_filter}
use Rattle.network_laws.proofs.Maps.{each_member}

-- ---- what is found

found_more : {A B : Type 0} (P : B → Type 0) (find : A → Option B) (more : List A) (o : Option B) → ((y : B) → o ≡ Some y → P y)
    → AllByRecursion P (found_in find more)
    → AllByRecursion P (elim o [ None ↦ found_in find more | Some found ↦ found ∷ found_in find more ])
found_more P find more None own rest = rest
found_more P find more (Some found) own rest = (own found refl, rest)

each_found_in : {A B : Type 0} (Q : A → Type 0) (P : B → Type 0) (find : A → Option B) → ((x : A) (y : B) → Q x → find x ≡ Some y → P y)
    → (xs : List A) → AllByRecursion Q xs → AllByRecursion P (found_in find xs)
each_found_in Q P find gives [] q = tt
each_found_in Q P find gives (x ∷ more) q = found_more P find more (find x) (λ y e. gives x y q.0 e) (each_found_in Q P find gives more q.1)

-- ---- tunnels

tunnel_sound : (peer originator : Addr) (value : Value) (fec : Fec) → SoundValue value → tunnel_by peer originator value ≡ Some fec → IsSoundFec fec
tunnel_sound peer originator value fec s e =
    let x = bind_some (lsp_of value.pmsi) (λ found. only_if (same_addr found.root peer && same_addr originator peer) found) fec e in
    s.tunnel fec (x.1 ∙ ap (λ (f : Fec). Some f) (if_some (same_addr x.0.root peer && same_addr originator peer) x.0 fec x.2).1)

admitted_sound : (vrf : Vrf) (peer originator : Addr) (own value : Value) (fec : Fec) → SoundValue own
    → only_if (is_admitted vrf own.comms) own ≡ Some value → tunnel_by peer originator value ≡ Some fec → IsSoundFec fec
admitted_sound vrf peer originator own value fec s a e =
    tunnel_sound peer originator value fec (subst SoundValue (if_some (is_admitted vrf own.comms) own value a).1 s) e

-- the value of the route is sound
abbrev IsSoundRoute : Key × TakenRoute → Type 0
IsSoundRoute entry = SoundValue entry.1.value

inclusive_sound : (vrf : Vrf) (peer : Addr) (entry : Key × TakenRoute) (fec : Fec) → IsSoundRoute entry → imported_inclusive vrf peer entry ≡ Some fec
    → IsSoundFec fec
inclusive_sound vrf peer entry fec s e =
    let value : Value = entry.1.value in
    let x = bind_some (inclusive_of entry.0) (λ originator. only_if (is_admitted vrf value.comms) value >>? λ found. tunnel_by peer originator found)
    fec e in
    let y = bind_some (only_if (is_admitted vrf value.comms) value) (λ found. tunnel_by peer x.0 found) fec x.2 in
    admitted_sound vrf peer x.0 value y.0 fec s y.1 y.2

-- the tunnel of what is imported
imported_is : (route : SelectiveRoute) (fec : Fec) (imported : ImportedSelective)
    → ◌≡◌ {A = Option ImportedSelective} (Some (record { route = route; fec = fec })) (Some imported) → IsSoundFec fec → IsSoundFec imported.fec
imported_is route fec imported e s =
    subst (λ (i : ImportedSelective). IsSoundFec i.fec) (same_Some (record { route = route; fec = fec }) imported e) s

selective_sound : (vrf : Vrf) (peer : Addr) (entry : Key × TakenRoute) (imported : ImportedSelective) → IsSoundRoute entry
    → imported_selective vrf peer entry ≡ Some imported → IsSoundFec imported.fec
selective_sound vrf peer entry imported s e =
    let value : Value = entry.1.value in
    let x = bind_some (selective_of entry.0) (λ route. only_if (is_admitted vrf value.comms) value >>? λ found. tunnel_by peer route.originator found
    >>? λ fec. Some (record { route = route; fec = fec })) imported e in
    let y = bind_some (only_if (is_admitted vrf value.comms) value)
    (λ found. tunnel_by peer x.0.originator found >>? λ fec. Some (record { route = x.0; fec = fec })) imported x.2 in
    let z = bind_some (tunnel_by peer x.0.originator y.0) (λ fec. Some (record { route = x.0; fec = fec })) imported y.2 in
    imported_is x.0 z.0 imported z.2 (admitted_sound vrf peer x.0.originator value y.0 z.0 s y.1 z.1)

learned_sound : (place : EdgePlace) (own : OwnVrf) (peer : NodeId) (entry : Key × TakenRoute) (route : LearnedRoute) → IsSoundRoute entry
    → learned_route place own peer entry ≡ Some route → IsSoundFec route.fec
learned_sound place own peer entry route s e = by (imported_selective own.vrf (addr_of place.scenario peer) entry) refl e
  where
    by : (o : Option ImportedSelective) → imported_selective own.vrf (addr_of place.scenario peer) entry ≡ o
        → elim o as (λ _. Option LearnedRoute) [
          | None ↦ None
          | Some imported ↦
              Some (record {
                pattern = record { source = imported.route.source; group = imported.route.group };
                fec = imported.fec;
                since =
                    entry.1.since;
                run = entry.1.run;
              })
        ] ≡ Some route
        → IsSoundFec route.fec
    by None is e = absurd (none-some route e)
    by (Some imported) is e =
        subst (λ (r : LearnedRoute). IsSoundFec r.fec)
        (same_Some (record {
          pattern = record { source = imported.route.source; group = imported.route.group };
          fec = imported.fec;
          since =
              entry.1.since;
          run = entry.1.run;
        }) route e)
        (selective_sound own.vrf (addr_of place.scenario peer) entry imported s is)

-- ---- what was taken of peers

key_cmp_total : IsTotalOrder key_cmp
key_cmp_total = on_total key_parts (lists_total (lists_total nat_cmp_total))

routes_sound : (taken : Taken) → SoundTaken taken → AllByRecursion IsSoundRoute (maps.entries taken)
routes_sound taken s = each_entry key_cmp_total IsSoundRoute taken (λ key route e. (s key route e).1)

peer_sound : (control : Control) (peer : NodeId) → SoundControl control → SoundTaken (taken_from control peer)
peer_sound control peer s = by (maps.get control.peers peer) refl
  where
    by : (o : Option Taken) → maps.get control.peers peer ≡ o → SoundTaken (elim o [ None ↦ maps.empty | Some taken ↦ taken ])
    by None e = λ key route h. absurd (none-some route (sym (maps.get-empty key_cmp key) ∙ h))
    by (Some taken) e = s.peers peer taken e

-- ---- leaves

-- the FECs of a list are sound
abbrev AreSoundFecs : List Fec → Type 0
AreSoundFecs fecs = AllByRecursion IsSoundFec fecs

inclusives_sound : (place : EdgePlace) (control : Control) (own : OwnVrf) → SoundControl control
    → AreSoundFecs (flat_map (inclusive_tunnels place own) (maps.entries control.peers))
inclusives_sound place control own s =
    each_flat IsSoundFec (inclusive_tunnels place own) (maps.entries control.peers)
    (each_entry node_cmp_total (λ (entry : NodeId × Taken). AreSoundFecs (inclusive_tunnels place own entry)) control.peers (λ peer taken e.
    each_found_in IsSoundRoute IsSoundFec (imported_inclusive own.vrf (addr_of place.scenario peer))
    (inclusive_sound own.vrf (addr_of place.scenario peer)) (maps.entries taken) (routes_sound taken (s.peers peer taken e))))

flow_sound : (place : EdgePlace) (control : Control) (own : OwnVrf) → SoundControl control → (entry : VrfFlow × Option Upstream)
    → AreSoundFecs (flow_tunnels place control own entry)
flow_sound place control own s (flow, Some (Remote edge rd import source_as)) =
    let routes : List LearnedRoute = learned_routes place control own edge in
    let all =
    each_found_in IsSoundRoute (λ (route : LearnedRoute). IsSoundFec route.fec) (learned_route place own edge) (learned_sound place own edge)
    (maps.entries (taken_from control edge)) (routes_sound (taken_from control edge) (peer_sound control edge s)) in
    each_map IsSoundFec (λ route. route.fec) (wanted routes flow.source flow.group)
    (each_filter (λ (route : LearnedRoute). IsSoundFec route.fec) (is_wanted routes flow.source flow.group) routes all)
flow_sound place control own s (flow, Some (Site site)) = tt
flow_sound place control own s (flow, None) = tt

tunnels_sound : (place : EdgePlace) (control : Control) → SoundControl control → (own : OwnVrf) → AreSoundFecs (tunnels_of place control own)
tunnels_sound place control s own =
    let flows : List (VrfFlow × Option Upstream) = flows_of control own.id in
    each_append IsSoundFec (flat_map (inclusive_tunnels place own) (maps.entries control.peers)) (flat_map (flow_tunnels place control own) flows)
    (inclusives_sound place control own s)
    (each_flat IsSoundFec (flow_tunnels place control own) flows
    (each_of (λ entry. AreSoundFecs (flow_tunnels place control own entry)) (flow_sound place control own s) flows))

pub leaves_are_sound : (place : EdgePlace) (control : Control) → SoundControl control → (fec : Fec) → sets.contains (leaves place control) fec ≡ true
    → IsSoundFec fec
leaves_are_sound place control s fec e =
    let vrfs : List OwnVrf = own_vrfs place in
    let all : AreSoundFecs (flat_map (tunnels_of place control) vrfs) =
    each_flat IsSoundFec (tunnels_of place control) vrfs
    (each_of (λ own. AreSoundFecs (tunnels_of place control own)) (tunnels_sound place control s) vrfs) in
    each_member fec_cmp_total fec_cmp_exact IsSoundFec (flat_map (tunnels_of place control) vrfs) all fec e
