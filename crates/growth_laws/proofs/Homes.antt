-- A VRF knows an address by one route: the one home that it has in the VPN.
use Rattle.std.proofs.Common.{◌≡◌, Bool, true, false, [], map, slice_get, Option, Some, None, inl, inr, refl, sym, ap, subst, ◌∙◌}
use Rattle.std.specs.List.{flat_map}
use Rattle.std.specs.FinMap as maps
use Rattle.std.proofs.lemmas.Option.{same_Some, none-some}
use Rattle.mv_base.specs.Lists.{Among}
use Rattle.mv_base.specs.Number.{◌>>?◌, only_if}
use Rattle.mv_base.specs.Prefix.{covers}
use Rattle.mv_base.specs.declared.addr.Addr.{Addr}
use Rattle.mv_base.specs.declared.ids.NodeId.{NodeId}
use Rattle.mv_base.specs.declared.ids.VrfId.{VrfId}
use Rattle.mv_base.specs.declared.prefix.Prefix.{Prefix}
use Rattle.mv_base.specs.declared.rd.Rd.{Rd}
use Rattle.mv_base.specs.route_targets.Targets.{same}
use Rattle.bgp_messages.specs.declared.bgp_attributes.key.Key.{Key}
use Rattle.bgp_messages.specs.declared.bgp_attributes.key.Key.TheVariants as keys
use Rattle.scenario_defs.specs.Home.{local_routes}
use Rattle.scenario_defs.specs.Rules.{Rules}
use Rattle.scenario_defs.specs.Vpn.{targets_of, same_vpn}
use Rattle.scenario_defs.specs.declared.scenario.Route.{Route}
use Rattle.scenario_defs.specs.declared.scenario.Scenario.{Scenario}
use Rattle.scenario_defs.specs.declared.scenario.Vrf.{Vrf}
use Rattle.choice_defs.specs.Choice.{of_site}
use Rattle.choice_defs.specs.declared.known_route.KnownRoute.{KnownRoute}
use Rattle.choice_defs.specs.declared.origin.Origin.TheVariants as origins
use Rattle.mv_base.specs.core_walks.Core.{Core}
use Rattle.edge_defs.specs.Edge.{TakenRoute, Taken, Control}
use Rattle.edge_defs.specs.Imported.{taken_from, join_by, is_admitted}
use Rattle.edge_defs.specs.Keys.{Value}
use Rattle.edge_defs.specs.Place.{EdgePlace, OwnVrf, addr_of, own_vrfs}
use Rattle.edge_defs.specs.Upstream.{known_route, known_from, known_routes}
use Rattle.edge_defs.proofs.KeyLemmas.{key_total}
use Rattle.edge_words.specs.edge_laws.Network.{EdgeNetwork}
use Rattle.edge_words.proofs.calm_laws.Lists.{among_either, map_among, flat_map_among, found_among}
use Rattle.edge_words.proofs.calm_laws.Maps.{entry_get}
use Rattle.edge_words.proofs.calm_laws.Tables.{peer_table}
use Rattle.edge_words.proofs.calm_laws.Targets.{same_back, same_itself, same_through}
use Rattle.edge_words.proofs.calm_laws.Upstreams.{chained, admitted_unicast}
use Rattle.edge_words.proofs.calm_laws.Vrfs.{own_at, own_edge}
use Rattle.edge_words.specs.held_laws.Held.{IsJoinKey, IsOriginated, Inclusive, Unicast, Selective, Active, Originates}
use Rattle.growth_laws.specs.Edges.{KnowsOneOrigin}
use Rattle.growth_laws.specs.Scripts.{HasOneHome}

-- What was taken of each node is what that node says, Source Tree Joins aside.
abbrev pub TakenIsTold : (NodeId → EdgePlace) → (NodeId → Control) → Control → Type 0
TakenIsTold at kept control =
    (u : NodeId) (key : Key) (route : TakenRoute) → (IsJoinKey key → ⊥) → maps.get (taken_from control u) key ≡ Some route
    → Originates (at u) (kept u) key route.value

clash_mcast : (rd : Rd) (prefix : Prefix) (afi : _) (route : _) → keys.Unicast rd prefix ≡ keys.Mcast afi route → ⊥
clash_mcast rd prefix afi route e = absurd cc

module _ (scenario : Scenario) (core : NodeId → Core) (kept : NodeId → Control) (rules : Rules scenario) (home : HasOneHome scenario) where
  abbrev at : NodeId → EdgePlace
  at u = record { scenario = scenario; core = core u; me = u }

  abbrev network : EdgeNetwork
  network = record { clock = 0; scenario = scenario; core = core; node = kept; direction = λ a b. record { joined = false; transit = [] } }

  -- a VRF of a node, a prefix of a site that is attached there, and the route by which another VRF knows it
  data Known (me : NodeId) (own : OwnVrf) (route : KnownRoute) : Type 0 where
    Here : (from : Route) → Among from (local_routes scenario own.id) → route ≡ of_site from → Known me own route
    There : (u : NodeId) (root : OwnVrf) (from : Route) → Among root (own_vrfs (at u)) → (me ≡ u → ⊥) → Among from (local_routes scenario root.id)
        → route ≡ record { prefix = from.prefix; origin = origins.Remote u (addr_of scenario u) root.vrf.rd }
        → same root.vrf.targets own.vrf.targets ≡ true → Known me own route

  -- a unicast route that a VRF imports
  record Imports (own : OwnVrf) (u : NodeId) (key : Key) (taken : TakenRoute) (route : KnownRoute) : Type 0 where
    rd : Rd
    prefix : Prefix
    is : key ≡ keys.Unicast rd prefix
    made : route ≡ record { prefix = prefix; origin = origins.Remote u (addr_of scenario u) rd }
    admitted : is_admitted own.vrf taken.value.comms ≡ true

  passed : (b : Bool) (v w : Value) → only_if b v ≡ Some w → b ≡ true
  passed true v w h = refl
  passed false v w h = absurd (none-some w h)

  imports : (me : NodeId) (own : OwnVrf) (u : NodeId) (key : Key) (taken : TakenRoute) (route : KnownRoute)
      → known_route (at me) own.vrf u (key, taken) ≡ Some route → Imports own u key taken route
  imports me own u (keys.Mcast afi multi) taken route h = absurd (none-some route h)
  imports me own u (keys.Unicast rd prefix) taken route h =
      let made : KnownRoute = record { prefix = prefix; origin = origins.Remote u (addr_of scenario u) rd } in
      let first =
      chained (only_if (is_admitted own.vrf taken.value.comms) taken.value) (λ value. join_by (addr_of scenario u) value >>? λ by. Some made)
      route h in
      let second = chained (join_by (addr_of scenario u) first.0) (λ by. Some made) route first.2 in
      record {
        rd = rd;
        prefix = prefix;
        is = refl;
        made = sym (same_Some made route second.2);
        admitted =
            passed (is_admitted own.vrf taken.value.comms) taken.value first.0 first.1;
      }

  -- the route of the VRF that says so
  unicast_of : (me u : NodeId) (own root : OwnVrf) (key : Key) (taken : TakenRoute) (route : KnownRoute) → (me ≡ u → ⊥) → Among own (own_vrfs (at me))
      → Among root (own_vrfs (at u)) → Imports own u key taken route
      → IsOriginated (at u) (kept u) root key taken.value → Known me own route
  unicast_of me u own root key taken route apart a b i (Inclusive k v) =
      absurd (let bad : keys.Unicast i.rd i.prefix ≡ _ = sym i.is ∙ k in clash_mcast i.rd i.prefix _ _ bad)
  unicast_of me u own root key taken route apart a b i (Selective pattern selected got k v) =
      absurd (let bad : keys.Unicast i.rd i.prefix ≡ _ = sym i.is ∙ k in clash_mcast i.rd i.prefix _ _ bad)
  unicast_of me u own root key taken route apart a b i (Active iface source group mine noted k v) =
      absurd (let bad : keys.Unicast i.rd i.prefix ≡ _ = sym i.is ∙ k in clash_mcast i.rd i.prefix _ _ bad)
  unicast_of me u own root key taken route apart a b i (Unicast prefix site among k v) =
      let same_key : keys.Unicast i.rd i.prefix ≡ keys.Unicast root.vrf.rd prefix = sym i.is ∙ k in
      let rds : i.rd ≡ root.vrf.rd = cc in
      let prefixes : i.prefix ≡ prefix = cc in
      There u root (record { prefix = prefix; site = site }) b apart among
      (i.made ∙ (λ j. record { prefix = prefixes j; origin = origins.Remote u (addr_of scenario u) (rds j) }))
      (admitted_unicast network u me root own taken.value rules b a v i.admitted)

  known : (me : NodeId) (control : Control) (own : OwnVrf) (route : KnownRoute) → TakenIsTold at kept control
      → ((key : Key) (taken : TakenRoute) → maps.get (taken_from control me) key ≡ Some taken → ⊥)
      → Among own (own_vrfs (at me)) → Among route (known_routes (at me) control own) → Known me own route
  known me control own route told self a b =
      elim (among_either route (map of_site (local_routes scenario own.id)) (flat_map (known_from (at me) own.vrf) (maps.entries control.peers)) b) [
        | inl c ↦ (let by = map_among of_site route (local_routes scenario own.id) c in Here by.0 by.1 by.2)
        | inr c ↦
            let peer = flat_map_among (known_from (at me) own.vrf) route (maps.entries control.peers) c in
            let u : NodeId = peer.0.0 in
            let table : Taken = peer.0.1 in
            let found = found_among (known_route (at me) own.vrf u) route (maps.entries table) peer.2 in
            let key : Key = found.0.0 in
            let taken : TakenRoute = found.0.1 in
            let got : maps.get (taken_from control u) key ≡ Some taken =
            ap (λ (t : Taken). maps.get t key) (peer_table control u table peer.1) ∙ entry_get key_total table key taken found.1 in
            let i = imports me own u key taken route found.2 in
            let says = told u key taken (λ join. subst IsJoinKey i.is join) got in
            unicast_of me u own says.own key taken route (λ e. self key taken (ap (λ (n : NodeId). maps.get (taken_from control n) key) e ∙ got)) a
            says.among i says.is
      ]

  -- ---- one route

  targets_are : (u : NodeId) (own : OwnVrf) → Among own (own_vrfs (at u)) → targets_of scenario own.id ≡ own.vrf.targets
  targets_are u own a = ap (λ (o : Option Vrf). elim o [ None ↦ [] | Some found ↦ found.targets ]) (own_at (at u) own a)

  of_one_vpn : (u w : NodeId) (own other : OwnVrf) → Among own (own_vrfs (at u)) → Among other (own_vrfs (at w))
      → same own.vrf.targets other.vrf.targets ≡ true → same_vpn scenario own.id other.id ≡ true
  of_one_vpn u w own other a b h = (λ i. same (targets_are u own a i) (targets_are w other b i)) ∙ h

  edge_is : (u w : NodeId) (own other : OwnVrf) → Among own (own_vrfs (at u)) → Among other (own_vrfs (at w)) → own.id ≡ other.id
      → own.vrf ≡ other.vrf
  edge_is u w own other a b e =
      same_Some own.vrf other.vrf (sym (own_at (at u) own a) ∙ ap (λ (id : VrfId). slice_get scenario.vrfs id.0) e ∙ own_at (at w) other b)

  node_is : (u w : NodeId) (own other : OwnVrf) → Among own (own_vrfs (at u)) → Among other (own_vrfs (at w)) → own.vrf ≡ other.vrf → u ≡ w
  node_is u w own other a b e =
      let number : u.0 ≡ w.0 = sym (own_edge (at u) own a) ∙ ap (λ (v : Vrf). v.edge.0) e ∙ own_edge (at w) other b in
      λ i. record { 0 = number i }

  one_known : (me : NodeId) (own : OwnVrf) (route other : KnownRoute) (source : Addr) → Among own (own_vrfs (at me)) → Known me own route
      → Known me own other → covers route.prefix source ≡ true → covers other.prefix source ≡ true → route ≡ other
  one_known me own route other source a (Here from among e) (Here from_other among_other f) c d =
      let one =
      home own.id own.id from from_other source (of_one_vpn me me own own a a (same_itself own.vrf.targets)) among among_other
      (ap (λ (r : KnownRoute). covers r.prefix source) (sym e) ∙ c) (ap (λ (r : KnownRoute). covers r.prefix source) (sym f) ∙ d) in
      e ∙ ap of_site one.1 ∙ sym f
  one_known me own route other source a (Here from among e) (There u root from_other b apart among_other f vpn) c d =
      let one =
      home own.id root.id from from_other source (of_one_vpn me u own root a b (same_back root.vrf.targets own.vrf.targets vpn)) among among_other
      (ap (λ (r : KnownRoute). covers r.prefix source) (sym e) ∙ c) (ap (λ (r : KnownRoute). covers r.prefix source) (sym f) ∙ d) in
      absurd (apart (node_is me u own root a b (edge_is me u own root a b one.0)))
  one_known me own route other source a (There u root from b apart among e vpn) (Here from_other among_other f) c d =
      let one =
      home root.id own.id from from_other source (of_one_vpn u me root own b a vpn) among among_other
      (ap (λ (r : KnownRoute). covers r.prefix source) (sym e) ∙ c) (ap (λ (r : KnownRoute). covers r.prefix source) (sym f) ∙ d) in
      absurd (apart (sym (node_is u me root own b a (edge_is u me root own b a one.0))))
  one_known me own route other source a (There u root from b apart among e vpn)
      (There w root_other from_other b_other apart_other among_other f vpn_other) c d =
      let one = home root.id root_other.id from from_other source
      (of_one_vpn u w root root_other b b_other (same_through root.vrf.targets own.vrf.targets root_other.vrf.targets vpn
      (same_back root_other.vrf.targets own.vrf.targets vpn_other)))
      among among_other (ap (λ (r : KnownRoute). covers r.prefix source) (sym e) ∙ c) (ap (λ (r : KnownRoute). covers r.prefix source) (sym f) ∙ d) in
      let vrfs = edge_is u w root root_other b b_other one.0 in
      let nodes = node_is u w root root_other b b_other vrfs in
      e ∙ (λ i. record { prefix = (one.1 i).prefix; origin = origins.Remote (nodes i) (addr_of scenario (nodes i)) (vrfs i).rd }) ∙ sym f

  pub one_origin : (me : NodeId) (control : Control) → TakenIsTold at kept control
      → ((key : Key) (taken : TakenRoute) → maps.get (taken_from control me) key ≡ Some taken → ⊥) → KnowsOneOrigin (at me) control
  one_origin me control told self own route other source a b c covers_route covers_other =
      one_known me own route other source a (known me control own route told self a b) (known me control own other told self a c) covers_route
      covers_other
