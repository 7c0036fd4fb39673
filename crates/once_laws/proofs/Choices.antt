-- At a line of zeros each VRF chooses by all routes of its VPN: its upstream leads to the home of the source.
use Rattle.std.proofs.Common.{◌≡◌, ◌≢◌, ◌⊎◌, inl, inr, ℕ, zero, suc, ◌+◌, ◌≤◌, ◌==◌, ◌&&◌, ◌++◌, Bool, true, false, cond, List, [], ◌∷◌, map, slice_get, Option, Some, None, is_some, refl, sym, ap, subst, ◌∙◌, arith}
use Rattle.std.specs.List.{flat_map}
use Rattle.std.specs.FinMap as maps
use Rattle.std.specs.Cmp.{nat_cmp_is}
use Rattle.std.specs.Ordering.{nat_cmp, is_lt, ordering_then}
use Rattle.std.specs.declared.cmp.Ordering.TheVariants.{Less, Equal}
use Rattle.std.proofs.lemmas.Bool.{cases_lt, true≢false, false_from_ne_true, and_parts, and_from, eq-eqb, eqb-true}
use Rattle.std.proofs.lemmas.Option.{cond_some, none-some, same_Some}
use Rattle.mv_base.specs.Number.{◌>>?◌, only_if}
use Rattle.mv_base.specs.Prefix.{covers}
use Rattle.mv_base.specs.declared.addr.Addr.{Addr}
use Rattle.mv_base.specs.declared.ids.NodeId.{NodeId}
use Rattle.mv_base.specs.declared.ids.SiteId.{SiteId}
use Rattle.mv_base.specs.declared.ids.VrfId.{VrfId}
use Rattle.mv_base.specs.declared.prefix.Prefix.{Prefix}
use Rattle.mv_base.specs.declared.rd.Rd.{Rd}
use Rattle.mv_base.specs.route_targets.Targets.{same}
use Rattle.bgp_messages.specs.declared.bgp_attributes.key.Key.{Key}
use Rattle.bgp_messages.specs.declared.bgp_attributes.key.Key.TheVariants.{Mcast, Unicast}
use Rattle.scenario_defs.specs.Home.{routes, local_routes, home}
use Rattle.scenario_defs.specs.Vpn.{is_of_site, is_of_vrf, is_attached, is_attached_at, same_vpn, targets_of}
use Rattle.scenario_defs.specs.declared.scenario.Iface.{Iface}
use Rattle.scenario_defs.specs.declared.scenario.Route.{Route}
use Rattle.scenario_defs.specs.declared.scenario.Scenario.{Scenario}
use Rattle.scenario_defs.specs.declared.scenario.Vrf.{Vrf}
use Rattle.scenario_defs.proofs.RuleLemmas.{iface_rules_at, vrf_rules_at}
use Rattle.choice_defs.specs.Choice as choice
use Rattle.choice_defs.specs.Choice.{is_better, best_route, of_site}
use Rattle.choice_defs.specs.declared.known_route.KnownRoute.{KnownRoute}
use Rattle.choice_defs.specs.declared.origin.Origin.{Origin}
use Rattle.choice_defs.specs.declared.origin.Origin.TheVariants as origins
use Rattle.choice_defs.proofs.BestLemmas.{Best, BestIs, best}
use Rattle.label_defs.proofs.KeyLemmas.{node_cmp_total, node_cases}
use Rattle.selective_defs.specs.Selective.{Among}
use Rattle.edge_defs.specs.Edge.{Import, Upstream, Site, Remote, TakenRoute, Taken, Control}
use Rattle.edge_defs.specs.Imported.{JoinBy, is_admitted, join_by, taken_from}
use Rattle.edge_defs.specs.Keys.{Value}
use Rattle.edge_defs.specs.Originated.{own_import, import_comm, source_as_comm, unicast_value, unicast_routes, selective_routes, active_routes}
use Rattle.edge_defs.specs.Place.{EdgePlace, OwnVrf, own_vrfs, vrfs_from, addr_of}
use Rattle.network_defs.specs.Costs.{Cores}
use Rattle.edge_defs.specs.Upstream.{costs_of, known_route, known_from, known_routes, upstream_by, upstream_for}
use Rattle.edge_defs.proofs.KeyLemmas.{key_total, key_exact}
use Rattle.edge_words.specs.edge_laws.Network.{EdgeNetwork, place_of}
use Rattle.edge_words.specs.calm_laws.Calm.{AreOfOneVpn}
use Rattle.edge_words.proofs.calm_laws.Comms.{joins_by}
use Rattle.edge_words.proofs.calm_laws.Entries.{IsHeld, OfInclusive, OfUnicast, OfSelective, OfActive, OfJoin, is_held, kind_of, selective_kind, active_kind, join_kind, own_held}
use Rattle.edge_words.proofs.calm_laws.Lists.{passes, among_choice, among_front, among_after, among_either, among_map, map_among, among_flat_map, flat_map_among, any_from, any_among, among_found, found_among}
use Rattle.edge_words.proofs.calm_laws.Maps.{entry_get, get_entry}
use Rattle.edge_words.proofs.calm_laws.Originated.{unicast_held}
use Rattle.edge_words.proofs.calm_laws.Tables.{taken_is, held_taken, taken_held, among_peers, far_up}
use Rattle.edge_words.proofs.calm_laws.Targets.{same_itself, same_back, vpn_admits}
use Rattle.edge_words.proofs.calm_laws.Upstreams.{chained, admitted_unicast}
use Rattle.edge_words.proofs.calm_laws.Vrfs.{own_at, own_rules, one_rd, one_vpn}
use Rattle.rule_laws.proofs.Vpns.{targets_at}
use Rattle.network_defs.specs.Nodes.{is_edge}
use Rattle.network_defs.specs.World.{World, scenario_of}
use Rattle.once_laws.proofs.Behind.{Known}
use Rattle.once_laws.proofs.CalmFlows.{peer_is}
use Rattle.once_laws.proofs.Edges.{net, rule, calm_session}
use Rattle.once_laws.proofs.Homes.{among_at, other_test, route_of, attached, is_home, no_home}
use Rattle.mvpn_model.proofs.VpnLemmas.{element_at}

-- ---- lists

choice_among : {X : Type 0} (x : X) (xs : List X) → Among x xs → choice.Among x xs
choice_among x [] a = absurd a
choice_among x (y ∷ ys) (inl e) = inl e
choice_among x (y ∷ ys) (inr a) = inr (choice_among x ys a)

-- the VRFs of an edge
vrf_listed : (me : NodeId) (number k : ℕ) (vrfs : List Vrf) (vrf : Vrf) → slice_get vrfs k ≡ Some vrf → vrf.edge.0 ≡ me.0
    → Among (record { id = record { 0 = number + k }; vrf = vrf }) (vrfs_from me number vrfs)
vrf_listed me number k [] vrf e edge = absurd (none-some vrf e)
vrf_listed me number zero (own ∷ more) vrf e edge =
    let same : own ≡ vrf = same_Some own vrf e in
    let plain : number + 0 ≡ number = omega arith in
    let here : (own.edge.0 == me.0) ≡ true = eq-eqb own.edge.0 me.0 (ap (λ (v : Vrf). v.edge.0) same ∙ edge) in
    subst (λ (b : Bool). Among (record { id = record { 0 = number + 0 }; vrf = vrf })
    (cond b (record { id = record { 0 = number }; vrf = own } ∷ vrfs_from me (number + 1) more) (vrfs_from me (number + 1) more))) (sym here)
    (inl (λ i. record { id = record { 0 = plain i }; vrf = sym same i }))
vrf_listed me number (suc k) (own ∷ more) vrf e edge =
    let next : number + 1 + k ≡ number + suc k = omega arith in
    let rest = vrf_listed me (number + 1) k more vrf e edge in
    let later : Among (record { id = record { 0 = number + suc k }; vrf = vrf }) (vrfs_from me (number + 1) more) =
    subst (λ (m : ℕ). Among (record { id = record { 0 = m }; vrf = vrf }) (vrfs_from me (number + 1) more)) next rest in
    elim (own.edge.0 == me.0) as (λ b. Among (record { id = record { 0 = number + suc k }; vrf = vrf })
    (cond b (record { id = record { 0 = number }; vrf = own } ∷ vrfs_from me (number + 1) more) (vrfs_from me (number + 1) more)))
    [ true ↦ inr later | false ↦ later ]

pub own_among : (place : EdgePlace) (id : VrfId) (vrf : Vrf) → slice_get place.scenario.vrfs id.0 ≡ Some vrf → vrf.edge.0 ≡ place.me.0
    → Among (record { id = id; vrf = vrf }) (own_vrfs place)
own_among place id vrf e edge =
    subst (λ (m : ℕ). Among (record { id = record { 0 = m }; vrf = vrf }) (own_vrfs place)) (omega arith)
    (vrf_listed place.me 0 id.0 place.scenario.vrfs vrf e edge)

-- ---- which route is better

-- a longer route is better
longer : (cost : NodeId → ℕ) (own other : KnownRoute) → is_better cost own other ≡ false → own.prefix.bits ≤ other.prefix.bits
longer cost own other h = elim (cases_lt other.prefix.bits own.prefix.bits) [
  | inl less ↦
      let is : Less ≡ nat_cmp other.prefix.bits own.prefix.bits = nat_cmp_is other.prefix.bits own.prefix.bits Less less in
      absurd (true≢false (ap (λ o. is_lt (ordering_then o (choice.origin_cmp cost own.origin other.origin))) is ∙ h))
  | inr le ↦ le
]

-- of routes of one length a local one is better
nearer : (cost : NodeId → ℕ) (own other : KnownRoute) (site : SiteId) (edge : NodeId) (address : Addr) (rd : Rd) → own.prefix.bits ≡ other.prefix.bits
    → own.origin ≡ origins.Local site → other.origin ≡ origins.Remote edge address rd → is_better cost own other ≡ true
nearer cost own other site edge address rd e here there =
    let is : Equal ≡ nat_cmp other.prefix.bits own.prefix.bits = nat_cmp_is other.prefix.bits own.prefix.bits Equal (sym e) in
    (λ i. is_lt (ordering_then (sym is i) (choice.origin_cmp cost (here i) (there i))))

-- a VRF where a site is attached is of its VPN
pub attached_of : (scenario : Scenario) (id : VrfId) (vrf : VrfId) (site : SiteId) → same_vpn scenario vrf id ≡ true
    → is_attached_at scenario id site ≡ true → is_attached scenario vrf site ≡ true
attached_of scenario id vrf site vpn h =
    let f = any_among (λ (iface : Iface). is_of_site site iface && is_of_vrf id iface) scenario.ifaces h in
    let p = and_parts (is_of_site site f.0) (is_of_vrf id f.0) f.2 in
    let same : f.0.vrf.0 ≡ id.0 = eqb-true f.0.vrf.0 id.0 p.1 in
    any_from (λ (iface : Iface). is_of_site site iface && same_vpn scenario vrf iface.vrf) f.0 scenario.ifaces f.1
    (and_from (is_of_site site f.0) (same_vpn scenario vrf f.0.vrf) p.0 ((λ i. same_vpn scenario vrf (record { 0 = same i })) ∙ vpn))

module _ (scenario : Scenario) (cores : Cores) (world : World) (k : Known scenario cores world) where
  abbrev sc : Scenario
  sc = scenario_of world

  abbrev w : EdgeNetwork
  w = net scenario cores world k

  -- VRFs of one VPN, by their numbers
  pub vpn_ids : (place at : EdgePlace) (own other : OwnVrf) → place.scenario ≡ sc → at.scenario ≡ sc → Among own (own_vrfs place)
      → Among other (own_vrfs at) → AreOfOneVpn own other → same_vpn sc own.id other.id ≡ true
  vpn_ids place at own other e d a b vpn =
      (λ i. same (targets_at sc own.id own.vrf (ap (λ (s : Scenario). slice_get s.vrfs own.id.0) (sym e) ∙ own_at place own a) i)
      (targets_at sc other.id other.vrf (ap (λ (s : Scenario). slice_get s.vrfs other.id.0) (sym d) ∙ own_at at other b) i)) ∙ vpn

  -- ---- what a VRF knows

  -- a route of another edge
  pub record FromPeer (n : NodeId) (own : OwnVrf) (known : KnownRoute) (site : SiteId) : Type 0 where
    pub peer : NodeId
    pub edge : is_edge sc peer ≡ true
    pub two : peer ≢ n
    pub rd : Rd
    pub is : known.origin ≡ origins.Remote peer (addr_of sc peer) rd
    pub import : Import
    pub source_as : ℕ
    pub says : upstream_by (place_of w n) (w.node n) known ≡ Some (Remote peer rd import source_as)
    pub root : OwnVrf
    pub of_root : Among root (own_vrfs (place_of w peer))
    pub vpn : AreOfOneVpn root own
    pub named : rd ≡ root.vrf.rd
    pub attached : is_attached_at sc root.id site ≡ true

  -- a known route is one of the VPN: of a site attached at the VRF, or of one attached at a VRF of another edge
  pub record KnownIs (n : NodeId) (own : OwnVrf) (known : KnownRoute) : Type 0 where
    pub route : Route
    pub prefix : known.prefix ≡ route.prefix
    pub among : Among route (routes sc own.id)
    pub from : ((known.origin ≡ origins.Local route.site) × (is_attached_at sc own.id route.site ≡ true)) ⊎ FromPeer n own known route.site

  local_known : (n : NodeId) (own : OwnVrf) → Among own (own_vrfs (place_of w n)) → (known : KnownRoute)
      → Among known (map of_site (local_routes sc own.id)) → KnownIs n own known
  local_known n own a known b =
      let m = map_among of_site known (local_routes sc own.id) b in
      let r = route_of (is_attached_at sc own.id) 0 sc.sites m.0 m.1 in
      let vpn : same_vpn sc own.id own.id ≡ true = same_itself (targets_of sc own.id) in
      let origin : known.origin ≡ origins.Local m.0.site = ap (λ (x : KnownRoute). x.origin) m.2 in
      record {
        route = m.0;
        prefix = ap (λ (x : KnownRoute). x.prefix) m.2;
        among = other_test (is_attached_at sc own.id) (is_attached sc own.id) sc.sites m.0 m.1 (attached_of sc own.id own.id m.0.site vpn r.passed);
        from = inl (origin, r.passed);
      }

  -- what a peer holds for a unicast route
  record UnicastOf (p : NodeId) (rd : Rd) (prefix : Prefix) (value : Value) : Type 0 where
    root : OwnVrf
    of_root : Among root (own_vrfs (place_of w p))
    named : rd ≡ root.vrf.rd
    is : value ≡ unicast_value (place_of w p) root.vrf
    route : Route
    listed : Among route (local_routes sc root.id)
    alike : prefix ≡ route.prefix

  unicast_of : (p peer : NodeId) (rd : Rd) (prefix : Prefix) (value : Value) → IsHeld (place_of w p) (w.node p) peer (Unicast rd prefix, value)
      → UnicastOf p rd prefix value
  unicast_of p peer rd prefix value (OfInclusive own a e) = (let bad : 0 ≡ 1 = ap (λ (x : Key × Value). kind_of x.0) e in absurd (omega (arith, bad)))
  unicast_of p peer rd prefix value (OfSelective own a b) =
      (let bad : 0 ≡ 3 = selective_kind (place_of w p) (w.node p) own (Unicast rd prefix, value) b in absurd (omega (arith, bad)))
  unicast_of p peer rd prefix value (OfActive own a b) =
      (let bad : 0 ≡ 5 = active_kind (place_of w p) (w.node p) own (Unicast rd prefix, value) b in absurd (omega (arith, bad)))
  unicast_of p peer rd prefix value (OfJoin b) =
      (let bad : 0 ≡ 7 = join_kind (place_of w p) (w.node p) peer (Unicast rd prefix, value) b in absurd (omega (arith, bad)))
  unicast_of p peer rd prefix value (OfUnicast own a b) =
      let m = map_among (λ (route : Route). (Unicast own.vrf.rd route.prefix, unicast_value (place_of w p) own.vrf)) (Unicast rd prefix, value)
      (local_routes sc own.id) b in
      let keys : Unicast rd prefix ≡ Unicast own.vrf.rd m.0.prefix = ap (λ (x : Key × Value). x.0) m.2 in
      let rds : rd ≡ own.vrf.rd = cc in
      let prefixes : prefix ≡ m.0.prefix = cc in
      record { root = own; of_root = a; named = rds; is = ap (λ (x : Key × Value). x.1) m.2; route = m.0; listed = m.1; alike = prefixes }

  peer_known : (n : NodeId) → is_edge sc n ≡ true → (own : OwnVrf) → Among own (own_vrfs (place_of w n)) → (p : NodeId) (table : Taken)
      → Among (p, table) (maps.entries (w.node n).peers) → (key : Key) (taken : TakenRoute) → Among (key, taken) (maps.entries table)
      → (known : KnownRoute)
      → known_route (place_of w n) own.vrf p (key, taken) ≡ Some known → KnownIs n own known
  peer_known n h own a p table b (Mcast afi route) taken c known e = absurd (none-some known e)
  peer_known n h own a p table b (Unicast rd prefix) taken c known e =
      let control : Control = w.node n in
      let made : KnownRoute = record { prefix = prefix; origin = origins.Remote p (addr_of sc p) rd } in
      let first =
      chained (only_if (is_admitted own.vrf taken.value.comms) taken.value) (λ value. join_by (addr_of sc p) value >>? λ by. Some made) known e in
      let second = chained (join_by (addr_of sc p) first.0) (λ by. Some made) known first.2 in
      let one : made ≡ known = same_Some made known second.2 in
      let only = cond_some (is_admitted own.vrf taken.value.comms) taken.value first.0 first.1 in
      let got : maps.get control.peers p ≡ Some table = entry_get node_cmp_total control.peers p table b in
      let is = peer_is scenario cores world k n h p (ap (λ (o : Option Taken). is_some o) got) in
      let calm = calm_session scenario cores world k p n is.0 h is.1 in
      let at : maps.get (taken_from control p) (Unicast rd prefix) ≡ Some taken =
      ap (λ (t : Taken). maps.get t (Unicast rd prefix)) (taken_is control p table got) ∙ entry_get key_total table (Unicast rd prefix) taken c in
      let held = taken_held w p n (Unicast rd prefix) taken (rule scenario cores world k) calm at in
      let u = unicast_of p n rd prefix taken.value (is_held (place_of w p) (w.node p) n (Unicast rd prefix) taken.value held) in
      let vpn : AreOfOneVpn u.root own = admitted_unicast w p n u.root own taken.value k.rules u.of_root a u.is only.0 in
      let ids : same_vpn sc own.id u.root.id ≡ true =
      vpn_ids (place_of w n) (place_of w p) own u.root refl refl a u.of_root (same_back u.root.vrf.targets own.vrf.targets vpn) in
      let r = route_of (is_attached_at sc u.root.id) 0 sc.sites u.route u.listed in
      let value : taken.value ≡ first.0 = only.1 in
      let by : join_by (addr_of sc p) taken.value ≡ Some second.0 = ap (join_by (addr_of sc p)) value ∙ second.1 in
      let says : upstream_by (place_of w n) control made ≡ Some (Remote p rd second.0.import second.0.source_as) =
      ap (λ (o : Option TakenRoute). o >>? λ t. join_by (addr_of sc p) t.value >>? λ (b : JoinBy). Some (Remote p rd b.import b.source_as)) at
      ∙ ap (λ (o : Option JoinBy). o >>? λ (b : JoinBy). Some (Remote p rd b.import b.source_as)) by in
      record {
        route = u.route;
        prefix = ap (λ (x : KnownRoute). x.prefix) (sym one) ∙ u.alike;
        among = other_test (is_attached_at sc u.root.id) (is_attached sc own.id) sc.sites u.route u.listed
            (attached_of sc u.root.id own.id u.route.site ids r.passed);
        from = inr (record {
          peer = p;
          edge = is.0;
          two = is.1;
          rd = rd;
          is = ap (λ (x : KnownRoute). x.origin) (sym one);
          import =
              second.0.import;
          source_as = second.0.source_as;
          says = ap (upstream_by (place_of w n) control) (sym one) ∙ says;
          root = u.root;
          of_root =
              u.of_root;
          vpn = vpn;
          named = u.named;
          attached = r.passed;
        });
      }

  pub known_is : (n : NodeId) → is_edge sc n ≡ true → (own : OwnVrf) → Among own (own_vrfs (place_of w n)) → (known : KnownRoute)
      → Among known (known_routes (place_of w n) (w.node n) own) → KnownIs n own known
  known_is n h own a known b =
      elim (among_either known (map of_site (local_routes sc own.id)) (flat_map (known_from (place_of w n) own.vrf) (maps.entries (w.node n).peers))
      b) [
        | inl c ↦ local_known n own a known c
        | inr c ↦
            let peer = flat_map_among (known_from (place_of w n) own.vrf) known (maps.entries (w.node n).peers) c in
            let entry = found_among (known_route (place_of w n) own.vrf peer.0.0) known (maps.entries peer.0.1) peer.2 in
            peer_known n h own a peer.0.0 peer.0.1 peer.1 entry.0.0 entry.0.1 entry.1 known entry.2
      ]

  -- ---- each route of the VPN is known

  far_known : (n : NodeId) → is_edge sc n ≡ true → (own : OwnVrf) → Among own (own_vrfs (place_of w n)) → (f : NodeId) → is_edge sc f ≡ true → f ≢ n
      → (root : OwnVrf) → Among root (own_vrfs (place_of w f)) → AreOfOneVpn root own → (route : Route) → Among route (local_routes sc root.id)
      → (known : KnownRoute) × Among known (known_routes (place_of w n) (w.node n) own) × (known.prefix ≡ route.prefix)
  far_known n h own a f hf ne root b vpn route listed =
      let place : EdgePlace = place_of w f in
      let control : Control = w.node n in
      let calm = calm_session scenario cores world k f n hf h ne in
      let key : Key = Unicast root.vrf.rd route.prefix in
      let value : Value = unicast_value place root.vrf in
      let entry : Key × Value = (key, value) in
      let in_routes : Among entry (unicast_routes place root) =
      among_map (λ (r : Route). (Unicast root.vrf.rd r.prefix, unicast_value place root.vrf)) route (local_routes sc root.id) listed in
      let held =
      own_held place (w.node f) n root key value b
      (inr (among_front entry (unicast_routes place root) (selective_routes place (w.node f) root ++ active_routes place (w.node f) root)
      in_routes)) in
      let u = unicast_held place (w.node f) n root.vrf.rd route.prefix held.0 held.1 in
      let alike : root ≡ u.own = one_rd place root u.own k.rules b u.among u.distinguisher in
      let is : held.0 ≡ value = u.is ∙ ap (λ (o : OwnVrf). unicast_value place o.vrf) (sym alike) in
      let taken = held_taken w f n key held.0 (rule scenario cores world k) calm held.1 in
      let says : taken.0.value ≡ value = taken.2 ∙ is in
      let known : KnownRoute = record { prefix = route.prefix; origin = origins.Remote f (addr_of sc f) root.vrf.rd } in
      let admitted : is_admitted own.vrf value.comms ≡ true =
      vpn_admits root.vrf own.vrf (import_comm (own_import place root.vrf) ∷ source_as_comm sc.system ∷ []) (own_rules place root k.rules b).some
      vpn in
      let read : known_route (place_of w n) own.vrf f (key, taken.0) ≡ Some known =
      ap (λ (v : Value). only_if (is_admitted own.vrf v.comms) v >>? λ x. join_by (addr_of sc f) x >>? λ by. Some known) says
      ∙ ap (λ (o : Option Value). o >>? λ x. join_by (addr_of sc f) x >>? λ by. Some known) (passes (is_admitted own.vrf value.comms) value admitted)
      ∙ ap (λ (o : Option JoinBy). o >>? λ by. Some known) (joins_by place root k.rules b) in
      let table : Taken = taken_from control f in
      let here : Among known (known_from (place_of w n) own.vrf (f, table)) =
      among_found (known_route (place_of w n) own.vrf f) (key, taken.0) known (maps.entries table) (get_entry key_exact table key taken.0 taken.1)
      read in (
        known,
        among_after known (map of_site (local_routes sc own.id)) (flat_map (known_from (place_of w n) own.vrf) (maps.entries control.peers))
            (among_flat_map (known_from (place_of w n) own.vrf) (f, table) known (maps.entries control.peers)
            (among_peers control f (far_up w f n (rule scenario cores world k) calm)) here),
        refl,
      )

  pub all_known : (n : NodeId) → is_edge sc n ≡ true → (own : OwnVrf) → Among own (own_vrfs (place_of w n)) → (route : Route)
      → Among route (routes sc own.id) → (known : KnownRoute) × Among known (known_routes (place_of w n) (w.node n) own)
      × (known.prefix ≡ route.prefix)
  all_known n h own a route b =
      let r = route_of (is_attached sc own.id) 0 sc.sites route b in
      let i = attached sc own.id route.site r.passed in
      let fits = iface_rules_at sc k.rules i.place i.iface i.at in
      let vrf = element_at sc.vrfs i.iface.vrf.0 fits.vrf in
      let edge = (vrf_rules_at sc k.rules i.iface.vrf.0 vrf.0 vrf.1).edge in
      let f : NodeId = vrf.0.edge in
      let root : OwnVrf = record { id = i.iface.vrf; vrf = vrf.0 } in
      let is : is_edge sc f ≡ true = ap (λ (o : Option _). elim o [ None ↦ false | Some node ↦ node.edge ]) edge.at ∙ edge.edge in
      let listed : Among root (own_vrfs (place_of w f)) = own_among (place_of w f) i.iface.vrf vrf.0 vrf.1 refl in
      let here : is_attached_at sc root.id route.site ≡ true =
      any_from (λ (iface : Iface). is_of_site route.site iface && is_of_vrf root.id iface) i.iface sc.ifaces
      (among_at sc.ifaces i.place i.iface i.at) (and_from (is_of_site route.site i.iface) (is_of_vrf root.id i.iface)
      (eq-eqb i.iface.site.0 route.site.0 i.of) (eq-eqb i.iface.vrf.0 i.iface.vrf.0 refl)) in
      let near : Among route (local_routes sc root.id) = other_test (is_attached sc own.id) (is_attached_at sc root.id) sc.sites route b here in
      let vpn : AreOfOneVpn root own =
      same_back own.vrf.targets root.vrf.targets
      ((λ j. same (sym (targets_at sc own.id own.vrf (own_at (place_of w n) own a)) j) (sym (targets_at sc root.id root.vrf vrf.1) j)) ∙ i.vpn) in
      elim (node_cases f n) [
        | inl alike ↦
            let there : Among root (own_vrfs (place_of w n)) = subst (λ (m : NodeId). Among root (own_vrfs (place_of w m))) alike listed in
            let one : root ≡ own = one_vpn (place_of w n) root own k.rules there a vpn in
            let local : Among route (local_routes sc own.id) = subst (λ (o : OwnVrf). Among route (local_routes sc o.id)) one near in (
              of_site route,
              among_front (of_site route) (map of_site (local_routes sc own.id))
                  (flat_map (known_from (place_of w n) own.vrf) (maps.entries (w.node n).peers))
                  (among_map of_site route (local_routes sc own.id) local),
              refl,
            )
        | inr ne ↦ far_known n h own a f is ne root listed vpn route near
      ]

  -- ---- the upstream

  -- What a VRF chooses: nothing, where the source has no home; the home, where it is attached at the VRF; or an edge that has a VRF where
  -- the home is attached, where it is not attached at the VRF itself.
  pub data UpstreamIs (n : NodeId) (own : OwnVrf) (source : Addr) (up : Option Upstream) : Type 0 where
    IsNone : up ≡ None → home sc own.id source ≡ None → UpstreamIs n own source up
    IsNear : (site : SiteId) → up ≡ Some (Site site) → home sc own.id source ≡ Some site → is_attached_at sc own.id site ≡ true
        → UpstreamIs n own source up
    IsFar : (site : SiteId) (known : KnownRoute) (from : FromPeer n own known site) → up ≡ Some (Remote from.peer from.rd from.import from.source_as)
        → home sc own.id source ≡ Some site → is_attached_at sc own.id site ≡ false → UpstreamIs n own source up

  abbrev cost_at : NodeId → OwnVrf → Addr → Addr → NodeId → ℕ
  cost_at n own source group = costs_of (place_of w n) own (known_routes (place_of w n) (w.node n) own) source group

  by_best : (n : NodeId) → is_edge sc n ≡ true → (own : OwnVrf) → Among own (own_vrfs (place_of w n)) → (source group : Addr) (known : KnownRoute)
      → Best (cost_at n own source group) (known_routes (place_of w n) (w.node n) own) source known
      → UpstreamIs n own source (upstream_by (place_of w n) (w.node n) known)
  by_best n h own a source group known b =
      let place : EdgePlace = place_of w n in
      let control : Control = w.node n in
      let all = known_routes place control own in
      let is = known_is n h own a known (among_choice known all b.among) in
      let covering : covers is.route.prefix source ≡ true = ap (λ (p : Prefix). covers p source) (sym is.prefix) ∙ b.covering in
      let longest : (other : Route) → Among other (routes sc own.id) → covers other.prefix source ≡ true → other.prefix.bits ≤ is.route.prefix.bits =
      λ other c covers_it.
      let q = all_known n h own a other c in
      let le = longer (cost_at n own source group) q.0 known
      (b.best q.0 (choice_among q.0 all q.1) (ap (λ (p : Prefix). covers p source) q.2 ∙ covers_it)) in
      let bits : q.0.prefix.bits ≡ other.prefix.bits = ap (λ (p : Prefix). p.bits) q.2 in
      let own_bits : known.prefix.bits ≡ is.route.prefix.bits = ap (λ (p : Prefix). p.bits) is.prefix in
      omega (arith, le, bits, own_bits) in
      let at_home : home sc own.id source ≡ Some is.route.site = is_home sc k.rules k.octets own.id source is.route is.among covering longest in
      elim is.from [
        | inl near ↦ IsNear is.route.site (ap (λ (o : Origin). upstream_by place control (record { prefix = known.prefix; origin = o })) near.0)
            at_home near.1
        | inr far ↦ IsFar is.route.site known far far.says at_home (false_from_ne_true (is_attached_at sc own.id is.route.site) (λ t.
            let local : Among is.route (local_routes sc own.id) =
            other_test (is_attached sc own.id) (is_attached_at sc own.id) sc.sites is.route is.among t in
            let here : Among (of_site is.route) all =
            among_front (of_site is.route) (map of_site (local_routes sc own.id))
            (flat_map (known_from place own.vrf) (maps.entries control.peers)) (among_map of_site is.route (local_routes sc own.id) local) in
            let no_better = b.best (of_site is.route) (choice_among (of_site is.route) all here) covering in
            let better =
            nearer (cost_at n own source group) (of_site is.route) known is.route.site far.peer (addr_of sc far.peer) far.rd
            (ap (λ (p : Prefix). p.bits) (sym is.prefix)) refl far.is in
            true≢false (sym better ∙ no_better)))
      ]

  pub upstream_is : (n : NodeId) → is_edge sc n ≡ true → (own : OwnVrf) → Among own (own_vrfs (place_of w n)) → (source group : Addr)
      → UpstreamIs n own source (upstream_for (place_of w n) (w.node n) own source group)
  upstream_is n h own a source group =
      by (best_route (cost_at n own source group) (known_routes (place_of w n) (w.node n) own) source)
      (best (cost_at n own source group) (known_routes (place_of w n) (w.node n) own) source)
    where
      by : (o : Option KnownRoute) → BestIs (cost_at n own source group) (known_routes (place_of w n) (w.node n) own) source o
          → UpstreamIs n own source (o >>? upstream_by (place_of w n) (w.node n))
      by (Some known) b = by_best n h own a source group known b
      by None b =
          IsNone refl (no_home sc k.rules k.octets own.id source
          (λ route c. (let q = all_known n h own a route c in
          ap (λ (p : Prefix). covers p source) (sym q.2) ∙ b q.0 (choice_among q.0 (known_routes (place_of w n) (w.node n) own) q.1))))
