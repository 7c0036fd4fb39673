-- An interface at which a datagram leaves is one whose VRF admits the sender's.
use Rattle.std.specs.Prelude.{find}
use Rattle.std.proofs.Common.{◌≡◌, ◌+◌, ◌&&◌, ℕ, suc, Bool, true, false, cond, inl, inr, filter, flat_map, slice_get, List, [], ◌∷◌, option_map, Option, Some, None, refl, sym, ap, subst, ◌∙◌, arith}
use Rattle.std.specs.List.{AllByRecursion}
use Rattle.std.specs.FinMap as maps
use Rattle.std.specs.FinSet as sets
use Rattle.std.proofs.lemmas.Bool.{and_parts, eqb-true, eq-eqb, cases_order}
use Rattle.std.proofs.lemmas.Option.{same_Some, none-some}
use Rattle.mv_base.specs.Number.{◌>>?◌, only_if}
use Rattle.mv_base.specs.Address.{same_addr}
use Rattle.mv_base.specs.declared.addr.Addr.{Addr}
use Rattle.mv_base.specs.declared.ids.IfaceId.{IfaceId}
use Rattle.mv_base.specs.declared.ids.NodeId.{NodeId}
use Rattle.mv_base.specs.declared.ids.SiteId.{SiteId}
use Rattle.mv_base.specs.declared.ids.VrfId.{VrfId}
use Rattle.mv_base.proofs.CutLemmas.{if_some}
use Rattle.mldp.specs.declared.mldp_fec.fec.Fec.{Fec}
use Rattle.bgp_messages.specs.declared.bgp_attributes.key.Key.{Key}
use Rattle.mv_base.specs.route_targets.Targets.{same, shares}
use Rattle.scenario_defs.proofs.RuleLemmas.{vrf_rules_at, apart_at, iface_rules_at}
use Rattle.scenario_defs.specs.Rules.{Rules}
use Rattle.scenario_defs.specs.Vpn.{targets_of, same_vpn, is_of_site, is_of_vrf, vrf_of_site, is_attached_at, ifaces_where}
use Rattle.scenario_defs.specs.declared.scenario.Iface.{Iface}
use Rattle.scenario_defs.specs.declared.scenario.Scenario.{Scenario}
use Rattle.scenario_defs.specs.declared.scenario.Vrf.{Vrf}
use Rattle.selective_defs.specs.Selective.{Among}
use Rattle.label_defs.proofs.KeyLemmas.{same_fec_equal}
use Rattle.label_defs.proofs.SettleLemmas.{bind_some}
use Rattle.mvpn_model.proofs.ListLemmas.{passes-from_find, any-from_at}
use Rattle.mvpn_model.proofs.VpnLemmas.{EntersAt, enters-at, vpn_of_site, admits-vpn, admits-entered}
use Rattle.mvpn_model.specs.Safe.{IsAdmitted}
use Rattle.edge_words.proofs.calm_laws.Lists.{any_among}
use Rattle.edge_words.proofs.calm_laws.Maps.{entry_get}
use Rattle.edge_words.proofs.calm_laws.Tables.{peer_table}
use Rattle.edge_words.proofs.calm_laws.Targets.{same_itself, same_back, same_through, shares_by, shares_back, admitted_target, among_comms}
use Rattle.edge_words.proofs.calm_laws.Vrfs.{own_at, not_apart}
use Rattle.edge_defs.proofs.KeyLemmas.{key_total}
use Rattle.edge_defs.specs.Datagrams.{is_tunnel, selective_fec, is_route_of, is_imported_from, is_from_edge, is_outside, outs_from, outs_at, outs_of}
use Rattle.edge_defs.specs.Edge.{TakenRoute, Taken, Control, EdgeData}
use Rattle.edge_defs.specs.Flows.{asking_ifaces, is_asking, ifaces_of}
use Rattle.edge_defs.specs.Imported.{is_admitted, lsp_of, tunnel_by, inclusive_of, selective_of, taken_from, imported_inclusive, ImportedSelective, imported_selective}
use Rattle.edge_defs.specs.Keys.{Value}
use Rattle.edge_defs.specs.Originated.{target_comms}
use Rattle.edge_defs.specs.Place.{EdgePlace, OwnVrf, addr_of, own_vrfs, lsp, tunnel_number}
use Rattle.edge_defs.specs.Upstream.{upstream_for}
use Rattle.network_defs.specs.LabelRule.{IsTunnelOf, IsTunnelFor}
use Rattle.network_defs.specs.Nodes.{place_of}
use Rattle.network_defs.specs.World.{World, Datagram, scenario_of}
use Rattle.network_laws.proofs.Lists.{each_flat, each_filter, each_weaker}
use Rattle.mv_base.specs.declared.route_targets.communities.Target.{Target}
use Rattle.rule_laws.specs.Labels.{is_own_tunnel}
use Rattle.rule_laws.specs.Honest.{HonestValue}
use Rattle.rule_laws.proofs.Vpns.{targets_at, own_passes, own_tunnel, one_vrf}

-- ---- lists

pub all_of_among : {X : Type 0} (P : X → Type 0) (xs : List X) → ((x : X) → Among x xs → P x) → AllByRecursion P xs
all_of_among P [] h = tt
all_of_among P (x ∷ xs) h = (h x (inl refl), all_of_among P xs (λ y a. h y (inr a)))

-- the interface is one of the VRF
abbrev pub IsIfaceOf : Scenario → VrfId → IfaceId → Type 0
IsIfaceOf scenario id iface = (own : Iface) × (slice_get scenario.ifaces iface.0 ≡ Some own) × (own.vrf.0 ≡ id.0)

ifaces_from : (scenario : Scenario) (id : VrfId) (number : ℕ) (ifaces : List Iface)
    → ((k : ℕ) (iface : Iface) → slice_get ifaces k ≡ Some iface → slice_get scenario.ifaces (number + k) ≡ Some iface)
    → AllByRecursion (IsIfaceOf scenario id) (ifaces_where (λ number iface. is_of_vrf id iface) number ifaces)
ifaces_from scenario id number [] at = tt
ifaces_from scenario id number (iface ∷ more) at =
    let here : slice_get scenario.ifaces number ≡ Some iface = ap (slice_get scenario.ifaces) (omega arith) ∙ at 0 iface refl in
    let rest = ifaces_from scenario id (number + 1) more (λ k one e. ap (slice_get scenario.ifaces) (omega arith) ∙ at (suc k) one e) in
    elim (is_of_vrf id iface) as (λ b. is_of_vrf id iface ≡ b
    → AllByRecursion (IsIfaceOf scenario id) (cond b (record { 0 = number } ∷ ifaces_where (λ n own. is_of_vrf id own) (number + 1) more)
    (ifaces_where (λ n own. is_of_vrf id own) (number + 1) more))) [
      | true ↦ λ e. ((iface, here, eqb-true iface.vrf.0 id.0 e), rest)
      | false ↦ λ e. rest
    ] refl

pub asking_are : (place : EdgePlace) (now : ℕ) (control : Control) (own : OwnVrf) (source group : Addr)
    → AllByRecursion (IsIfaceOf place.scenario own.id) (asking_ifaces place now control own source group)
asking_are place now control own source group =
    each_filter (IsIfaceOf place.scenario own.id) (is_asking place now control own source group) (ifaces_of place own)
    (ifaces_from place.scenario own.id 0 place.scenario.ifaces (λ k iface e. ap (slice_get place.scenario.ifaces) (omega arith) ∙ e))

-- ---- a datagram that enters

entering_iface : (scenario : Scenario) → Rules scenario → (id : VrfId) (site : SiteId) → is_attached_at scenario id site ≡ true → (iface : IfaceId)
    → IsIfaceOf scenario id iface → IsAdmitted scenario iface site
entering_iface scenario rules id site attached iface (own, known, of) =
    let is : EntersAt scenario site id = enters-at scenario site id attached in
    record {
      own = own;
      known = known;
      attached = any-from_at (is_of_site site) scenario.ifaces is.place is.iface is.at (eq-eqb is.iface.site.0 site.0 is.of_site);
      admitted = λ i other at s. admits-entered scenario rules site id is own.vrf of i other at (eqb-true other.site.0 site.0 s);
    }

pub entering_outs : (place : EdgePlace) → Rules place.scenario → (now : ℕ) (control : Control) (own : OwnVrf) (site : SiteId) (source group : Addr)
    → is_attached_at place.scenario own.id site ≡ true
    → AllByRecursion (λ (iface : IfaceId). IsAdmitted place.scenario iface site)
    (filter (is_outside place.scenario site) (asking_ifaces place now control own source group))
entering_outs place rules now control own site source group attached =
    each_filter (λ (iface : IfaceId). IsAdmitted place.scenario iface site) (is_outside place.scenario site)
    (asking_ifaces place now control own source group)
    (each_weaker (IsIfaceOf place.scenario own.id) (λ iface. IsAdmitted place.scenario iface site)
    (λ iface is. entering_iface place.scenario rules own.id site attached iface is) (asking_ifaces place now control own source group)
    (asking_are place now control own source group))

-- ---- what a VRF imports

-- a route of the tunnel that the VRF admits
record Imports (vrf : Vrf) (fec : Fec) (value : Value) : Type 0 where
  pub admitted : is_admitted vrf value.comms ≡ true
  pub tunnel : lsp_of value.pmsi ≡ Some fec

by_tunnel : (vrf : Vrf) (peer originator : Addr) (own value : Value) (fec : Fec) → only_if (is_admitted vrf own.comms) own ≡ Some value
    → tunnel_by peer originator value ≡ Some fec → Imports vrf fec own
by_tunnel vrf peer originator own value fec a e =
    let x = if_some (is_admitted vrf own.comms) own value a in
    let y = bind_some (lsp_of value.pmsi) (λ found. only_if (same_addr found.root peer && same_addr originator peer) found) fec e in
    let z = if_some (same_addr y.0.root peer && same_addr originator peer) y.0 fec y.2 in
    record { admitted = x.0; tunnel = ap (λ (v : Value). lsp_of v.pmsi) x.1 ∙ y.1 ∙ ap (λ (f : Fec). Some f) z.1 }

inclusive_imports : (vrf : Vrf) (peer : Addr) (entry : Key × TakenRoute) (fec : Fec) → imported_inclusive vrf peer entry ≡ Some fec
    → Imports vrf fec entry.1.value
inclusive_imports vrf peer entry fec e =
    let value : Value = entry.1.value in
    let x = bind_some (inclusive_of entry.0) (λ originator. only_if (is_admitted vrf value.comms) value >>? λ found. tunnel_by peer originator found)
    fec e in
    let y = bind_some (only_if (is_admitted vrf value.comms) value) (λ found. tunnel_by peer x.0 found) fec x.2 in
    by_tunnel vrf peer x.0 value y.0 fec y.1 y.2

selective_imports : (vrf : Vrf) (peer : Addr) (entry : Key × TakenRoute) (imported : ImportedSelective)
    → imported_selective vrf peer entry ≡ Some imported → Imports vrf imported.fec entry.1.value
selective_imports vrf peer entry imported e =
    let value : Value = entry.1.value in
    let x = bind_some (selective_of entry.0) (λ route. only_if (is_admitted vrf value.comms) value >>? λ found. tunnel_by peer route.originator found
    >>? λ fec. Some (record { route = route; fec = fec })) imported e in
    let y = bind_some (only_if (is_admitted vrf value.comms) value)
    (λ found. tunnel_by peer x.0.originator found >>? λ fec. Some (record { route = x.0; fec = fec })) imported x.2 in
    let z = bind_some (tunnel_by peer x.0.originator y.0) (λ fec. Some (record { route = x.0; fec = fec })) imported y.2 in
    let same : z.0 ≡ imported.fec = ap (λ (i : ImportedSelective). i.fec) (same_Some (record { route = x.0; fec = z.0 }) imported z.2) in
    subst (λ (f : Fec). Imports vrf f value) same (by_tunnel vrf peer x.0.originator value y.0 z.0 y.1 z.1)

is_one : (vrf : Vrf) (fec : Fec) (value : Value) (o : Option Fec) → ((own : Fec) → o ≡ Some own → Imports vrf own value) → is_tunnel fec o ≡ true
    → Imports vrf fec value
is_one vrf fec value None h e = absurd cc
is_one vrf fec value (Some own) h e = subst (λ (f : Fec). Imports vrf f value) (same_fec_equal own fec e) (h own refl)

route_imports : (place : EdgePlace) (own : OwnVrf) (peer : NodeId) (fec : Fec) (entry : Key × TakenRoute)
    → is_route_of place own peer fec entry ≡ true → Imports own.vrf fec entry.1.value
route_imports place own peer fec entry e = by (is_tunnel fec (imported_inclusive own.vrf addr entry)) refl e
  where
    addr : Addr
    addr = addr_of place.scenario peer

    selected : (o : Option ImportedSelective) → imported_selective own.vrf (addr_of place.scenario peer) entry ≡ o → (f : Fec)
        → selective_fec o ≡ Some f → Imports own.vrf f entry.1.value
    selected None is f h = absurd (none-some f h)
    selected (Some imported) is f h =
        subst (λ (g : Fec). Imports own.vrf g entry.1.value) (same_Some imported.fec f h)
        (selective_imports own.vrf (addr_of place.scenario peer) entry imported is)

    by : (b : Bool) → is_tunnel fec (imported_inclusive own.vrf (addr_of place.scenario peer) entry) ≡ b
        → cond b true (is_tunnel fec (selective_fec (imported_selective own.vrf (addr_of place.scenario peer) entry))) ≡ true
        → Imports own.vrf fec entry.1.value
    by true t h = is_one own.vrf fec entry.1.value (imported_inclusive own.vrf addr entry) (λ f is. inclusive_imports own.vrf addr entry f is) t
    by false t h =
        is_one own.vrf fec entry.1.value (selective_fec (imported_selective own.vrf addr entry))
        (λ f is. selected (imported_selective own.vrf addr entry) refl f is) h

-- ---- VPNs

-- VRFs that share a target have the same ones
sharing : (scenario : Scenario) → Rules scenario → (i j : ℕ) (vrf other : Vrf) → slice_get scenario.vrfs i ≡ Some vrf
    → slice_get scenario.vrfs j ≡ Some other → shares vrf.targets other.targets ≡ true → same vrf.targets other.targets ≡ true
sharing scenario rules i j vrf other at there h = elim (cases_order i j) [
  | inl one ↦ (let both : vrf ≡ other = same_Some vrf other (sym at ∙ ap (slice_get scenario.vrfs) one ∙ there) in
      subst (λ (v : Vrf). same vrf.targets v.targets ≡ true) both (same_itself vrf.targets))
  | inr (inl less) ↦ not_apart vrf other (apart_at scenario rules i j vrf other less at there) h
  | inr (inr more) ↦ same_back other.targets vrf.targets
      (not_apart other vrf (apart_at scenario rules j i other vrf more there at) (shares_back vrf.targets other.targets h))
]

-- the first interface of a site
record SiteIface (scenario : Scenario) (site : SiteId) (vpn : VrfId) : Type 0 where
  pub place : ℕ
  pub iface : Iface
  pub at : slice_get scenario.ifaces place ≡ Some iface
  pub of_site : is_of_site site iface ≡ true
  pub vrf : iface.vrf ≡ vpn

site_iface : (scenario : Scenario) (site : SiteId) (vpn : VrfId) → vrf_of_site scenario site ≡ Some vpn → SiteIface scenario site vpn
site_iface scenario site vpn e = by (find (is_of_site site) scenario.ifaces) refl e
  where
    by : (o : Option Iface) → find (is_of_site site) scenario.ifaces ≡ o → option_map (λ (iface : Iface). iface.vrf) o ≡ Some vpn
        → SiteIface scenario site vpn
    by None is h = absurd (none-some vpn h)
    by (Some first) is h =
        (let p = passes-from_find (is_of_site site) scenario.ifaces first is in
        record { place = p.0; iface = first; at = p.1; of_site = p.2; vrf = same_Some first.vrf vpn h })

-- A VRF that imports an honest route of a tunnel for a datagram admits the sender's VRFs.
landing_iface : (world : World) (number : ℕ) (fec : Fec) (own : OwnVrf) (peer : NodeId) (value : Value) → Rules (scenario_of world)
    → slice_get (scenario_of world).vrfs own.id.0 ≡ Some own.vrf → Imports own.vrf fec value → HonestValue (scenario_of world) peer value
    → (t : IsTunnelFor world number fec) → (iface : IfaceId) → IsIfaceOf (scenario_of world) own.id iface
    → IsAdmitted (scenario_of world) iface t.datagram.site
landing_iface world number fec own peer value rules at imports honest t iface (of_iface, known, of) =
    let scenario : Scenario = scenario_of world in
    let route = honest fec imports.tunnel in
    let tunnel : IsTunnelOf scenario t.vpn fec = t.tunnel in
    let root : route.vrf.edge ≡ peer = ap (λ (n : ℕ). record { 0 = n }) route.at_root in
    let said : fec ≡ lsp (addr_of scenario route.vrf.edge) (tunnel_number route.vrf route.number) =
    route.tunnel ∙ ap (λ (n : NodeId). lsp (addr_of scenario n) (tunnel_number route.vrf route.number)) (sym root) in
    let first =
    own_tunnel scenario fec route.vrf (ap (λ (f : Fec). is_own_tunnel scenario f route.vrf) said
    ∙ own_passes scenario route.vrf route.number (vrf_rules_at scenario rules route.id.0 route.vrf route.known).number.1 route.small) in
    let second =
    own_tunnel scenario fec tunnel.vrf (ap (λ (f : Fec). is_own_tunnel scenario f tunnel.vrf) tunnel.is_lsp
    ∙ own_passes scenario tunnel.vrf tunnel.number (vrf_rules_at scenario rules tunnel.id.0 tunnel.vrf tunnel.known).number.1 tunnel.own) in
    let one : route.id.0 ≡ tunnel.id.0 =
    one_vrf scenario rules fec route.id.0 tunnel.id.0 route.vrf tunnel.vrf route.known tunnel.known first second in
    let one_is : route.vrf ≡ tunnel.vrf = same_Some route.vrf tunnel.vrf (sym route.known ∙ ap (slice_get scenario.vrfs) one ∙ tunnel.known) in
    let target = admitted_target own.vrf value.comms imports.admitted in
    let of_route : Among target.0.0 (target_comms route.vrf) = subst (Among target.0.0) route.targets target.1 in
    let shared : shares own.vrf.targets route.vrf.targets ≡ true =
    shares_by own.vrf.targets route.vrf.targets target.0 target.2 (among_comms route.vrf target.0 of_route) in
    let vpn : same own.vrf.targets tunnel.vrf.targets ≡ true =
    ap (λ (v : Vrf). same own.vrf.targets v.targets) (sym one_is)
    ∙ sharing scenario rules own.id.0 route.id.0 own.vrf route.vrf at route.known shared in
    let member : same (targets_of scenario t.vpn) tunnel.vrf.targets ≡ true =
    sym (ap (same (targets_of scenario t.vpn)) (targets_at scenario tunnel.id tunnel.vrf tunnel.known)) ∙ tunnel.member in
    let own_vpn : same own.vrf.targets (targets_of scenario t.vpn) ≡ true =
    same_through own.vrf.targets tunnel.vrf.targets (targets_of scenario t.vpn) vpn
    (same_back (targets_of scenario t.vpn) tunnel.vrf.targets member) in
    let found = site_iface scenario t.datagram.site t.vpn t.of_site in
    let ids : of_iface.vrf ≡ own.id = ap (λ (n : ℕ). record { 0 = n }) of in
    record {
      own = of_iface;
      known = known;
      attached = any-from_at (is_of_site t.datagram.site) scenario.ifaces found.place found.iface found.at found.of_site;
      admitted = λ i other there s.
          let both : same_vpn scenario found.iface.vrf other.vrf ≡ true =
          vpn_of_site scenario rules found.place i found.iface other found.at there
          (eqb-true found.iface.site.0 t.datagram.site.0 found.of_site ∙ sym (eqb-true other.site.0 t.datagram.site.0 s)) in
          let from : same (targets_of scenario t.vpn) (targets_of scenario other.vrf) ≡ true =
          ap (λ (v : VrfId). same (targets_of scenario v) (targets_of scenario other.vrf)) (sym found.vrf) ∙ both in
          let whole : same (targets_of scenario of_iface.vrf) (targets_of scenario other.vrf) ≡ true =
          ap (λ (ts : List Target). same ts (targets_of scenario other.vrf)) (ap (targets_of scenario) ids ∙ targets_at scenario own.id own.vrf at)
          ∙ same_through own.vrf.targets (targets_of scenario t.vpn) (targets_of scenario other.vrf) own_vpn from in
          admits-vpn scenario rules of_iface.vrf other.vrf (iface_rules_at scenario rules iface.0 of_iface known).vrf whole;
    }

-- ---- a copy that lands

abbrev OutsOk : World → Datagram → List IfaceId → Type 0
OutsOk world datagram outs = AllByRecursion (λ (iface : IfaceId). IsAdmitted (scenario_of world) iface datagram.site) outs

-- each value of the tables that an edge took is what its peer may say
abbrev pub HonestControl : Scenario → Control → Type 0
HonestControl scenario control =
    (a : NodeId) (key : Key) (route : TakenRoute) → maps.get (taken_from control a) key ≡ Some route → HonestValue scenario a route.value

pub landing_outs : (world : World) (n : NodeId) (now : ℕ) (edge : EdgeData) (number : ℕ) (fec : Fec) (source group : Addr) → Rules (scenario_of world)
    → HonestControl (scenario_of world) edge.control → (t : IsTunnelFor world number fec)
    → OutsOk world t.datagram (outs_of (place_of world.network.state n) now edge fec source group)
landing_outs world n now edge number fec source group rules honest t = by (sets.contains edge.part.leaves fec)
  where
    place : EdgePlace
    place = place_of world.network.state n

    P : IfaceId → Type 0
    P iface = IsAdmitted (scenario_of world) iface t.datagram.site

    from_peer : (own : OwnVrf) → Among own (own_vrfs (place_of world.network.state n)) → (peer : NodeId × Taken)
        → Among peer (maps.entries edge.control.peers)
        → AllByRecursion (λ (iface : IfaceId). IsAdmitted (scenario_of world) iface t.datagram.site)
        (outs_from (place_of world.network.state n) now edge.control own fec source group peer)
    from_peer own a peer b =
        at (is_imported_from (place_of world.network.state n) own fec peer
        && is_from_edge peer.0 (upstream_for (place_of world.network.state n) edge.control own source group)) refl
      where
        at : (c : Bool) → (is_imported_from (place_of world.network.state n) own fec peer
            && is_from_edge peer.0 (upstream_for (place_of world.network.state n) edge.control own source group)) ≡ c
            → AllByRecursion (λ (iface : IfaceId). IsAdmitted (scenario_of world) iface t.datagram.site)
            (cond c (asking_ifaces (place_of world.network.state n) now edge.control own source group) [])
        at false e = tt
        at true e =
            let imported =
            (and_parts (is_imported_from place own fec peer) (is_from_edge peer.0 (upstream_for place edge.control own source group)) e).0 in
            let entry = any_among (is_route_of place own peer.0 fec) (maps.entries peer.1) imported in
            let table : taken_from edge.control peer.0 ≡ peer.1 = peer_table edge.control peer.0 peer.1 b in
            let held : maps.get (taken_from edge.control peer.0) entry.0.0 ≡ Some entry.0.1 =
            ap (λ (m : Taken). maps.get m entry.0.0) table ∙ entry_get key_total peer.1 entry.0.0 entry.0.1 entry.1 in
            each_weaker (IsIfaceOf (scenario_of world) own.id) (λ (iface : IfaceId). IsAdmitted (scenario_of world) iface t.datagram.site)
            (λ iface is. landing_iface world number fec own peer.0 entry.0.1.value rules (own_at place own a)
            (route_imports place own peer.0 fec entry.0 entry.2) (honest peer.0 entry.0.0 entry.0.1 held) t iface is)
            (asking_ifaces place now edge.control own source group) (asking_are place now edge.control own source group)

    by : (b : Bool) → AllByRecursion (λ (iface : IfaceId). IsAdmitted (scenario_of world) iface t.datagram.site)
        (cond b (flat_map (outs_at (place_of world.network.state n) now edge.control fec source group) (own_vrfs (place_of world.network.state n)))
        [])
    by false = tt
    by true =
        each_flat (λ (iface : IfaceId). IsAdmitted (scenario_of world) iface t.datagram.site) (outs_at place now edge.control fec source group)
        (own_vrfs place)
        (all_of_among (λ (own : OwnVrf). AllByRecursion (λ (iface : IfaceId). IsAdmitted (scenario_of world) iface t.datagram.site)
        (outs_at place now edge.control fec source group own)) (own_vrfs place) (λ own a.
        each_flat (λ (iface : IfaceId). IsAdmitted (scenario_of world) iface t.datagram.site) (outs_from place now edge.control own fec source group)
        (maps.entries edge.control.peers)
        (all_of_among (λ (peer : NodeId × Taken). AllByRecursion (λ (iface : IfaceId). IsAdmitted (scenario_of world) iface t.datagram.site)
        (outs_from place now edge.control own fec source group peer)) (maps.entries edge.control.peers) (λ peer b. from_peer own a peer b))))
