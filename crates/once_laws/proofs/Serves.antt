-- Which VRFs serve an interface at a line of zeros.
use Rattle.std.proofs.Common.{◌≡◌, ◌≢◌, ℕ, ◌==◌, ◌&&◌, Bool, true, false, cond, slice_get, Option, Some, None, is_some, option_map, refl, sym, ap, subst, ◌∙◌}
use Rattle.std.specs.List.{list_any}
use Rattle.std.specs.FinMap as maps
use Rattle.std.specs.FinSet as sets
use Rattle.std.proofs.lemmas.Bool.{true≢false, and_parts, eq-eqb, eqb-true}
use Rattle.std.proofs.lemmas.Option.{none-some, same_Some}
use Rattle.mv_base.specs.declared.addr.Addr.{Addr}
use Rattle.mv_base.specs.declared.ids.IfaceId.{IfaceId}
use Rattle.mv_base.specs.declared.ids.NodeId.{NodeId}
use Rattle.mv_base.specs.declared.ids.SiteId.{SiteId}
use Rattle.mv_base.specs.declared.ids.VrfId.{VrfId}
use Rattle.mv_base.specs.declared.rd.Rd.{Rd}
use Rattle.mldp.specs.declared.mldp_fec.fec.Fec.{Fec}
use Rattle.scenario_defs.specs.Rules.{Rules}
use Rattle.scenario_defs.specs.Vpn.{is_of_vrf, edge_of}
use Rattle.scenario_defs.specs.declared.scenario.Iface.{Iface}
use Rattle.scenario_defs.specs.declared.scenario.Scenario.{Scenario}
use Rattle.scenario_defs.specs.declared.scenario.Vrf.{Vrf}
use Rattle.scenario_defs.proofs.RuleLemmas.{iface_rules_at, vrf_rules_at}
use Rattle.label_defs.proofs.KeyLemmas.{node_cmp_total, node_equal, node_itself}
use Rattle.selective_defs.specs.Selective.{Among, transmitted}
use Rattle.selective_defs.specs.declared.selection.Selection.{Selection}
use Rattle.edge_defs.specs.Datagrams.{is_from_site, is_from_edge, is_outside, is_imported_from}
use Rattle.edge_defs.specs.Edge.{Import, Upstream, Site, Remote, Taken}
use Rattle.edge_defs.specs.Flows.{is_asking}
use Rattle.edge_defs.specs.Place.{OwnVrf, own_vrfs, own_addr, addr_of, lsp, tunnel_number}
use Rattle.network_defs.specs.Costs.{Cores}
use Rattle.edge_defs.specs.Tunnels.{transmit_tunnel, is_joined_in, leaves, selections_of, number_by, tunnels_of}
use Rattle.edge_defs.specs.Upstream.{upstream_for}
use Rattle.edge_words.specs.edge_laws.Network.{EdgeNetwork, place_of}
use Rattle.edge_words.specs.calm_laws.Calm.{AreOfOneVpn}
use Rattle.edge_words.proofs.calm_laws.Leaves.{wants_inclusive, wants_selective}
use Rattle.edge_words.proofs.calm_laws.Lists.{any_among}
use Rattle.edge_words.proofs.calm_laws.Maps.{entry_get}
use Rattle.edge_words.proofs.calm_laws.Vrfs.{one_number, one_in_vpn}
use Rattle.rule_laws.proofs.Vpns.{one_addr, addr_at}
use Rattle.delivery_laws.specs.Choice.{serves_near, sends_on, serves_far, serves_by, serves_from, is_served}
use Rattle.delivery_laws.specs.Leaving.{passes, is_iface_of_vrf, asks_at, takes_from}
use Rattle.network_defs.specs.Nodes.{NodeState, is_edge, part_of}
use Rattle.network_defs.specs.Refusals.{control_of}
use Rattle.network_defs.specs.World.{World, Datagram, scenario_of}
use Rattle.once_laws.proofs.Behind.{Known}
use Rattle.once_laws.proofs.CalmFlows.{peer_is}
use Rattle.once_laws.proofs.Choices.{own_among}
use Rattle.once_laws.proofs.Edges.{net, rule, calm_session, calm_edge, none_due}
use Rattle.once_laws.proofs.Edges as edges
use Rattle.once_laws.proofs.Tunnels.{import_of, transmits_in_vpn}
use Rattle.mvpn_model.proofs.VpnLemmas.{element_at}

-- ---- an upstream

pub record FromSite (site : SiteId) (up : Option Upstream) : Type 0 where
  pub own : SiteId
  pub is : up ≡ Some (Site own)
  pub same : own.0 ≡ site.0

pub from_site : (site : SiteId) (up : Option Upstream) → is_from_site site up ≡ true → FromSite site up
from_site site (Some (Site own)) h = record { own = own; is = refl; same = eqb-true own.0 site.0 h }
from_site site (Some (Remote edge rd import source_as)) h = absurd (true≢false (sym h))
from_site site None h = absurd (true≢false (sym h))

pub record FromEdge (edge : NodeId) (up : Option Upstream) : Type 0 where
  pub rd : Rd
  pub import : Import
  pub source_as : ℕ
  pub is : up ≡ Some (Remote edge rd import source_as)

pub from_edge : (edge : NodeId) (up : Option Upstream) → is_from_edge edge up ≡ true → FromEdge edge up
from_edge edge (Some (Remote own rd import source_as)) h =
    record { rd = rd; import = import; source_as = source_as; is = ap (λ (e : NodeId). Some (Remote e rd import source_as)) (node_equal own edge h) }
from_edge edge (Some (Site own)) h = absurd (true≢false (sym h))
from_edge edge None h = absurd (true≢false (sym h))

-- ---- an interface, its VRF and its edge

pub record Here (scenario : Scenario) (iface : IfaceId) : Type 0 where
  pub found : Iface
  pub at : slice_get scenario.ifaces iface.0 ≡ Some found
  pub vrf : Vrf
  pub known : slice_get scenario.vrfs found.vrf.0 ≡ Some vrf
  pub edge : is_edge scenario vrf.edge ≡ true
  pub of_edge : edge_of scenario iface ≡ Some vrf.edge

pub vrf_edge : (scenario : Scenario) → Rules scenario → (id : ℕ) (vrf : Vrf) → slice_get scenario.vrfs id ≡ Some vrf
    → is_edge scenario vrf.edge ≡ true
vrf_edge scenario rules id vrf known =
    (let e = (vrf_rules_at scenario rules id vrf known).edge in ap (λ (o : Option _). elim o [ None ↦ false | Some node ↦ node.edge ]) e.at ∙ e.edge)

pub here_of : (scenario : Scenario) → Rules scenario → (iface : IfaceId) (found : Iface) → slice_get scenario.ifaces iface.0 ≡ Some found
    → Here scenario iface
here_of scenario rules iface found at =
    let vrf = element_at scenario.vrfs found.vrf.0 (iface_rules_at scenario rules iface.0 found at).vrf in
    record {
      found = found;
      at = at;
      vrf = vrf.0;
      known = vrf.1;
      edge = vrf_edge scenario rules found.vrf.0 vrf.0 vrf.1;
      of_edge =
          ap (λ (o : Option Iface). elim o as (λ _. Option NodeId)
          [ None ↦ None | Some f ↦ option_map (λ (v : Vrf). v.edge) (slice_get scenario.vrfs f.vrf.0) ]) at
          ∙ ap (option_map (λ (v : Vrf). v.edge)) vrf.1;
    }

module _ (scenario : Scenario) (cores : Cores) (world : World) (k : Known scenario cores world) (datagram : Datagram) (iface : IfaceId) where
  abbrev sc : Scenario
  sc = scenario_of world

  abbrev w : EdgeNetwork
  w = net scenario cores world k

  abbrev S : Addr
  S = datagram.source

  abbrev G : Addr
  G = datagram.group

  abbrev up_at : NodeId → OwnVrf → Option Upstream
  up_at n own = upstream_for (place_of w n) (w.node n) own S G

  -- whether the interface asks, at its edge
  abbrev asks_here : NodeId → OwnVrf → Bool
  asks_here n own = is_asking (place_of w n) w.clock (w.node n) own S G iface

  -- ---- the tests, by the network of edges

  pub near_is : (own : OwnVrf) → is_edge sc own.vrf.edge ≡ true
      → serves_near world.network datagram iface own (world.network.state.node own.vrf.edge)
      ≡ (is_from_site datagram.site (up_at own.vrf.edge own)
      && (asks_at (place_of w own.vrf.edge) w.clock (w.node own.vrf.edge) S G iface own && is_outside sc datagram.site iface))
  near_is own h =
      subst (λ (state : NodeState). serves_near world.network datagram iface own state
      ≡ (is_from_site datagram.site (upstream_for (place_of w own.vrf.edge) (control_of state) own S G)
      && (asks_at (place_of w own.vrf.edge) w.clock (control_of state) S G iface own && is_outside sc datagram.site iface)))
      (sym (calm_edge scenario cores world k own.vrf.edge h).at) refl

  pub sends_is : (own : OwnVrf) → is_edge sc own.vrf.edge ≡ true
      → sends_on world.network datagram own (world.network.state.node own.vrf.edge)
      ≡ cond (is_from_site datagram.site (up_at own.vrf.edge own) && is_joined_in (place_of w own.vrf.edge) (w.node own.vrf.edge) own S G)
      (Some (transmit_tunnel (place_of w own.vrf.edge) (w.node own.vrf.edge) own S G)) None
  sends_is own h =
      subst (λ (state : NodeState). sends_on world.network datagram own state
      ≡ cond (is_from_site datagram.site (upstream_for (place_of w own.vrf.edge) (control_of state) own S G)
      && is_joined_in (place_of w own.vrf.edge) (control_of state) own S G)
      (Some (transmit_tunnel (place_of w own.vrf.edge) (control_of state) own S G)) None)
      (sym (calm_edge scenario cores world k own.vrf.edge h).at) refl

  pub far_is : (fec : Fec) (n : NodeId) → is_edge sc n ≡ true
      → serves_far world.network datagram iface fec n (world.network.state.node n)
      ≡ (sets.contains (part_of (world.network.state.node n)).leaves fec
      && list_any (λ own. asks_at (place_of w n) w.clock (w.node n) S G iface own && takes_from (place_of w n) (w.node n) fec S G own)
      (own_vrfs (place_of w n)))
  far_is fec n h =
      subst (λ (state : NodeState). serves_far world.network datagram iface fec n state
      ≡ (sets.contains (part_of state).leaves fec && list_any
      (λ own. asks_at (place_of w n) w.clock (control_of state) S G iface own && takes_from (place_of w n) (control_of state) fec S G own)
      (own_vrfs (place_of w n))))
      (sym (calm_edge scenario cores world k n h).at) refl

  pub leaves_are : (n : NodeId) → is_edge sc n ≡ true → (part_of (world.network.state.node n)).leaves ≡ leaves (place_of w n) (w.node n)
  leaves_are n h =
      (let e = calm_edge scenario cores world k n h in
      subst (λ (state : NodeState). (part_of state).leaves ≡ leaves (place_of w n) (control_of state)) (sym e.at) e.fact.leaves)

  module _ (here : Here sc iface) where
    abbrev own : OwnVrf
    own = record { id = here.found.vrf; vrf = here.vrf }

    abbrev n : NodeId
    n = here.vrf.edge

    pub own_in : Among own (own_vrfs (place_of w n))
    own_in = own_among (place_of w n) here.found.vrf here.vrf here.known refl

    pub own_iface : is_iface_of_vrf sc iface own.id ≡ true
    own_iface = ap (λ (o : Option Iface). passes (is_of_vrf own.id) o) here.at ∙ eq-eqb here.found.vrf.0 here.found.vrf.0 refl

    -- a VRF that the interface is one of
    its_vrf : (id : VrfId) → is_iface_of_vrf sc iface id ≡ true → id.0 ≡ own.id.0
    its_vrf id h = sym (eqb-true here.found.vrf.0 id.0 (sym (ap (λ (o : Option Iface). passes (is_of_vrf id) o) here.at) ∙ h))

    -- ---- what serves

    -- The VRF that serves an interface: its own, whose upstream is the site; or one of the VPN at the edge that its own VRF has chosen.
    pub data ServedBy (id : VrfId) : Type 0 where
      ByNear : id.0 ≡ own.id.0 → FromSite datagram.site (up_at n own) → asks_here n own ≡ true → is_outside sc datagram.site iface ≡ true
          → ServedBy id
      ByFar : (vrf : Vrf) → slice_get sc.vrfs id.0 ≡ Some vrf → FromEdge vrf.edge (up_at n own) → vrf.edge ≢ n
          → AreOfOneVpn (record { id = id; vrf = vrf }) own → FromSite datagram.site (up_at vrf.edge (record { id = id; vrf = vrf }))
          → asks_here n own ≡ true → ServedBy id

    by_near : (id : VrfId) (vrf : Vrf) → slice_get sc.vrfs id.0 ≡ Some vrf → n ≡ vrf.edge
        → serves_near world.network datagram iface (record { id = id; vrf = vrf }) (world.network.state.node vrf.edge) ≡ true → ServedBy id
    by_near id vrf known at h =
        let other : OwnVrf = record { id = id; vrf = vrf } in
        let e = vrf.edge in
        let p = and_parts (is_from_site datagram.site (up_at e other))
        (asks_at (place_of w e) w.clock (w.node e) S G iface other && is_outside sc datagram.site iface)
        (sym (near_is other (vrf_edge sc k.rules id.0 vrf known)) ∙ h) in
        let q = and_parts (asks_at (place_of w e) w.clock (w.node e) S G iface other) (is_outside sc datagram.site iface) p.1 in
        let r = and_parts (is_iface_of_vrf sc iface id) (is_asking (place_of w e) w.clock (w.node e) other S G iface) q.0 in
        let same : id.0 ≡ own.id.0 = its_vrf id r.0 in
        let vrfs : vrf ≡ here.vrf = same_Some vrf here.vrf (sym known ∙ ap (slice_get sc.vrfs) same ∙ here.known) in
        let others : other ≡ own = λ i. record { id = record { 0 = same i }; vrf = vrfs i } in
        ByNear same (from_site datagram.site (up_at n own) (ap (λ (o : OwnVrf). is_from_site datagram.site (up_at o.vrf.edge o)) (sym others) ∙ p.0))
        (ap (λ (o : OwnVrf). asks_here o.vrf.edge o) (sym others) ∙ r.1) q.1

    by_far : (id : VrfId) (vrf : Vrf) → slice_get sc.vrfs id.0 ≡ Some vrf → vrf.edge ≢ n → (fec : Fec)
        → sends_on world.network datagram (record { id = id; vrf = vrf }) (world.network.state.node vrf.edge) ≡ Some fec
        → serves_far world.network datagram iface fec n (world.network.state.node n) ≡ true → ServedBy id
    by_far id vrf known apart fec sends h =
        let other : OwnVrf = record { id = id; vrf = vrf } in
        let e = vrf.edge in
        let e_edge = vrf_edge sc k.rules id.0 vrf known in
        let sent =
        sent_by (is_from_site datagram.site (up_at e other)) (is_joined_in (place_of w e) (w.node e) other S G)
        (sym (sends_is other e_edge) ∙ sends) in
        let p = and_parts (sets.contains (part_of (world.network.state.node n)).leaves fec)
        (list_any (λ own. asks_at (place_of w n) w.clock (w.node n) S G iface own && takes_from (place_of w n) (w.node n) fec S G own)
        (own_vrfs (place_of w n))) (sym (far_is fec n here.edge) ∙ h) in
        let x = any_among (λ own. asks_at (place_of w n) w.clock (w.node n) S G iface own && takes_from (place_of w n) (w.node n) fec S G own)
        (own_vrfs (place_of w n)) p.1 in
        let q = and_parts (asks_at (place_of w n) w.clock (w.node n) S G iface x.0) (takes_from (place_of w n) (w.node n) fec S G x.0) x.2 in
        let r = and_parts (is_iface_of_vrf sc iface x.0.id) (is_asking (place_of w n) w.clock (w.node n) x.0 S G iface) q.0 in
        let mine : x.0 ≡ own = one_number (place_of w n) x.0 own x.1 own_in (its_vrf x.0.id r.0) in
        let takes : takes_from (place_of w n) (w.node n) fec S G own ≡ true = ap (takes_from (place_of w n) (w.node n) fec S G) (sym mine) ∙ q.1 in
        let peer =
        any_among (λ (peer : NodeId × Taken). is_imported_from (place_of w n) own fec peer && is_from_edge peer.0 (up_at n own))
        (maps.entries (w.node n).peers) takes in
        let z = and_parts (is_imported_from (place_of w n) own fec peer.0) (is_from_edge peer.0.0 (up_at n own)) peer.2 in
        let i = import_of (place_of w n) own fec peer.0 z.0 in
        let got = entry_get node_cmp_total (w.node n).peers peer.0.0 peer.0.1 peer.1 in
        let is_peer = peer_is scenario cores world k n here.edge peer.0.0 (ap (λ (o : Option Taken). is_some o) got) in
        let roots : addr_of sc e ≡ addr_of sc peer.0.0 = ap (λ (f : Fec). f.root) sent.1 ∙ i.imports.root in
        let at_peer : e ≡ peer.0.0 = one_edge e peer.0.0 e_edge is_peer.0 roots in
        let tunnel : is_imported_from (place_of w n) own (transmit_tunnel (place_of w peer.0.0) (w.node peer.0.0) other S G) (peer.0.0, peer.0.1)
        ≡ true = ap (λ (m : NodeId). is_imported_from (place_of w n) own (transmit_tunnel (place_of w m) (w.node m) other S G) peer.0)
        (sym at_peer) ∙ ap (λ (f : Fec). is_imported_from (place_of w n) own f peer.0) sent.1 ∙ z.0 in
        let vpn = transmits_in_vpn scenario cores world k n own own_in peer.0.0 peer.0.1 peer.1 other known at_peer S G tunnel in
        ByFar vrf known (from_edge e (up_at n own) (ap (λ (m : NodeId). is_from_edge m (up_at n own)) at_peer ∙ z.1)) apart vpn
        (from_site datagram.site (up_at e other) sent.0) (ap (asks_here n) (sym mine) ∙ r.1)
      where
        sent_by : (a b : Bool) → cond (a && b) (Some (transmit_tunnel (place_of w vrf.edge) (w.node vrf.edge) (record { id = id; vrf = vrf }) S G))
            None ≡ Some fec → (a ≡ true) × (transmit_tunnel (place_of w vrf.edge) (w.node vrf.edge) (record { id = id; vrf = vrf }) S G ≡ fec)
        sent_by true true e = (refl, same_Some (transmit_tunnel (place_of w vrf.edge) (w.node vrf.edge) (record { id = id; vrf = vrf }) S G) fec e)
        sent_by true false e = absurd (none-some fec e)
        sent_by false b e = absurd (none-some fec e)

        one_edge : (a b : NodeId) → is_edge sc a ≡ true → is_edge sc b ≡ true → addr_of sc a ≡ addr_of sc b → a ≡ b
        one_edge a b ea eb same =
            let x = edges.edge_of sc a ea in
            let y = edges.edge_of sc b eb in
            let number : a.0 ≡ b.0 =
            one_addr sc k.rules a b x.node y.node x.at y.at (sym (addr_at sc a x.node x.at) ∙ same ∙ addr_at sc b y.node y.at) in
            λ i. record { 0 = number i }

    pub served_by : (id : VrfId) → is_served world.network datagram iface id ≡ true → ServedBy id
    served_by id h = by (slice_get sc.vrfs id.0) refl h
      where
        tests : (vrf : Vrf) → slice_get sc.vrfs id.0 ≡ Some vrf → (b : Bool) → (n.0 == vrf.edge.0) ≡ b → (o : Option Fec)
            → sends_on world.network datagram (record { id = id; vrf = vrf }) (world.network.state.node vrf.edge) ≡ o
            → cond b (serves_near world.network datagram iface (record { id = id; vrf = vrf }) (world.network.state.node vrf.edge))
            (elim o [ None ↦ false | Some fec ↦ serves_far world.network datagram iface fec n (world.network.state.node n) ]) ≡ true → ServedBy id
        tests vrf known true e o s t = by_near id vrf known (node_equal n vrf.edge e) t
        tests vrf known false e (Some fec) s t = by_far id vrf known (λ same. true≢false (sym (node_itself n vrf.edge (sym same)) ∙ e)) fec s t
        tests vrf known false e None s t = absurd (true≢false (sym t))

        by : (o : Option Vrf) → slice_get sc.vrfs id.0 ≡ o → serves_from world.network datagram iface id o ≡ true → ServedBy id
        by None e t = absurd (true≢false (sym t))
        by (Some vrf) e t =
            tests vrf e (n.0 == vrf.edge.0) refl (sends_on world.network datagram (record { id = id; vrf = vrf }) (world.network.state.node vrf.edge))
            refl
            (ap (λ (o : Option NodeId). serves_by world.network datagram iface (record { id = id; vrf = vrf }) o) (sym here.of_edge) ∙ t)

    -- ---- one VRF at most serves

    pub one_serves : (a b : VrfId) → ServedBy a → ServedBy b → a.0 ≡ b.0
    one_serves a b (ByNear e s asks out) (ByNear f t asks_too out_too) = e ∙ sym f
    one_serves a b (ByNear e s asks out) (ByFar vrf known from apart vpn t asks_too) = absurd (clash (sym s.is ∙ from.is))
      where
        clash : ◌≡◌ {A = Option Upstream} (Some (Site s.own)) (Some (Remote vrf.edge from.rd from.import from.source_as)) → ⊥
        clash x = absurd cc
    one_serves a b (ByFar vrf known from apart vpn t asks) (ByNear f s asks_too out) = absurd (clash (sym s.is ∙ from.is))
      where
        clash : ◌≡◌ {A = Option Upstream} (Some (Site s.own)) (Some (Remote vrf.edge from.rd from.import from.source_as)) → ⊥
        clash x = absurd cc
    one_serves a b (ByFar vrf known from apart vpn t asks) (ByFar other other_known other_from other_apart other_vpn u asks_too) =
        let both : Some (Remote vrf.edge from.rd from.import from.source_as)
        ≡ Some (Remote other.edge other_from.rd other_from.import other_from.source_as) = sym from.is ∙ other_from.is in
        let edges : vrf.edge ≡ other.edge = cc in
        let mine : OwnVrf = record { id = a; vrf = vrf } in
        let theirs : OwnVrf = record { id = b; vrf = other } in
        let one : mine ≡ theirs =
        one_in_vpn (place_of w vrf.edge) mine theirs here.vrf k.rules (own_among (place_of w vrf.edge) a vrf known refl)
        (own_among (place_of w vrf.edge) b other other_known (ap (λ (e : NodeId). e.0) (sym edges))) vpn other_vpn in
        ap (λ (o : OwnVrf). o.id.0) one

    -- ---- a receiver is served

    -- the tunnel of a flow is imported from its root
    pub imported : (f : NodeId) → is_edge sc f ≡ true → f ≢ n → (rd : Rd) (import : Import) (source_as : ℕ) (root : OwnVrf)
        → Among root (own_vrfs (place_of w f)) → AreOfOneVpn root own
        → maps.get (w.node n).flows (record { vrf = own.id; source = S; group = G }) ≡ Some (Some (Remote f rd import source_as))
        → Among (transmit_tunnel (place_of w f) (w.node f) root S G) (tunnels_of (place_of w n) (w.node n) own)
    imported f hf ne rd import source_as root a vpn flow = by (transmitted (selections_of (w.node f) root.id) S G) refl
      where
        by : (o : Option Selection) → transmitted (selections_of (w.node f) root.id) S G ≡ o
            → Among (lsp (own_addr (place_of w f)) (tunnel_number root.vrf (number_by o))) (tunnels_of (place_of w n) (w.node n) own)
        by None e = wants_inclusive w f n root own (rule scenario cores world k) (calm_session scenario cores world k f n hf here.edge ne) a vpn
        by (Some selection) e =
            wants_selective w f n root own (record { vrf = own.id; source = S; group = G }) rd import source_as selection
            (rule scenario cores world k) (calm_session scenario cores world k f n hf here.edge ne) (none_due scenario cores world k f hf) a
            own_in vpn refl flow e
