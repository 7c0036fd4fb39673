-- At a line of zeros a VRF knows that a source sends exactly where that is noted at some interface of its VPN.
use Rattle.std.proofs.Common.{◌≡◌, ◌≢◌, inl, inr, ℕ, ◌+◌, ◌++◌, Bool, true, false, [], map, slice_get, Option, Some, None, is_some, refl, sym, ap, subst, ◌∙◌, arith}
use Rattle.std.specs.Cmp.{both_ways, Equal-is}
use Rattle.std.specs.List.{flat_map, list_any}
use Rattle.std.specs.FinMap as maps
use Rattle.std.specs.FinSet as sets
use Rattle.std.specs.Ordering.{eq_by_cmp}
use Rattle.std.proofs.lemmas.Bool.{true≢false, and_from, eq-eqb, eqb-true}
use Rattle.std.proofs.lemmas.List.{append-nil}
use Rattle.std.proofs.lemmas.Option.{cond_some, none-some, same_Some}
use Rattle.mv_base.specs.Address.{same_addr, same_addr_equiv}
use Rattle.mv_base.specs.Number.{only_if}
use Rattle.mv_base.specs.declared.addr.Addr.{Addr}
use Rattle.mv_base.specs.declared.ids.IfaceId.{IfaceId}
use Rattle.mv_base.specs.declared.ids.NodeId.{NodeId}
use Rattle.mv_base.specs.declared.ids.VrfId.{VrfId}
use Rattle.mv_base.specs.declared.rd.Rd.{Rd}
use Rattle.bgp_values.specs.declared.mvpn_nlri.route.Afi.{Afi}
use Rattle.bgp_values.specs.declared.mvpn_nlri.route.Route.TheVariants as routes
use Rattle.bgp_messages.specs.declared.bgp_attributes.key.Key.{Key}
use Rattle.bgp_messages.specs.declared.bgp_attributes.key.Key.TheVariants.{Mcast}
use Rattle.mvpn_model.specs.Past as pasts
use Rattle.mvpn_model.specs.Past.{Past, is_noted, is_active_at}
use Rattle.mv_base.specs.route_targets.Targets.{same}
use Rattle.scenario_defs.specs.Vpn.{is_of_vrf, same_vpn, targets_of, ifaces_where}
use Rattle.scenario_defs.specs.declared.scenario.Iface.{Iface}
use Rattle.scenario_defs.specs.declared.scenario.Scenario.{Scenario}
use Rattle.scenario_defs.specs.declared.scenario.Vrf.{Vrf}
use Rattle.label_defs.proofs.KeyLemmas.{node_cmp_total, node_cases, ties}
use Rattle.label_defs.proofs.MemberLemmas.{contains_in_order}
use Rattle.label_defs.specs.Members.{in_order}
use Rattle.selective_defs.specs.Selective.{Among}
use Rattle.edge_defs.specs.Edge.{Note, note_cmp, TakenRoute, Taken, Control}
use Rattle.edge_defs.specs.Flows.{noted_flow, active_from, active_flows, same_flow, is_active}
use Rattle.edge_defs.specs.Imported.{FlowRoute, active_of, imported_active, taken_from, is_admitted}
use Rattle.edge_defs.specs.Keys.{Value}
use Rattle.bgp_messages.specs.bgp_update.Written.{afi_of}
use Rattle.edge_defs.specs.Originated.{is_iface_of, notes_of, active_key, plain_value, target_comms, unicast_routes, selective_routes, active_routes}
use Rattle.edge_defs.specs.Place.{EdgePlace, OwnVrf, own_vrfs}
use Rattle.network_defs.specs.Costs.{Cores}
use Rattle.edge_defs.proofs.KeyLemmas.{note_total, note_exact, key_total, key_exact}
use Rattle.edge_words.specs.edge_laws.Network.{EdgeNetwork, place_of}
use Rattle.edge_words.specs.calm_laws.Calm.{AreOfOneVpn}
use Rattle.edge_words.proofs.calm_laws.Entries.{IsHeld, OfInclusive, OfUnicast, OfSelective, OfActive, OfJoin, is_held, kind_of, unicast_kind, selective_kind, join_kind, own_held}
use Rattle.edge_words.proofs.calm_laws.Lists.{passes, among_front, among_after, among_either, among_map, map_among, among_flat_map, flat_map_among, filter_among, among_filter, any_from, any_among, among_found, found_among}
use Rattle.edge_words.proofs.calm_laws.Maps.{entry_get, get_entry}
use Rattle.edge_words.proofs.calm_laws.Tables.{taken_is, held_taken, taken_held, among_peers, far_up}
use Rattle.edge_words.proofs.calm_laws.Targets.{same_itself, same_back, shares_by, admitted_target, among_comms, vpn_admits}
use Rattle.edge_words.proofs.calm_laws.Upstreams.{chained}
use Rattle.edge_words.proofs.calm_laws.Vrfs.{own_at, own_edge, own_rules, one_rd, one_vpn, shared_vpn}
use Rattle.rule_laws.proofs.Vpns.{targets_at}
use Rattle.network_defs.specs.Nodes.{is_edge}
use Rattle.network_defs.specs.World.{World, scenario_of}
use Rattle.once_laws.specs.Told.{NotesAreTold}
use Rattle.once_laws.proofs.Behind.{Known}
use Rattle.once_laws.proofs.CalmFlows.{among_where, where_among, as_flow, peer_is}
use Rattle.once_laws.proofs.Choices.{own_among, vpn_ids}
use Rattle.once_laws.proofs.Edges.{net, rule, calm_session}
use Rattle.once_laws.proofs.Serves.{Here, here_of}

-- ---- notes of an edge

among_has : (notes : sets.FinSet note_cmp) (note : Note) → Among note (in_order notes) → sets.contains notes note ≡ true
among_has notes note a =
    contains_in_order note_total notes note ∙ any_from (eq_by_cmp note_cmp note) note (in_order notes) a (ties note_cmp note_total note note refl)

has_among : (notes : sets.FinSet note_cmp) (note : Note) → sets.contains notes note ≡ true → Among note (in_order notes)
has_among notes note h =
    let found = any_among (eq_by_cmp note_cmp note) (in_order notes) (sym (contains_in_order note_total notes note) ∙ h) in
    let one : note ≡ found.0 = note_exact note found.0 ((Equal-is (note_cmp note found.0)).0 found.2) in
    subst (λ (x : Note). Among x (in_order notes)) (sym one) found.1

-- ---- Source Active routes

-- a Source Active route of a VRF of the edge: what notes it, and which VRF
record ActiveOf (place : EdgePlace) (control : Control) (rd : Rd) (source group : Addr) (value : Value) : Type 0 where
  root : OwnVrf
  of_root : Among root (own_vrfs place)
  named : rd ≡ root.vrf.rd
  is : value ≡ plain_value place root.vrf
  iface : IfaceId
  own : is_iface_of place.scenario root.id iface ≡ true
  has : sets.contains control.notes (record { iface = iface; source = source; group = group }) ≡ true

active_held : (place : EdgePlace) (control : Control) (peer : NodeId) (afi : Afi) (rd : Rd) (source group : Addr) (value : Value)
    → IsHeld place control peer (Mcast afi (routes.Active rd source group), value) → ActiveOf place control rd source group value
active_held place control peer afi rd source group value (OfInclusive own a e) =
    (let bad : 5 ≡ 1 = ap (λ (x : Key × Value). kind_of x.0) e in absurd (omega (arith, bad)))
active_held place control peer afi rd source group value (OfUnicast own a b) =
    (let bad : 5 ≡ 0 = unicast_kind place own (Mcast afi (routes.Active rd source group), value) b in absurd (omega (arith, bad)))
active_held place control peer afi rd source group value (OfSelective own a b) =
    (let bad : 5 ≡ 3 = selective_kind place control own (Mcast afi (routes.Active rd source group), value) b in absurd (omega (arith, bad)))
active_held place control peer afi rd source group value (OfJoin b) =
    (let bad : 5 ≡ 7 = join_kind place control peer (Mcast afi (routes.Active rd source group), value) b in absurd (omega (arith, bad)))
active_held place control peer afi rd source group value (OfActive own a b) =
    let by = map_among (λ (note : Note). (active_key own.vrf note.source note.group, plain_value place own.vrf))
    (Mcast afi (routes.Active rd source group), value) (notes_of place control own.id) b in
    let note : Note = by.0 in
    let keys : Mcast afi (routes.Active rd source group) ≡ Mcast (afi_of note.source) (routes.Active own.vrf.rd note.source note.group) =
    ap (λ (x : Key × Value). x.0) by.2 in
    let rds : rd ≡ own.vrf.rd = cc in
    let sources : source ≡ note.source = cc in
    let groups : group ≡ note.group = cc in
    let f = filter_among (λ (x : Note). is_iface_of place.scenario own.id x.iface) note (in_order control.notes) by.1 in
    record {
      root = own;
      of_root = a;
      named = rds;
      is = ap (λ (x : Key × Value). x.1) by.2;
      iface = note.iface;
      own = f.1;
      has = (λ i. sets.contains control.notes (record { iface = note.iface; source = sources i; group = groups i }))
          ∙ among_has control.notes note f.0;
    }

-- a route of that flow
record IsActiveKey (key : Key) (flow : FlowRoute) : Type 0 where
  afi : Afi
  rd : Rd
  is : key ≡ Mcast afi (routes.Active rd flow.source flow.group)

active_flow : (key : Key) (flow : FlowRoute) → active_of key ≡ Some flow → IsActiveKey key flow
active_flow (Mcast afi (routes.Active rd source group)) flow e =
    let made : FlowRoute = record { source = source; group = group } in
    let one : made ≡ flow = same_Some made flow e in
    record { afi = afi; rd = rd; is = ap (λ (f : FlowRoute). Mcast afi (routes.Active rd f.source f.group)) one }
active_flow other flow e = absurd (none-some flow e)

own_flow : (source group : Addr) → same_flow source group (record { source = source; group = group }) ≡ true
own_flow source group = and_from (same_addr source source) (same_addr group group) (same_addr_equiv.refl source) (same_addr_equiv.refl group)

module _ (scenario : Scenario) (cores : Cores) (world : World) (k : Known scenario cores world) (past : Past)
    (of_past : past.scenario ≡ scenario_of world) (told : NotesAreTold past world) where
  abbrev sc : Scenario
  sc = scenario_of world

  abbrev w : EdgeNetwork
  w = net scenario cores world k

  -- ---- an interface of a VRF

  record OfVrf (iface : IfaceId) (own : OwnVrf) : Type 0 where
    here : Here sc iface
    id : here.found.vrf ≡ own.id

  of_vrf : (iface : IfaceId) (own : OwnVrf) → is_iface_of sc own.id iface ≡ true → OfVrf iface own
  of_vrf iface own h = by (slice_get sc.ifaces iface.0) refl h
    where
      by : (o : Option Iface) → slice_get sc.ifaces iface.0 ≡ o → elim o as (λ _. Bool) [ None ↦ false | Some found ↦ is_of_vrf own.id found ] ≡ true
          → OfVrf iface own
      by None e t = absurd (true≢false (sym t))
      by (Some found) e t =
          let here : Here sc iface = here_of sc k.rules iface found e in
          let one : here.found ≡ found = same_Some here.found found (sym here.at ∙ e) in
          let number : here.found.vrf.0 ≡ own.id.0 = ap (λ (f : Iface). f.vrf.0) one ∙ eqb-true found.vrf.0 own.id.0 t in
          record { here = here; id = λ i. record { 0 = number i } }

  -- its edge has the note that the events tell
  has_note : (n : NodeId) (own : OwnVrf) → Among own (own_vrfs (place_of w n)) → (iface : IfaceId) (source group : Addr) → OfVrf iface own
      → is_noted past iface source group ≡ sets.contains (w.node n).notes (record { iface = iface; source = source; group = group })
  has_note n own a iface source group o =
      let known : slice_get sc.vrfs own.id.0 ≡ Some o.here.vrf = ap (λ (id : VrfId). slice_get sc.vrfs id.0) (sym o.id) ∙ o.here.known in
      let vrf : o.here.vrf ≡ own.vrf = same_Some o.here.vrf own.vrf (sym known ∙ own_at (place_of w n) own a) in
      let number : o.here.vrf.edge.0 ≡ n.0 = ap (λ (v : Vrf). v.edge.0) vrf ∙ own_edge (place_of w n) own a in
      let edge : o.here.vrf.edge ≡ n = λ i. record { 0 = number i } in
      told iface n source group (o.here.of_edge ∙ ap (λ (m : NodeId). Some m) edge)

  -- ---- what a VRF knows is noted in its VPN

  noted_at : (id : VrfId) (root : OwnVrf) (iface : IfaceId) (source group : Addr) → same_vpn sc id root.id ≡ true → OfVrf iface root
      → is_noted past iface source group ≡ true → pasts.is_active past id source group ≡ true
  noted_at id root iface source group vpn o noted =
      let plain : (m : ℕ) → 0 + m ≡ m = λ m. omega arith in
      let number : IfaceId = record { 0 = 0 + iface.0 } in
      let own : number ≡ iface = λ i. record { 0 = plain iface.0 i } in
      let among : Among number (ifaces_where (λ number found. same_vpn sc id found.vrf) 0 sc.ifaces) =
      among_where (λ number found. same_vpn sc id found.vrf) 0 iface.0 sc.ifaces o.here.found o.here.at (ap (same_vpn sc id) o.id ∙ vpn) in
      ap (λ (s : Scenario). list_any (λ (x : IfaceId). is_noted past x source group)
      (ifaces_where (λ number found. same_vpn s id found.vrf) 0 s.ifaces)) of_past
      ∙ any_from (λ (x : IfaceId). is_noted past x source group) number (ifaces_where (λ number found. same_vpn sc id found.vrf) 0 sc.ifaces) among
      (ap (λ (x : IfaceId). is_noted past x source group) own ∙ noted)

  -- a VRF that admits a route without more communities is of the VPN of the one whose route it is
  admitted_plain : (root egress : NodeId) (root_vrf own : OwnVrf) (value : Value) → Among root_vrf (own_vrfs (place_of w root))
      → Among own (own_vrfs (place_of w egress)) → value ≡ plain_value (place_of w root) root_vrf.vrf → is_admitted own.vrf value.comms ≡ true
      → AreOfOneVpn root_vrf own
  admitted_plain root egress root_vrf own value a b e h =
      let t = admitted_target own.vrf value.comms h in
      let shared = among_comms root_vrf.vrf t.0 (subst (λ (v : Value). Among t.0.0 v.comms) e t.1) in
      shared_vpn (place_of w root) (place_of w egress) root_vrf own k.rules refl a b (shares_by root_vrf.vrf.targets own.vrf.targets t.0 shared t.2)

  by_peer : (n : NodeId) → is_edge sc n ≡ true → (own : OwnVrf) → Among own (own_vrfs (place_of w n))
      → (source group : Addr) (p : NodeId) (table : Taken) → Among (p, table) (maps.entries (w.node n).peers) → (key : Key) (taken : TakenRoute)
      → Among (key, taken) (maps.entries table)
      → imported_active own.vrf (key, taken) ≡ Some (record { source = source; group = group }) → pasts.is_active past own.id source group ≡ true
  by_peer n h own a source group p table b key taken c e =
      let control : Control = w.node n in
      let flow : FlowRoute = record { source = source; group = group } in
      let first = chained (active_of key) (λ f. only_if (is_admitted own.vrf taken.value.comms) f) flow e in
      let only = cond_some (is_admitted own.vrf taken.value.comms) first.0 flow first.2 in
      let named = active_flow key flow (first.1 ∙ ap (λ (f : FlowRoute). Some f) only.1) in
      let got : maps.get control.peers p ≡ Some table = entry_get node_cmp_total control.peers p table b in
      let is = peer_is scenario cores world k n h p (ap (λ (o : Option Taken). is_some o) got) in
      let calm = calm_session scenario cores world k p n is.0 h is.1 in
      let at : maps.get (taken_from control p) key ≡ Some taken =
      ap (λ (t : Taken). maps.get t key) (taken_is control p table got) ∙ entry_get key_total table key taken c in
      let held = taken_held w p n key taken (rule scenario cores world k) calm at in
      let found =
      active_held (place_of w p) (w.node p) n named.afi named.rd source group taken.value
      (subst (λ (x : Key). IsHeld (place_of w p) (w.node p) n (x, taken.value)) named.is
      (is_held (place_of w p) (w.node p) n key taken.value held)) in
      let vpn : AreOfOneVpn found.root own = admitted_plain p n found.root own taken.value found.of_root a found.is only.0 in
      let ids : same_vpn sc own.id found.root.id ≡ true =
      vpn_ids scenario cores world k (place_of w n) (place_of w p) own found.root refl refl a found.of_root
      (same_back found.root.vrf.targets own.vrf.targets vpn) in
      let o = of_vrf found.iface found.root found.own in
      noted_at own.id found.root found.iface source group ids o (has_note p found.root found.of_root found.iface source group o ∙ found.has)

  to_noted : (n : NodeId) → is_edge sc n ≡ true → (own : OwnVrf) → Among own (own_vrfs (place_of w n)) → (source group : Addr)
      → is_active (place_of w n) (w.node n) own source group ≡ true → pasts.is_active past own.id source group ≡ true
  to_noted n h own a source group t =
      let place : EdgePlace = place_of w n in
      let control : Control = w.node n in
      let flow : FlowRoute = record { source = source; group = group } in
      let found = any_among (same_flow source group) (active_flows place control own) t in
      let one : found.0 ≡ flow = as_flow source group found.0 found.2 in
      elim (among_either found.0 (map noted_flow (notes_of place control own.id)) (flat_map (active_from own) (maps.entries control.peers)) found.1) [
        | inl b ↦
            let m = map_among noted_flow found.0 (notes_of place control own.id) b in
            let note : Note = m.0 in
            let f = filter_among (λ (x : Note). is_iface_of sc own.id x.iface) note (in_order control.notes) m.1 in
            let flows : noted_flow note ≡ flow = sym m.2 ∙ one in
            let o = of_vrf note.iface own f.1 in
            noted_at own.id own note.iface source group (same_itself (targets_of sc own.id)) o
            (has_note n own a note.iface source group o
            ∙ (λ i. sets.contains control.notes (record { iface = note.iface; source = (sym flows i).source; group = (sym flows i).group }))
            ∙ among_has control.notes note f.0)
        | inr b ↦
            let peer = flat_map_among (active_from own) found.0 (maps.entries control.peers) b in
            let entry = found_among (imported_active own.vrf) found.0 (maps.entries peer.0.1) peer.2 in
            by_peer n h own a source group peer.0.0 peer.0.1 peer.1 entry.0.0 entry.0.1 entry.1 (entry.2 ∙ ap (λ (f : FlowRoute). Some f) one)
      ]

  -- ---- what is noted in its VPN a VRF knows

  known_flow : (n : NodeId) (own : OwnVrf) (source group : Addr)
      → Among (record { source = source; group = group }) (active_flows (place_of w n) (w.node n) own)
      → is_active (place_of w n) (w.node n) own source group ≡ true
  known_flow n own source group a =
      any_from (same_flow source group) (record { source = source; group = group }) (active_flows (place_of w n) (w.node n) own) a
      (own_flow source group)

  noted_among : (n : NodeId) (own : OwnVrf) (note : Note) → is_iface_of sc own.id note.iface ≡ true → sets.contains (w.node n).notes note ≡ true
      → Among note (notes_of (place_of w n) (w.node n) own.id)
  noted_among n own note of has =
      among_filter (λ (x : Note). is_iface_of sc own.id x.iface) note (in_order (w.node n).notes) of (has_among (w.node n).notes note has)

  near_active : (n : NodeId) (own : OwnVrf) (note : Note) → Among note (notes_of (place_of w n) (w.node n) own.id)
      → is_active (place_of w n) (w.node n) own note.source note.group ≡ true
  near_active n own note a =
      known_flow n own note.source note.group
      (among_front (noted_flow note) (map noted_flow (notes_of (place_of w n) (w.node n) own.id))
      (flat_map (active_from own) (maps.entries (w.node n).peers)) (among_map noted_flow note (notes_of (place_of w n) (w.node n) own.id) a))

  far_active : (n : NodeId) → is_edge sc n ≡ true → (own : OwnVrf) → Among own (own_vrfs (place_of w n)) → (f : NodeId) → is_edge sc f ≡ true → f ≢ n
      → (root : OwnVrf) → Among root (own_vrfs (place_of w f)) → AreOfOneVpn root own → (note : Note)
      → Among note (notes_of (place_of w f) (w.node f) root.id)
      → is_active (place_of w n) (w.node n) own note.source note.group ≡ true
  far_active n h own a f hf ne root b vpn note listed =
      let place : EdgePlace = place_of w f in
      let control : Control = w.node n in
      let flow : FlowRoute = noted_flow note in
      let calm = calm_session scenario cores world k f n hf h ne in
      let key : Key = active_key root.vrf note.source note.group in
      let value : Value = plain_value place root.vrf in
      let entry : Key × Value = (key, value) in
      let in_routes : Among entry (active_routes place (w.node f) root) =
      among_map (λ (x : Note). (active_key root.vrf x.source x.group, plain_value place root.vrf)) note (notes_of place (w.node f) root.id) listed
      in
      let held =
      own_held place (w.node f) n root key value b
      (inr (among_after entry (unicast_routes place root) (selective_routes place (w.node f) root ++ active_routes place (w.node f) root)
      (among_after entry (selective_routes place (w.node f) root) (active_routes place (w.node f) root) in_routes))) in
      let u = active_held place (w.node f) n (afi_of note.source) root.vrf.rd note.source note.group held.0
      (is_held place (w.node f) n key held.0 held.1) in
      let alike : root ≡ u.root = one_rd place root u.root k.rules b u.of_root u.named in
      let is : held.0 ≡ value = u.is ∙ ap (λ (o : OwnVrf). plain_value place o.vrf) (sym alike) in
      let taken = held_taken w f n key held.0 (rule scenario cores world k) calm held.1 in
      let says : taken.0.value ≡ value = taken.2 ∙ is in
      let admitted : is_admitted own.vrf value.comms ≡ true =
      ap (is_admitted own.vrf) (sym (append-nil (target_comms root.vrf)))
      ∙ vpn_admits root.vrf own.vrf [] (own_rules place root k.rules b).some vpn in
      let read : imported_active own.vrf (key, taken.0) ≡ Some flow =
      ap (λ (v : Value). only_if (is_admitted own.vrf v.comms) flow) says ∙ passes (is_admitted own.vrf value.comms) flow admitted in
      let table : Taken = taken_from control f in
      let here : Among flow (active_from own (f, table)) =
      among_found (imported_active own.vrf) (key, taken.0) flow (maps.entries table) (get_entry key_exact table key taken.0 taken.1) read in
      known_flow n own note.source note.group
      (among_after flow (map noted_flow (notes_of (place_of w n) control own.id)) (flat_map (active_from own) (maps.entries control.peers))
      (among_flat_map (active_from own) (f, table) flow (maps.entries control.peers)
      (among_peers control f (far_up w f n (rule scenario cores world k) calm)) here))

  of_noted : (n : NodeId) → is_edge sc n ≡ true → (own : OwnVrf) → Among own (own_vrfs (place_of w n)) → (source group : Addr)
      → pasts.is_active past own.id source group ≡ true → is_active (place_of w n) (w.node n) own source group ≡ true
  of_noted n h own a source group t =
      let test : IfaceId → Iface → Bool = λ number found. same_vpn sc own.id found.vrf in
      let here_too : list_any (λ (x : IfaceId). is_noted past x source group) (ifaces_where test 0 sc.ifaces) ≡ true =
      ap (λ (s : Scenario). list_any (λ (x : IfaceId). is_noted past x source group)
      (ifaces_where (λ number found. same_vpn s own.id found.vrf) 0 s.ifaces)) (sym of_past) ∙ t in
      let x = any_among (λ (x : IfaceId). is_noted past x source group) (ifaces_where test 0 sc.ifaces) here_too in
      let r = where_among test 0 sc.ifaces x.0 x.1 in
      let iface : IfaceId = x.0 in
      let place : iface.0 ≡ r.0 = (let e = r.3 in omega (arith, e)) in
      let at : slice_get sc.ifaces iface.0 ≡ Some r.1 = ap (slice_get sc.ifaces) place ∙ r.2 in
      let there : Here sc iface = here_of sc k.rules iface r.1 at in
      let f : NodeId = there.vrf.edge in
      let root : OwnVrf = record { id = there.found.vrf; vrf = there.vrf } in
      let listed : Among root (own_vrfs (place_of w f)) = own_among (place_of w f) there.found.vrf there.vrf there.known refl in
      let note : Note = record { iface = iface; source = source; group = group } in
      let of : is_iface_of sc root.id iface ≡ true =
      ap (λ (o : Option Iface). elim o as (λ _. Bool) [ None ↦ false | Some found ↦ is_of_vrf root.id found ]) there.at
      ∙ eq-eqb there.found.vrf.0 there.found.vrf.0 refl in
      let has : sets.contains (w.node f).notes note ≡ true = sym (told iface f source group there.of_edge) ∙ x.2 in
      let noted : Among note (notes_of (place_of w f) (w.node f) root.id) = noted_among f root note of has in
      let ids : same_vpn sc own.id root.id ≡ true =
      ap (λ (found : Iface). same_vpn sc own.id found.vrf) (same_Some there.found r.1 (sym there.at ∙ at)) ∙ r.4 in
      let vpn : AreOfOneVpn root own =
      same_back own.vrf.targets root.vrf.targets
      ((λ j. same (sym (targets_at sc own.id own.vrf (own_at (place_of w n) own a)) j) (sym (targets_at sc root.id root.vrf there.known) j))
      ∙ ids) in
      elim (node_cases f n) [
        | inl alike ↦
            let listed_there : Among root (own_vrfs (place_of w n)) = subst (λ (m : NodeId). Among root (own_vrfs (place_of w m))) alike listed in
            let one : root ≡ own = one_vpn (place_of w n) root own k.rules listed_there a vpn in
            let noted_there : Among note (notes_of (place_of w n) (w.node n) root.id) =
            subst (λ (m : NodeId). Among note (notes_of (place_of w m) (w.node m) root.id)) alike noted in
            near_active n own note (subst (λ (o : OwnVrf). Among note (notes_of (place_of w n) (w.node n) o.id)) one noted_there)
        | inr ne ↦ far_active n h own a f there.edge ne root listed vpn note noted
      ]

  -- A VRF of an edge knows that a source sends exactly where the events note it in the VRF's VPN.
  pub active_told : (n : NodeId) → is_edge sc n ≡ true → (own : OwnVrf) → Among own (own_vrfs (place_of w n)) → (source group : Addr)
      → pasts.is_active past own.id source group ≡ is_active (place_of w n) (w.node n) own source group
  active_told n h own a source group =
      both_ways (pasts.is_active past own.id source group) (is_active (place_of w n) (w.node n) own source group) (of_noted n h own a source group)
      (to_noted n h own a source group)

  -- the same, by an interface of the VRF
  pub active_at_told : (iface : IfaceId) (here : Here sc iface) (source group : Addr)
      → is_active_at past iface source group ≡ is_active (place_of w here.vrf.edge) (w.node here.vrf.edge)
      (record { id = here.found.vrf; vrf = here.vrf }) source group
  active_at_told iface here source group =
      let n : NodeId = here.vrf.edge in
      let own : OwnVrf = record { id = here.found.vrf; vrf = here.vrf } in
      ap (λ (o : Option Iface). elim o as (λ _. Bool) [ None ↦ false | Some found ↦ pasts.is_active past found.vrf source group ])
      (ap (λ (s : Scenario). slice_get s.ifaces iface.0) of_past ∙ here.at)
      ∙ active_told n here.edge own (own_among (place_of w n) here.found.vrf here.vrf here.known refl) source group
