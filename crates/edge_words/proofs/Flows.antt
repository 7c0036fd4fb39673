-- The flows of an edge are those that some interface asks for.
use Rattle.std.proofs.Common.{◌≡◌, ◌↔◌, ℕ, ◌&&◌, ◌||◌, Bool, true, false, cond, not, ◌⊎◌, inl, inr, List, map, Option, Some, None, refl, sym, ap, subst, ◌∙◌}
use Rattle.std.specs.List.{filter, flat_map}
use Rattle.std.specs.FinMap as maps
use Rattle.std.specs.FinSet as sets
use Rattle.std.proofs.lemmas.Bool.{and_from}
use Rattle.std.proofs.lemmas.Option.{cond_some}
use Rattle.mv_base.specs.Address.{same_addr, same_addr_equiv}
use Rattle.mv_base.specs.Number.{◌>>?◌, only_if}
use Rattle.mv_base.specs.declared.addr.Addr.{Addr}
use Rattle.mv_base.specs.declared.ids.IfaceId.{IfaceId}
use Rattle.mv_base.specs.declared.ids.VrfId.{VrfId}
use Rattle.edge_defs.specs.pim_defs.Entries.{expiry_at}
use Rattle.edge_defs.specs.pim_defs.Expiry.{counts}
use Rattle.edge_defs.specs.pim_defs.declared.expiry.Expiry.{Expiry}
use Rattle.edge_defs.proofs.pim_defs.KeyLemmas.{entry_cmp_exact}
use Rattle.scenario_defs.specs.declared.event.IfaceEntry.{IfaceEntry}
use Rattle.scenario_defs.specs.declared.event.JoinEntry.TheVariants as entries
use Rattle.label_defs.specs.Members.{in_order}
use Rattle.selective_defs.specs.Selective.{Among}
use Rattle.edge_defs.specs.Edge.{Note, VrfFlow, Upstream, Control}
use Rattle.edge_defs.specs.Flows.{noted_flow, active_from, active_flows, same_flow, is_active, is_asking, ifaces_of, is_flow, joined_by, possible_flows, with_upstream, vrf_flows, flows_at}
use Rattle.edge_defs.specs.Imported.{FlowRoute, found_in, active_of, is_admitted, imported_active}
use Rattle.edge_defs.specs.Originated.{is_iface_of, notes_of}
use Rattle.edge_defs.specs.Place.{EdgePlace, OwnVrf, own_vrfs}
use Rattle.edge_defs.specs.Upstream.{upstream_for}
use Rattle.edge_defs.proofs.KeyLemmas.{note_total, note_exact, flow_total, flow_exact}
use Rattle.edge_words.proofs.calm_laws.Lists.{passes, among_front, among_after, among_either, among_map, map_among, among_flat_map, flat_map_among, filter_among, among_filter, any_from, any_among, among_found, found_among}
use Rattle.edge_words.proofs.calm_laws.Maps.{some_found, found_stands, get_entry}
use Rattle.edge_words.proofs.calm_laws.Upstreams.{chained}
use Rattle.edge_words.proofs.calm_laws.Vrfs.{one_number}
use Rattle.edge_words.specs.Asked.{IsIfaceOf, IsNoted, IsTold, IsKnown, Asks, IsAsked}
use Rattle.edge_words.proofs.Members.{listed, contained, taken_of, table_of, iface_of, of_iface, ifaces_from, ifaces_to, one_flow}

abbrev flow : Addr → Addr → FlowRoute
flow source group = record { source = source; group = group }

-- ---- sources that are known to send

module _ (place : EdgePlace) (control : Control) (own : OwnVrf) where
  is_noted : (source group : Addr) → Among (flow source group) (map noted_flow (notes_of place control own.id))
      → IsNoted place control own source group
  is_noted source group a =
      let by = map_among noted_flow (flow source group) (notes_of place control own.id) a in
      let test = filter_among (λ (note : Note). is_iface_of place.scenario own.id note.iface) by.0 (in_order control.notes) by.1 in
      let same : by.0 ≡ record { iface = by.0.iface; source = source; group = group } =
      λ i. record { iface = by.0.iface; source = (sym by.2 i).source; group = (sym by.2 i).group } in
      record {
        iface = by.0.iface;
        of_vrf = iface_of place.scenario own.id by.0.iface test.1;
        noted = ap (sets.contains control.notes) (sym same) ∙ contained note_total note_exact control.notes by.0 test.0;
      }

  noted_is : (source group : Addr) → IsNoted place control own source group
      → Among (flow source group) (map noted_flow (notes_of place control own.id))
  noted_is source group is =
      let note : Note = record { iface = is.iface; source = source; group = group } in
      among_map noted_flow note (notes_of place control own.id)
      (among_filter (λ (n : Note). is_iface_of place.scenario own.id n.iface) note (in_order control.notes)
      (of_iface place.scenario own.id is.iface is.of_vrf)
      (listed note_total note_exact control.notes note is.noted))

  is_told : (source group : Addr) → Among (flow source group) (flat_map (active_from own) (maps.entries control.peers))
      → IsTold control own source group
  is_told source group a =
      let peer = flat_map_among (active_from own) (flow source group) (maps.entries control.peers) a in
      let found = found_among (imported_active own.vrf) (flow source group) (maps.entries peer.0.1) peer.2 in
      let read =
      chained (active_of found.0.0) (λ (f : FlowRoute). only_if (is_admitted own.vrf found.0.1.value.comms) f) (flow source group) found.2 in
      let admitted = cond_some (is_admitted own.vrf found.0.1.value.comms) read.0 (flow source group) read.2 in
      record {
        peer = peer.0.0;
        key = found.0.0;
        route = found.0.1;
        taken = taken_of control peer.0.0 peer.0.1 found.0.0 found.0.1 peer.1 found.1;
        active = read.1 ∙ ap (λ (f : FlowRoute). Some f) admitted.1;
        admitted = admitted.0;
      }

  told_is : (source group : Addr) → IsTold control own source group
      → Among (flow source group) (flat_map (active_from own) (maps.entries control.peers))
  told_is source group is =
      let t = table_of control is.peer is.key is.route is.taken in
      among_flat_map (active_from own) (is.peer, t.table) (flow source group) (maps.entries control.peers) t.of_peer
      (among_found (imported_active own.vrf) (is.key, is.route) (flow source group) (maps.entries t.table) t.among
      (ap (λ (o : Option FlowRoute). o >>? λ f. only_if (is_admitted own.vrf is.route.value.comms) f) is.active
      ∙ passes (is_admitted own.vrf is.route.value.comms) (flow source group) is.admitted))

  among_active : (source group : Addr) → IsKnown place control own source group → Among (flow source group) (active_flows place control own)
  among_active source group (inl is) =
      among_front (flow source group) (map noted_flow (notes_of place control own.id)) (flat_map (active_from own) (maps.entries control.peers))
      (noted_is source group is)
  among_active source group (inr is) =
      among_after (flow source group) (map noted_flow (notes_of place control own.id)) (flat_map (active_from own) (maps.entries control.peers))
      (told_is source group is)

  pub is_known : (source group : Addr) → is_active place control own source group ≡ true → IsKnown place control own source group
  is_known source group h =
      let found = any_among (same_flow source group) (active_flows place control own) h in
      let here = subst (λ (f : FlowRoute). Among f (active_flows place control own)) (one_flow source group found.0 found.2) found.1 in
      elim (among_either (flow source group) (map noted_flow (notes_of place control own.id))
      (flat_map (active_from own) (maps.entries control.peers)) here) [
        | inl a ↦ inl (is_noted source group a)
        | inr a ↦ inr (is_told source group a)
      ]

  pub known_is : (source group : Addr) → IsKnown place control own source group → is_active place control own source group ≡ true
  known_is source group is =
      any_from (same_flow source group) (flow source group) (active_flows place control own) (among_active source group is)
      (and_from (same_addr source source) (same_addr group group) (same_addr_equiv.refl source) (same_addr_equiv.refl group))

-- ---- what an interface asks for

asks_words : (a b c d : Bool) → (a || (b && not c && d)) ≡ true → (a ≡ true) ⊎ ((b ≡ true) × (c ≡ true → ⊥) × (d ≡ true))
asks_words true b c d h = inl refl
asks_words false true false true h = inr (refl, (λ e. absurd cc), refl)
asks_words false true false false h = absurd cc
asks_words false true true d h = absurd cc
asks_words false false c d h = absurd cc

words_ask : (a b c d : Bool) → (a ≡ true) ⊎ ((b ≡ true) × (c ≡ true → ⊥) × (d ≡ true)) → (a || (b && not c && d)) ≡ true
words_ask true b c d h = refl
words_ask false b c d (inl h) = absurd cc
words_ask false true false true (inr h) = refl
words_ask false true false false (inr h) = h.2
words_ask false true true d (inr h) = absurd (h.1 refl)
words_ask false false c d (inr h) = absurd (let bad = h.0 in cc)

module _ (place : EdgePlace) (now : ℕ) (control : Control) (own : OwnVrf) (source group : Addr) (iface : IfaceId) where
  abbrev joined : Bool
  joined = counts now (expiry_at control.entries iface (entries.Source source group))

  abbrev shared : Bool
  shared = counts now (expiry_at control.entries iface (entries.Star group))

  abbrev pruned : Bool
  pruned = counts now (expiry_at control.entries iface (entries.Rpt source group))

  abbrev active : Bool
  active = is_active place control own source group

  pub asks_is : is_asking place now control own source group iface ≡ true → Asks place now control own source group iface
  asks_is h = elim (asks_words joined shared pruned active h) [
    | inl own_join ↦ inl own_join
    | inr tree ↦ inr (tree.0, tree.1, is_known place control own source group tree.2)
  ]

  pub is_asks : Asks place now control own source group iface → is_asking place now control own source group iface ≡ true
  is_asks (inl own_join) = words_ask joined shared pruned active (inl own_join)
  is_asks (inr tree) = words_ask joined shared pruned active (inr (tree.0, tree.1, known_is place control own source group tree.2))

-- ---- flows

some_expiry : (now : ℕ) (o : Option Expiry) → counts now o ≡ true → (expiry : Expiry) × (o ≡ Some expiry)
some_expiry now None h = absurd cc
some_expiry now (Some expiry) h = (expiry, refl)

module _ (place : EdgePlace) (now : ℕ) (control : Control) where
  possible : (own : OwnVrf) (source group : Addr) (iface : IfaceId) → IsIfaceOf place.scenario own.id iface
      → Asks place now control own source group iface
      → Among (flow source group) (possible_flows place control own)
  possible own source group iface at (inl own_join) =
      let key : IfaceEntry = record { iface = iface; entry = entries.Source source group } in
      let expiry = some_expiry now (maps.get control.entries key) own_join in
      let listed =
      among_map (λ (e : IfaceEntry × Expiry). e.0) (key, expiry.0) (maps.entries control.entries)
      (get_entry entry_cmp_exact control.entries key expiry.0 expiry.1) in
      among_front (flow source group) (found_in (joined_by place own) (maps.keys control.entries)) (active_flows place control own)
      (among_found (joined_by place own) key (flow source group) (maps.keys control.entries) listed
      (ap (λ (b : Bool). cond b (Some (flow source group)) None) (of_iface place.scenario own.id iface at)))
  possible own source group iface at (inr tree) =
      among_after (flow source group) (found_in (joined_by place own) (maps.keys control.entries)) (active_flows place control own)
      (among_active place control own source group tree.2)

  abbrev all : List (VrfFlow × Option Upstream)
  all = flat_map (vrf_flows place now control) (own_vrfs place)

  made : (own : OwnVrf) (route : FlowRoute) (key : VrfFlow) (up : Option Upstream) → Among own (own_vrfs place)
      → is_flow place now control own route ≡ true
      → (key, up) ≡ with_upstream place control own route → IsAsked place now control key up
  made own route key up a h e =
      let found = any_among (is_asking place now control own route.source route.group) (ifaces_of place own) h in
      let keys : key ≡ record { vrf = own.id; source = route.source; group = route.group } = ap (λ (x : VrfFlow × Option Upstream). x.0) e in
      record {
        own = own;
        of_edge = a;
        of_flow = ap (λ (f : VrfFlow). f.vrf) (sym keys);
        iface = found.0;
        of_vrf = ifaces_from place.scenario own.id found.0 found.1;
        asks = subst (λ (f : VrfFlow). Asks place now control own f.source f.group found.0) (sym keys)
            (asks_is place now control own route.source route.group found.0 found.2);
        choice = ap (λ (x : VrfFlow × Option Upstream). x.1) e ∙ ap (λ (f : VrfFlow). upstream_for place control own f.source f.group) (sym keys);
      }

  of_list : (key : VrfFlow) (up : Option Upstream) → Among (key, up) all → IsAsked place now control key up
  of_list key up a =
      let own = flat_map_among (vrf_flows place now control) (key, up) (own_vrfs place) a in
      let route =
      map_among (with_upstream place control own.0) (key, up) (filter (is_flow place now control own.0) (possible_flows place control own.0))
      own.2 in
      let test = filter_among (is_flow place now control own.0) route.0 (possible_flows place control own.0) route.1 in
      made own.0 route.0 key up own.1 test.1 route.2

  pub is_asked : (key : VrfFlow) (up : Option Upstream) → maps.get (flows_at place now control) key ≡ Some up → IsAsked place now control key up
  is_asked key up h = of_list key up (found_stands flow_exact key up all (sym (maps.get-from_entries flow_total all key) ∙ h))

  in_list : (key : VrfFlow) (up : Option Upstream) → IsAsked place now control key up
      → (found : Option Upstream) × (maps.get (flows_at place now control) key ≡ Some found)
  in_list key up is =
      let route : FlowRoute = flow key.source key.group in
      let entry : VrfFlow × Option Upstream = with_upstream place control is.own route in
      let test : is_flow place now control is.own route ≡ true =
      any_from (is_asking place now control is.own key.source key.group) is.iface (ifaces_of place is.own)
      (ifaces_to place.scenario is.own.id is.iface is.of_vrf)
      (is_asks place now control is.own key.source key.group is.iface is.asks) in
      let listed = among_flat_map (vrf_flows place now control) is.own entry (own_vrfs place) is.of_edge
      (among_map (with_upstream place control is.own) route (filter (is_flow place now control is.own) (possible_flows place control is.own))
      (among_filter (is_flow place now control is.own) route (possible_flows place control is.own) test
      (possible is.own key.source key.group is.iface is.of_vrf is.asks))) in
      let keys : entry.0 ≡ key = λ i. record { vrf = is.of_flow i; source = key.source; group = key.group } in
      let found = some_found flow_total key entry.1 all (subst (λ (k : VrfFlow). Among (k, entry.1) all) keys listed) in
      (found.0, maps.get-from_entries flow_total all key ∙ found.1)

  pub asked_is : (key : VrfFlow) (up : Option Upstream) → IsAsked place now control key up → maps.get (flows_at place now control) key ≡ Some up
  asked_is key up is =
      let found = in_list key up is in
      let other = is_asked key found.0 found.1 in
      let one : other.own ≡ is.own =
      one_number place other.own is.own other.of_edge is.of_edge (ap (λ (v : VrfId). v.0) (other.of_flow ∙ sym is.of_flow)) in
      found.1 ∙ ap (λ (u : Option Upstream). Some u)
      (other.choice ∙ ap (λ (o : OwnVrf). upstream_for place control o key.source key.group) one ∙ sym is.choice)

pub flows_are : (place : EdgePlace) (now : ℕ) (control : Control) (key : VrfFlow) (up : Option Upstream)
    → (maps.get (flows_at place now control) key ≡ Some up) ↔ IsAsked place now control key up
flows_are place now control key up = (is_asked place now control key up, asked_is place now control key up)
