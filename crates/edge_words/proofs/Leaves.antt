-- The trees of which an edge is to be a leaf.
use Rattle.std.proofs.Common.{◌≡◌, ◌↔◌, ◌==◌, true, ◌⊎◌, inl, inr, Option, Some, None, refl, sym, ap, subst}
use Rattle.std.specs.List.{flat_map}
use Rattle.std.specs.FinMap as maps
use Rattle.std.specs.FinSet as sets
use Rattle.std.proofs.lemmas.Bool.{eq-eqb, eqb-true}
use Rattle.mv_base.specs.declared.ids.NodeId.{NodeId}
use Rattle.mv_base.specs.declared.ids.VrfId.{VrfId}
use Rattle.label_defs.specs.mldp.declared.mldp_fec.fec.Fec.{Fec}
use Rattle.bgp_messages.specs.declared.bgp_attributes.key.Key.{Key}
use Rattle.label_defs.proofs.KeyLemmas.{fec_cmp_total, fec_cmp_exact}
use Rattle.selective_defs.specs.Selective.{Among, wanted}
use Rattle.selective_defs.specs.declared.learned_route.LearnedRoute.{LearnedRoute}
use Rattle.selective_defs.proofs.WantedLemmas.{wanted_when}
use Rattle.edge_defs.specs.Edge.{VrfFlow, Upstream, Site, Remote, TakenRoute, Control}
use Rattle.edge_defs.specs.Imported.{ImportedSelective, taken_from, imported_inclusive, imported_selective}
use Rattle.edge_defs.specs.Place.{EdgePlace, OwnVrf, addr_of, own_vrfs}
use Rattle.edge_defs.specs.Tunnels.{learned_route, learned_routes, inclusive_tunnels, flow_tunnels, flows_of, tunnels_of, leaves}
use Rattle.edge_defs.proofs.KeyLemmas.{flow_total, flow_exact, key_total, key_exact}
use Rattle.edge_words.proofs.calm_laws.Lists.{among_front, among_after, among_either, among_map, map_among, among_flat_map, flat_map_among, filter_among, among_filter, among_found, found_among}
use Rattle.edge_words.proofs.calm_laws.Maps.{entry_get, get_entry}
use Rattle.edge_words.specs.Leaf.{IsInclusive, IsSelective, IsLearned}
use Rattle.edge_words.proofs.Members.{from_list, to_list, taken_of, table_of}

same_vrf : (a b : VrfId) → a.0 ≡ b.0 → a ≡ b
same_vrf a b h = λ i. record { 0 = h i }

module _ (place : EdgePlace) (control : Control) where
  -- ---- inclusive tunnels

  inclusive_from : (own : OwnVrf) (fec : Fec) → Among own (own_vrfs place)
      → Among fec (flat_map (inclusive_tunnels place own) (maps.entries control.peers)) → IsInclusive place control fec
  inclusive_from own fec a b =
      let peer = flat_map_among (inclusive_tunnels place own) fec (maps.entries control.peers) b in
      let found = found_among (imported_inclusive own.vrf (addr_of place.scenario peer.0.0)) fec (maps.entries peer.0.1) peer.2 in
      record {
        own = own;
        of_edge = a;
        peer = peer.0.0;
        key = found.0.0;
        route = found.0.1;
        taken = taken_of control peer.0.0 peer.0.1 found.0.0 found.0.1 peer.1 found.1;
        imported = found.2;
      }

  inclusive_to : (fec : Fec) → (is : IsInclusive place control fec) → Among fec (tunnels_of place control is.own)
  inclusive_to fec is =
      let t = table_of control is.peer is.key is.route is.taken in
      among_front fec (flat_map (inclusive_tunnels place is.own) (maps.entries control.peers))
      (flat_map (flow_tunnels place control is.own) (flows_of control is.own.id))
      (among_flat_map (inclusive_tunnels place is.own) (is.peer, t.table) fec (maps.entries control.peers) t.of_peer
      (among_found (imported_inclusive is.own.vrf (addr_of place.scenario is.peer)) (is.key, is.route) fec (maps.entries t.table) t.among
      is.imported))

  -- ---- selective tunnels

  selective_by : (own : OwnVrf) (fec : Fec) (key : VrfFlow) (up : Option Upstream) → Among own (own_vrfs place) → own.id ≡ key.vrf
      → maps.get control.flows key ≡ Some up
      → Among fec (flow_tunnels place control own (key, up)) → IsSelective place control fec
  selective_by own fec key None a v e b = absurd b
  selective_by own fec key (Some (Site site)) a v e b = absurd b
  selective_by own fec key (Some (Remote edge rd import source_as)) a v e b =
      let learned = learned_routes place control own edge in
      let by = map_among (λ (route : LearnedRoute). route.fec) fec (wanted learned key.source key.group) b in
      record {
        own = own;
        of_edge = a;
        flow = key;
        of_vrf = v;
        edge = edge;
        rd = rd;
        import = import;
        source_as = source_as;
        upstream = e;
        route = by.0;
        wanted = (wanted_when learned key.source key.group by.0).0 by.1;
        of_tunnel = sym by.2;
      }

  selective_from : (own : OwnVrf) (fec : Fec) → Among own (own_vrfs place)
      → Among fec (flat_map (flow_tunnels place control own) (flows_of control own.id)) → IsSelective place control fec
  selective_from own fec a b =
      let entry = flat_map_among (flow_tunnels place control own) fec (flows_of control own.id) b in
      let of_vrf = filter_among (λ (e : VrfFlow × Option Upstream). e.0.vrf.0 == own.id.0) entry.0 (maps.entries control.flows) entry.1 in
      selective_by own fec entry.0.0 entry.0.1 a (sym (same_vrf entry.0.0.vrf own.id (eqb-true entry.0.0.vrf.0 own.id.0 of_vrf.1)))
      (entry_get flow_total control.flows entry.0.0 entry.0.1 of_vrf.0) entry.2

  selective_to : (fec : Fec) → (is : IsSelective place control fec) → Among fec (tunnels_of place control is.own)
  selective_to fec is =
      let own : OwnVrf = is.own in
      let up : Option Upstream = Some (Remote is.edge is.rd is.import is.source_as) in
      let learned = learned_routes place control own is.edge in
      let want = (wanted_when learned is.flow.source is.flow.group is.route).1 is.wanted in
      let there = among_map (λ (route : LearnedRoute). route.fec) is.route (wanted learned is.flow.source is.flow.group) want in
      let of_vrf = among_filter (λ (e : VrfFlow × Option Upstream). e.0.vrf.0 == own.id.0) (is.flow, up) (maps.entries control.flows)
      (eq-eqb is.flow.vrf.0 own.id.0 (ap (λ (v : VrfId). v.0) (sym is.of_vrf))) (get_entry flow_exact control.flows is.flow up is.upstream) in
      among_after fec (flat_map (inclusive_tunnels place own) (maps.entries control.peers))
      (flat_map (flow_tunnels place control own) (flows_of control own.id))
      (among_flat_map (flow_tunnels place control own) (is.flow, up) fec (flows_of control own.id) of_vrf
      (subst (λ (f : Fec). Among f (flow_tunnels place control own (is.flow, up))) is.of_tunnel there))

  -- ---- leaves

  leaf_from : (fec : Fec) → sets.contains (leaves place control) fec ≡ true → IsInclusive place control fec ⊎ IsSelective place control fec
  leaf_from fec h =
      let own =
      flat_map_among (tunnels_of place control) fec (own_vrfs place)
      (from_list fec_cmp_total fec_cmp_exact (flat_map (tunnels_of place control) (own_vrfs place)) fec h) in
      elim (among_either fec (flat_map (inclusive_tunnels place own.0) (maps.entries control.peers))
      (flat_map (flow_tunnels place control own.0) (flows_of control own.0.id)) own.2) [
        | inl a ↦ inl (inclusive_from own.0 fec own.1 a)
        | inr a ↦ inr (selective_from own.0 fec own.1 a)
      ]

  leaf_by : (own : OwnVrf) (fec : Fec) → Among own (own_vrfs place) → Among fec (tunnels_of place control own)
      → sets.contains (leaves place control) fec ≡ true
  leaf_by own fec a b =
      to_list fec_cmp_total fec_cmp_exact (flat_map (tunnels_of place control) (own_vrfs place)) fec
      (among_flat_map (tunnels_of place control) own fec (own_vrfs place) a b)

  pub leaf_is : (fec : Fec) → (sets.contains (leaves place control) fec ≡ true) ↔ (IsInclusive place control fec ⊎ IsSelective place control fec)
  leaf_is fec = (leaf_from fec, back)
    where
      back : IsInclusive place control fec ⊎ IsSelective place control fec → sets.contains (leaves place control) fec ≡ true
      back (inl is) = leaf_by is.own fec is.of_edge (inclusive_to fec is)
      back (inr is) = leaf_by is.own fec is.of_edge (selective_to fec is)

  -- ---- routes that are learned

  learned_by : (own : OwnVrf) (peer : NodeId) (key : Key) (route : TakenRoute) (learned : LearnedRoute) (o : Option ImportedSelective)
      → imported_selective own.vrf (addr_of place.scenario peer) (key, route) ≡ o → maps.get (taken_from control peer) key ≡ Some route
      → elim o [
        | None ↦ None
        | Some imported ↦ Some (record {
          pattern = record { source = imported.route.source; group = imported.route.group };
          fec =
              imported.fec;
          since = route.since;
          run = route.run;
        })
      ] ≡ Some learned
      → IsLearned place control own peer learned
  learned_by own peer key route learned None e t h = absurd cc
  learned_by own peer key route learned (Some imported) e t h =
      let made : LearnedRoute =
      record {
        pattern = record { source = imported.route.source; group = imported.route.group };
        fec = imported.fec;
        since = route.since;
        run =
            route.run;
      } in
      let one : made ≡ learned = same_some made learned h in
      record {
        key = key;
        route = route;
        imported = imported;
        taken = t;
        is = e;
        source = ap (λ (r : LearnedRoute). r.pattern.source) (sym one);
        group = ap (λ (r : LearnedRoute). r.pattern.group) (sym one);
        of_tunnel = ap (λ (r : LearnedRoute). r.fec) (sym one);
        since = ap (λ (r : LearnedRoute). r.since) (sym one);
        run = ap (λ (r : LearnedRoute). r.run) (sym one);
      }
    where
      same_some : (a b : LearnedRoute) → Some a ≡ Some b → a ≡ b
      same_some a b h = cc

  learned_from : (own : OwnVrf) (peer : NodeId) (learned : LearnedRoute) → Among learned (learned_routes place control own peer)
      → IsLearned place control own peer learned
  learned_from own peer learned a =
      let found = found_among (learned_route place own peer) learned (maps.entries (taken_from control peer)) a in
      learned_by own peer found.0.0 found.0.1 learned (imported_selective own.vrf (addr_of place.scenario peer) found.0) refl
      (entry_get key_total (taken_from control peer) found.0.0 found.0.1 found.1) found.2

  learned_to : (own : OwnVrf) (peer : NodeId) (learned : LearnedRoute) → IsLearned place control own peer learned
      → Among learned (learned_routes place control own peer)
  learned_to own peer learned is =
      let made : LearnedRoute =
      record {
        pattern = record { source = is.imported.route.source; group = is.imported.route.group };
        fec = is.imported.fec;
        since =
            is.route.since;
        run = is.route.run;
      } in
      let one : made ≡ learned =
      λ i. record {
        pattern = record { source = sym is.source i; group = sym is.group i };
        fec = sym is.of_tunnel i;
        since = sym is.since i;
        run =
            sym is.run i;
      } in
      let read : learned_route place own peer (is.key, is.route) ≡ Some made =
      ap (λ (o : Option ImportedSelective). elim o [
        | None ↦ None
        | Some imported ↦ Some (record {
          pattern = record { source = imported.route.source; group = imported.route.group };
          fec =
              imported.fec;
          since = is.route.since;
          run = is.route.run;
        })
      ]) is.is in
      subst (λ (r : LearnedRoute). Among r (learned_routes place control own peer)) one
      (among_found (learned_route place own peer) (is.key, is.route) made (maps.entries (taken_from control peer))
      (get_entry key_exact (taken_from control peer) is.key is.route is.taken) read)

  pub learned_is : (own : OwnVrf) (peer : NodeId) (learned : LearnedRoute)
      → Among learned (learned_routes place control own peer) ↔ IsLearned place control own peer learned
  learned_is own peer learned = (learned_from own peer learned, learned_to own peer learned)
