-- The selective tunnels that the flows of a VRF want are those that its tree wants.
use Rattle.std.proofs.Common.{◌≡◌, ◌↔◌, true, ◌⊎◌, inl, inr, List, [], ◌∷◌, Option, Some, None, option_map, refl, sym, ap, subst, ◌∙◌}
use Rattle.std.specs.FinMap as maps
use Rattle.std.specs.FinSet as sets
use Rattle.std.proofs.lemmas.Bool.{eq-eqb, eqb-true}
use Rattle.std.proofs.lemmas.Option.{same_Some}
use Rattle.mv_base.specs.Lists.{Among}
use Rattle.mv_base.specs.declared.addr.Addr.{Addr}
use Rattle.mv_base.specs.declared.ids.NodeId.{NodeId}
use Rattle.mv_base.specs.declared.rd.Rd.{Rd}
use Rattle.selective_defs.specs.mldp.declared.mldp_fec.fec.Fec.{Fec}
use Rattle.edge_words.proofs.label_defs.KeyLemmas.{fec_cmp_total, fec_cmp_exact}
use Rattle.selective_defs.specs.Selective.{IsWanted, wanted}
use Rattle.selective_defs.specs.declared.learned_route.LearnedRoute.{LearnedRoute}
use Rattle.selective_defs.proofs.WantedLemmas.{wanted_when}
use Rattle.selective.specs.Leaves as leaf
use Rattle.selective.specs.Leaves.{is_of_peer, key_of, peer_routes}
use Rattle.selective.specs.Order.{route_total}
use Rattle.selective.specs.declared.route_key.Learned.{Learned}
use Rattle.selective.specs.declared.route_key.Place.{Place}
use Rattle.selective.specs.declared.route_key.Place.TheVariants.{First, Of, Last}
use Rattle.selective.specs.declared.route_key.RouteKey.{RouteKey}
use Rattle.selective.proofs.OrderLemmas.{route_exact}
use Rattle.edge_words.specs.bgp_messages.declared.bgp_attributes.key.Key.{Key}
use Rattle.umh_select.specs.declared.route.Choice.{Choice}
use Rattle.vrf_words.specs.declared.tree_defs.flow.Flow.{Flow}
use Rattle.vrf_words.specs.tree_defs.Trees.{TreeData, flow_wants, wanted_by}
use Rattle.vrf_words.proofs.tree_defs.KeyLemmas.{flow_total, flow_exact}
use Rattle.edge_words.specs.edge_defs.Edge.{Upstream, Site, Remote, TakenRoute, Control}
use Rattle.edge_words.specs.edge_defs.Imported.{ImportedSelective, imported_selective, taken_from}
use Rattle.edge_words.specs.edge_defs.Place.{EdgePlace, OwnVrf, addr_of, own_vrfs}
use Rattle.edge_words.specs.edge_defs.Tunnels.{learned_route, learned_routes, leaves}
use Rattle.edge_words.proofs.edge_defs.KeyLemmas.{key_total, key_exact}
use Rattle.edge_words.proofs.calm_laws.Lists.{among_map, map_among, among_flat_map, flat_map_among, filter_among, among_filter, among_found, found_among}
use Rattle.edge_words.proofs.calm_laws.Maps.{entry_get, get_entry}
use Rattle.edge_words.specs.Leaf.{IsInclusive, IsSelective}
use Rattle.edge_words.proofs.Leaves.{leaf_is}
use Rattle.edge_words.proofs.Members.{from_list, to_list}
use Rattle.vrf_words.specs.tree_laws.TreeOf.{IsTreeOf, IsSelectiveAt, IsSelectiveTaken, choice_of, flow_in}
use Rattle.vrf_words.specs.tree_laws.Wanting.{AreTreesOf, IsWantedIn}

none_some : {A B : Type 0} (x : A) → None ≡ Some x → B
none_some x h = absurd cc

-- what is changed comes from something
pub mapped_some : {A B : Type 0} (f : A → B) (o : Option A) (y : B) → option_map f o ≡ Some y → (x : A) × (o ≡ Some x) × (f x ≡ y)
mapped_some f None y h = none_some y h
mapped_some f (Some x) y h = (x, refl, same_Some (f x) y h)

same_peer : (a b : NodeId) → a.0 ≡ b.0 → a ≡ b
same_peer a b h = λ i. record { 0 = h i }

-- a route that was learned is one that is imported
learned_from : (place : EdgePlace) (own : OwnVrf) (peer : NodeId) (key : Key) (taken : TakenRoute) (learned : LearnedRoute)
    → learned_route place own peer (key, taken) ≡ Some learned
    → (imported : ImportedSelective) × (imported_selective own.vrf (addr_of place.scenario peer) (key, taken) ≡ Some imported)
learned_from place own peer key taken learned h = by (imported_selective own.vrf (addr_of place.scenario peer) (key, taken)) refl h
  where
    by : (o : Option ImportedSelective) → imported_selective own.vrf (addr_of place.scenario peer) (key, taken) ≡ o
        → elim o [
          | None ↦ None
          | Some imported ↦ Some (record {
            pattern = record { source = imported.route.source; group = imported.route.group };
            fec =
                imported.fec;
            since = taken.since;
            run = taken.run;
          })
        ] ≡ Some learned
        → (imported : ImportedSelective) × (imported_selective own.vrf (addr_of place.scenario peer) (key, taken) ≡ Some imported)
    by None e g = none_some learned g
    by (Some imported) e g = (imported, e)

module _ (place : EdgePlace) (control : Control) (own : OwnVrf) (tree : TreeData) (is : IsTreeOf place control own tree) where
  -- ---- what was learned of a peer

  taken_learned : (peer : NodeId) (rd : Rd) (key : RouteKey) (learned : Learned) → IsSelectiveTaken place control own peer rd key.pattern learned
      → Among (leaf.learned_route (key, learned)) (learned_routes place control own peer)
  taken_learned peer rd key learned t =
      among_found (learned_route place own peer) (t.key, t.taken) (leaf.learned_route (key, learned)) (maps.entries (taken_from control peer))
      (get_entry key_exact (taken_from control peer) t.key t.taken t.at) t.learned_as

  entry_learned : (key : RouteKey) (learned : Learned) → IsSelectiveAt place control own key learned
      → Among (leaf.learned_route (key, learned)) (learned_routes place control own key.peer)
  entry_learned key learned h = by key.place refl
    where
      at : (spot : Place) → key.place ≡ spot → IsSelectiveAt place control own key learned
          → IsSelectiveAt place control own (record { peer = key.peer; pattern = key.pattern; place = spot }) learned
      at spot e g = subst (λ (p : Place). IsSelectiveAt place control own (record { peer = key.peer; pattern = key.pattern; place = p }) learned) e g

      by : (spot : Place) → key.place ≡ spot → Among (leaf.learned_route (key, learned)) (learned_routes place control own key.peer)
      by First e = absurd (at First e h)
      by Last e = absurd (at Last e h)
      by (Of rd) e = taken_learned key.peer rd key learned (at (Of rd) e h)

  pub kept_learned : (peer : NodeId) (route : LearnedRoute) → Among route (peer_routes peer tree.leaf.routes)
      → Among route (learned_routes place control own peer)
  kept_learned peer route a =
      let by = map_among leaf.learned_route route (leaf.peer_entries peer tree.leaf.routes) a in
      let test = filter_among (is_of_peer peer) by.0 (maps.entries tree.leaf.routes) by.1 in
      let at = entry_get route_total tree.leaf.routes by.0.0 by.0.1 test.0 in
      subst (λ (r : LearnedRoute). Among r (learned_routes place control own peer)) (sym by.2)
      (subst (λ (n : NodeId). Among (leaf.learned_route by.0) (learned_routes place control own n))
      (same_peer by.0.0.peer peer (eqb-true by.0.0.peer.0 peer.0 test.1))
      (entry_learned by.0.0 by.0.1 ((is.selective by.0.0 by.0.1).0 at)))

  pub learned_kept : (peer : NodeId) (route : LearnedRoute) → Among route (learned_routes place control own peer)
      → Among route (peer_routes peer tree.leaf.routes)
  learned_kept peer route a =
      let found = found_among (learned_route place own peer) route (maps.entries (taken_from control peer)) a in
      let from = learned_from place own peer found.0.0 found.0.1 route found.2 in
      let key : RouteKey = key_of peer from.0.route.rd route.pattern in
      let learned : Learned = record { fec = route.fec; since = route.since; run = route.run } in
      let taken : IsSelectiveTaken place control own peer from.0.route.rd route.pattern learned = record {
        key = found.0.0;
        taken = found.0.1;
        imported = from.0;
        at = entry_get key_total (taken_from control peer) found.0.0 found.0.1 found.1;
        is = from.1;
        of_rd = refl;
        learned_as = found.2;
      } in
      among_map leaf.learned_route (key, learned) (leaf.peer_entries peer tree.leaf.routes)
      (among_filter (is_of_peer peer) (key, learned) (maps.entries tree.leaf.routes) (eq-eqb peer.0 peer.0 refl)
      (get_entry route_exact tree.leaf.routes key learned ((is.selective key learned).1 taken)))

  wanted_too : (peer : NodeId) (source group : Addr) (route : LearnedRoute) → IsWanted (peer_routes peer tree.leaf.routes) source group route
      → IsWanted (learned_routes place control own peer) source group route
  wanted_too peer source group route w =
      record { among = kept_learned peer route w.among; matches = w.matches; kept = λ o a. w.kept o (learned_kept peer o a) }

  wanted_back : (peer : NodeId) (source group : Addr) (route : LearnedRoute) → IsWanted (learned_routes place control own peer) source group route
      → IsWanted (peer_routes peer tree.leaf.routes) source group route
  wanted_back peer source group route w =
      record { among = learned_kept peer route w.among; matches = w.matches; kept = λ o a. w.kept o (kept_learned peer o a) }

  -- ---- what the tree wants

  wanted_of : (fec : Fec) (flow : Flow) (up : Option Upstream) → Among own (own_vrfs place) → maps.get control.flows (flow_in own.id flow) ≡ Some up
      → Among fec (flow_wants tree.leaf flow (choice_of up)) → IsSelective place control fec
  wanted_of fec flow None among at a = absurd a
  wanted_of fec flow (Some (Site site)) among at a = absurd a
  wanted_of fec flow (Some (Remote edge rd import source_as)) among at a =
      let kept = peer_routes edge tree.leaf.routes in
      let by = map_among (λ (route : LearnedRoute). route.fec) fec (wanted kept flow.source flow.group) a in
      record {
        own = own;
        of_edge = among;
        flow = flow_in own.id flow;
        of_vrf = refl;
        edge = edge;
        rd = rd;
        import = import;
        source_as = source_as;
        upstream = at;
        route = by.0;
        wanted = wanted_too edge flow.source flow.group by.0 ((wanted_when kept flow.source flow.group by.0).0 by.1);
        of_tunnel = sym by.2;
      }

  abbrev list : List Fec
  list = wanted_by tree.leaf tree.vrf.flows

  pub wants_is : (fec : Fec) → Among own (own_vrfs place) → sets.contains tree.wants fec ≡ true → IsSelective place control fec
  wants_is fec among h =
      let entry = flat_map_among (λ (e : Flow × Choice). flow_wants tree.leaf e.0 e.1) fec (maps.entries tree.vrf.flows)
      (from_list fec_cmp_total fec_cmp_exact list fec (ap (λ (s : _). sets.contains s fec) (sym is.wants) ∙ h)) in
      let at = entry_get flow_total tree.vrf.flows entry.0.0 entry.0.1 entry.1 in
      let up = mapped_some choice_of (maps.get control.flows (flow_in own.id entry.0.0)) entry.0.1 (sym (is.flows entry.0.0) ∙ at) in
      wanted_of fec entry.0.0 up.0 among up.1 (subst (λ (c : Choice). Among fec (flow_wants tree.leaf entry.0.0 c)) (sym up.2) entry.2)

  pub is_wants : (fec : Fec) (s : IsSelective place control fec) → s.own ≡ own → sets.contains tree.wants fec ≡ true
  is_wants fec s e =
      let flow : Flow = record { source = s.flow.source; group = s.flow.group } in
      let up : Option Upstream = Some (Remote s.edge s.rd s.import s.source_as) in
      let key : flow_in own.id flow ≡ s.flow =
      λ i. record { vrf = (ap (λ (o : OwnVrf). o.id) (sym e) ∙ s.of_vrf) i; source = s.flow.source; group = s.flow.group } in
      let at : maps.get tree.vrf.flows flow ≡ Some (choice_of up) =
      is.flows flow ∙ ap (λ k. option_map choice_of (maps.get control.flows k)) key ∙ ap (option_map choice_of) s.upstream in
      let kept = peer_routes s.edge tree.leaf.routes in
      let want = (wanted_when kept flow.source flow.group s.route).1
      (wanted_back s.edge flow.source flow.group s.route
      (subst (λ (o : OwnVrf). IsWanted (learned_routes place control o s.edge) flow.source flow.group s.route) e s.wanted)) in
      let there = among_map (λ (route : LearnedRoute). route.fec) s.route (wanted kept flow.source flow.group) want in
      ap (λ (t : _). sets.contains t fec) is.wants
      ∙ to_list fec_cmp_total fec_cmp_exact list fec
      (among_flat_map (λ (x : Flow × Choice). flow_wants tree.leaf x.0 x.1) (flow, choice_of up) fec (maps.entries tree.vrf.flows)
      (get_entry flow_exact tree.vrf.flows flow (choice_of up) at)
      (subst (λ (f : Fec). Among f (flow_wants tree.leaf flow (choice_of up))) s.of_tunnel there))

-- ---- all trees

pub record TreeAmong (place : EdgePlace) (control : Control) (own : OwnVrf) (trees : List TreeData) : Type 0 where
  pub tree : TreeData
  pub among : Among tree trees
  pub is : IsTreeOf place control own tree

pub tree_of : (place : EdgePlace) (control : Control) (own : OwnVrf) (vrfs : List OwnVrf) (trees : List TreeData)
    → AreTreesOf place control vrfs trees → Among own vrfs → TreeAmong place control own trees
tree_of place control own [] trees h a = absurd a
tree_of place control own (vrf ∷ vrfs) [] h a = absurd h
tree_of place control own (vrf ∷ vrfs) (tree ∷ trees) h (inl e) =
    record { tree = tree; among = inl refl; is = subst (λ (o : OwnVrf). IsTreeOf place control o tree) (sym e) h.0 }
tree_of place control own (vrf ∷ vrfs) (tree ∷ trees) h (inr a) = let rest = tree_of place control own vrfs trees h.1 a in
    record { tree = rest.tree; among = inr rest.among; is = rest.is }

pub record VrfAmong (place : EdgePlace) (control : Control) (vrfs : List OwnVrf) (tree : TreeData) : Type 0 where
  pub own : OwnVrf
  pub among : Among own vrfs
  pub is : IsTreeOf place control own tree

pub vrf_of : (place : EdgePlace) (control : Control) (tree : TreeData) (vrfs : List OwnVrf) (trees : List TreeData)
    → AreTreesOf place control vrfs trees → Among tree trees → VrfAmong place control vrfs tree
vrf_of place control tree vrfs [] h a = absurd a
vrf_of place control tree [] (other ∷ trees) h a = absurd h
vrf_of place control tree (vrf ∷ vrfs) (other ∷ trees) h (inl e) =
    record { own = vrf; among = inl refl; is = subst (λ (t : TreeData). IsTreeOf place control vrf t) (sym e) h.0 }
vrf_of place control tree (vrf ∷ vrfs) (other ∷ trees) h (inr a) = let rest = vrf_of place control tree vrfs trees h.1 a in
    record { own = rest.own; among = inr rest.among; is = rest.is }

pub leaves_are : (place : EdgePlace) (control : Control) (trees : List TreeData) (fec : Fec) → AreTreesOf place control (own_vrfs place) trees
    → (sets.contains (leaves place control) fec ≡ true) ↔ (IsInclusive place control fec ⊎ IsWantedIn trees fec)
leaves_are place control trees fec h = (
  λ there. to ((leaf_is place control fec).0 there),
  λ either. (leaf_is place control fec).1 (back either),
)
  where
    to : IsInclusive place control fec ⊎ IsSelective place control fec → IsInclusive place control fec ⊎ IsWantedIn trees fec
    to (inl inclusive) = inl inclusive
    to (inr s) =
        let t = tree_of place control s.own (own_vrfs place) trees h s.of_edge in
        inr (record { tree = t.tree; among = t.among; wants = is_wants place control s.own t.tree t.is fec s refl })

    back : IsInclusive place control fec ⊎ IsWantedIn trees fec → IsInclusive place control fec ⊎ IsSelective place control fec
    back (inl inclusive) = inl inclusive
    back (inr w) =
        let v = vrf_of place control w.tree (own_vrfs place) trees h w.among in
        inr (wants_is place control v.own w.tree v.is fec v.among w.wants)
