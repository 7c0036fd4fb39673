-- The tunnels of which an edge is to be a leaf are among the trees, and each change of its leaves is one leaf more.
use Rattle.std.proofs.Common.{◌≡◌, ◌&&◌, Bool, true, false, cond, not, List, map, filter, flat_map, Option, Some, None, ◌⊎◌, inl, inr, refl, sym, ap, subst, ◌∙◌}
use Rattle.std.specs.List.{AllByRecursion}
use Rattle.std.specs.FinMap as maps
use Rattle.std.specs.FinSet as sets
use Rattle.std.specs.FinSet.{FinSet}
use Rattle.std.proofs.lemmas.Bool.{or_cases}
use Rattle.std.proofs.lemmas.Option.{same_Some, none-some}
use Rattle.mv_base.specs.Lists.{Among}
use Rattle.mv_base.specs.Number.{◌>>?◌, only_if}
use Rattle.mv_base.specs.declared.addr.Addr.{Addr}
use Rattle.mv_base.specs.declared.ids.NodeId.{NodeId}
use Rattle.mldp.specs.declared.mldp_fec.fec.Fec.{Fec}
use Rattle.bgp_messages.specs.declared.bgp_attributes.key.Key.{Key}
use Rattle.scenario_defs.specs.declared.scenario.Vrf.{Vrf}
use Rattle.label_defs.specs.Keys.{fec_cmp}
use Rattle.label_defs.specs.LabelData.{Place}
use Rattle.label_defs.specs.Members.{in_order}
use Rattle.label_defs.specs.Steps as labels
use Rattle.label_defs.proofs.KeyLemmas.{fec_cmp_total}
use Rattle.label_defs.proofs.MemberLemmas.{each_in_order}
use Rattle.selective_defs.specs.Selective.{is_wanted, wanted}
use Rattle.selective_defs.specs.declared.learned_route.LearnedRoute.{LearnedRoute}
use Rattle.edge_defs.specs.Edge.{VrfFlow, Upstream, Site, Remote, TakenRoute, Taken, Control}
use Rattle.edge_defs.specs.Imported.{ImportedSelective, SelectiveRoute, taken_from, inclusive_of, selective_of, lsp_of, tunnel_by, is_admitted, imported_inclusive, imported_selective}
use Rattle.edge_defs.specs.Keys.{Value}
use Rattle.edge_defs.specs.Place.{EdgePlace, OwnVrf, addr_of}
use Rattle.edge_defs.specs.Steps.{changed_leaves}
use Rattle.edge_defs.specs.Tunnels.{learned_route, learned_routes, inclusive_tunnels, flow_tunnels, flows_of, leaves}
use Rattle.edge_defs.proofs.KeyLemmas.{key_total}
use Rattle.edge_words.proofs.calm_laws.Lists.{among_either, map_among, flat_map_among, filter_among, found_among}
use Rattle.edge_words.proofs.calm_laws.Maps.{entry_get}
use Rattle.edge_words.proofs.calm_laws.Imports.{learned_of}
use Rattle.edge_words.proofs.calm_laws.Tables.{peer_table}
use Rattle.edge_words.proofs.calm_laws.Upstreams.{chained}
use Rattle.edge_words.specs.held_laws.Held.{IsJoinKey}
use Rattle.network_laws.proofs.Lists.{each_map, each_filter}
use Rattle.growth_laws.specs.Labels.{TakesNothingBack}
use Rattle.growth_laws.proofs.Homes.{TakenIsTold}
use Rattle.growth_laws.proofs.Leaves.{of_leaf, as_learned, inclusive_no_join}
use Rattle.growth_laws.proofs.Told.{HasInclusive, IsPicked, told_tunnel}

only_is : {A : Type 0} (b : Bool) (x y : A) → only_if b x ≡ Some y → x ≡ y
only_is true x y h = same_Some x y h
only_is false x y h = absurd (none-some y h)

-- a tunnel that is read of a value is the value's
tunnel_is : (peer originator : Addr) (value : Value) (fec : Fec) → tunnel_by peer originator value ≡ Some fec → lsp_of value.pmsi ≡ Some fec
tunnel_is peer originator value fec h =
    let x = chained (lsp_of value.pmsi) _ fec h in
    x.1 ∙ ap (λ (f : Fec). Some f) (only_is _ x.0 fec x.2)

inclusive_is : (vrf : Vrf) (peer : Addr) (key : Key) (route : TakenRoute) (fec : Fec) → imported_inclusive vrf peer (key, route) ≡ Some fec
    → lsp_of route.value.pmsi ≡ Some fec
inclusive_is vrf peer key route fec h =
    let x = chained (inclusive_of key) (λ originator. only_if (is_admitted vrf route.value.comms) route.value >>? λ value. tunnel_by peer originator
    value) fec h in
    let y = chained (only_if (is_admitted vrf route.value.comms) route.value) (λ value. tunnel_by peer x.0 value) fec x.2 in
    ap (λ (v : Value). lsp_of v.pmsi) (only_is (is_admitted vrf route.value.comms) route.value y.0 y.1) ∙ tunnel_is peer x.0 y.0 fec y.2

selective_is : (vrf : Vrf) (peer : Addr) (key : Key) (route : TakenRoute) (imported : ImportedSelective)
    → imported_selective vrf peer (key, route) ≡ Some imported → lsp_of route.value.pmsi ≡ Some imported.fec
selective_is vrf peer key route imported h =
    let made : SelectiveRoute → Fec → ImportedSelective = λ found fec. record { route = found; fec = fec } in
    let x = chained (selective_of key) (λ found. only_if (is_admitted vrf route.value.comms) route.value >>? λ value. tunnel_by peer found.originator
    value >>? λ fec. Some (made found fec)) imported h in
    let y = chained (only_if (is_admitted vrf route.value.comms) route.value)
    (λ value. tunnel_by peer x.0.originator value >>? λ fec. Some (made x.0 fec)) imported x.2 in
    let z = chained (tunnel_by peer x.0.originator y.0) (λ fec. Some (made x.0 fec)) imported y.2 in
    ap (λ (v : Value). lsp_of v.pmsi) (only_is (is_admitted vrf route.value.comms) route.value y.0 y.1) ∙ tunnel_is peer x.0.originator y.0 z.0 z.1
    ∙ ap (λ (i : ImportedSelective). Some i.fec) (same_Some (made x.0 z.0) imported z.2)

learned_is : (place : EdgePlace) (own : OwnVrf) (peer : NodeId) (key : Key) (route : TakenRoute) (learned : LearnedRoute)
    → learned_route place own peer (key, route) ≡ Some learned → lsp_of route.value.pmsi ≡ Some learned.fec
learned_is place own peer key route learned h = by (imported_selective own.vrf (addr_of place.scenario peer) (key, route)) refl h
  where
    by : (o : Option ImportedSelective) → imported_selective own.vrf (addr_of place.scenario peer) (key, route) ≡ o
        → as_learned route o ≡ Some learned → lsp_of route.value.pmsi ≡ Some learned.fec
    by None e k = absurd (none-some learned k)
    by (Some imported) e k =
        selective_is own.vrf (addr_of place.scenario peer) key route imported e ∙ ap (λ (r : LearnedRoute). Some r.fec) (same_Some _ learned k)

-- ---- the leaves

module _ (trees : List Fec) (at : NodeId → EdgePlace) (kept : NodeId → Control) (inclusive : (u : NodeId) → HasInclusive trees (at u))
    (picked : (u : NodeId) → IsPicked trees (at u) (kept u))
    (place : EdgePlace) (control : Control) (told : TakenIsTold at kept control) where
  tree_of : (u : NodeId) (key : Key) (route : TakenRoute) (fec : Fec) → (IsJoinKey key → ⊥) → maps.get (taken_from control u) key ≡ Some route
      → lsp_of route.value.pmsi ≡ Some fec → Among fec trees
  tree_of u key route fec not h e = told_tunnel trees (at u) (kept u) key route.value fec (inclusive u) (picked u) (told u key route not h) e

  by_inclusive : (own : OwnVrf) (fec : Fec) → Among fec (flat_map (inclusive_tunnels place own) (maps.entries control.peers)) → Among fec trees
  by_inclusive own fec a =
      let peer = flat_map_among (inclusive_tunnels place own) fec (maps.entries control.peers) a in
      let u : NodeId = peer.0.0 in
      let table : Taken = peer.0.1 in
      let found = found_among (imported_inclusive own.vrf (addr_of place.scenario u)) fec (maps.entries table) peer.2 in
      let got : maps.get (taken_from control u) found.0.0 ≡ Some found.0.1 =
      ap (λ (t : Taken). maps.get t found.0.0) (peer_table control u table peer.1) ∙ entry_get key_total table found.0.0 found.0.1 found.1 in
      tree_of u found.0.0 found.0.1 fec (inclusive_no_join own (addr_of place.scenario u) found.0.0 found.0.1 fec found.2) got
      (inclusive_is own.vrf (addr_of place.scenario u) found.0.0 found.0.1 fec found.2)

  by_selective : (own : OwnVrf) (edge : NodeId) (flow : VrfFlow) (fec : Fec)
      → Among fec (map (λ (route : LearnedRoute). route.fec) (wanted (learned_routes place control own edge) flow.source flow.group))
      → Among fec trees
  by_selective own edge flow fec a =
      let of = map_among (λ (route : LearnedRoute). route.fec) fec (wanted (learned_routes place control own edge) flow.source flow.group) a in
      let both =
      filter_among (is_wanted (learned_routes place control own edge) flow.source flow.group) of.0 (learned_routes place control own edge) of.1 in
      let found = found_among (learned_route place own edge) of.0 (maps.entries (taken_from control edge)) both.0 in
      let is = learned_of place own edge found.0.0 found.0.1 of.0 found.2 in
      let got = entry_get key_total (taken_from control edge) found.0.0 found.0.1 found.1 in
      subst (λ (f : Fec). Among f trees) (sym of.2)
      (tree_of edge found.0.0 found.0.1 of.0.fec (λ join. subst IsJoinKey is.is join) got
      (learned_is place own edge found.0.0 found.0.1 of.0 found.2))

  by_flow : (own : OwnVrf) (flow : VrfFlow) (up : Option Upstream) (fec : Fec) → Among fec (flow_tunnels place control own (flow, up))
      → Among fec trees
  by_flow own flow None fec a = absurd a
  by_flow own flow (Some (Site site)) fec a = absurd a
  by_flow own flow (Some (Remote edge rd import source_as)) fec a = by_selective own edge flow fec a

  pub leaves_within : (fec : Fec) → sets.contains (leaves place control) fec ≡ true → Among fec trees
  leaves_within fec h =
      let by = of_leaf place control fec h in
      elim (among_either fec (flat_map (inclusive_tunnels place by.0) (maps.entries control.peers))
      (flat_map (flow_tunnels place control by.0) (flows_of control by.0.id)) by.2) [
        | inl a ↦ by_inclusive by.0 fec a
        | inr a ↦ (let x = flat_map_among (flow_tunnels place control by.0) fec (flows_of control by.0.id) a in by_flow by.0 x.0.0 x.0.1 fec x.2)
      ]

-- ---- changes of leaves

want_is : (own : Place) (trees : List Fec) (fec : Fec) (was now : Bool) → (was ≡ true → now ≡ true) → (now ≡ true → Among fec trees)
    → (was ≡ true) ⊎ (now ≡ true) → TakesNothingBack own trees (cond now (labels.Want fec) (labels.Unwant fec))
want_is own trees fec was true stays within either = within refl
want_is own trees fec was false stays within (inl h) = absurd (let bad : false ≡ true = stays h in cc)
want_is own trees fec was false stays within (inr h) = absurd (let bad : false ≡ true = h in cc)

pub changes_want : (own : Place) (trees : List Fec) (old new : FinSet fec_cmp)
    → ((fec : Fec) → sets.contains old fec ≡ true → sets.contains new fec ≡ true) → ((fec : Fec) → sets.contains new fec ≡ true → Among fec trees)
    → AllByRecursion (TakesNothingBack own trees) (changed_leaves old new)
changes_want own trees old new stays within =
    let test : Fec → Bool = λ fec. not (sets.contains old fec && sets.contains new fec) in
    let P : Fec → Type 0 = λ fec. TakesNothingBack own trees (cond (sets.contains new fec) (labels.Want fec) (labels.Unwant fec)) in
    each_map (TakesNothingBack own trees) (λ fec. cond (sets.contains new fec) (labels.Want fec) (labels.Unwant fec))
    (filter test (in_order (sets.union old new)))
    (each_filter P test (in_order (sets.union old new))
    (each_in_order fec_cmp_total P (sets.union old new) (λ fec h.
    want_is own trees fec (sets.contains old fec) (sets.contains new fec) (stays fec) (within fec)
    (or_cases (sets.contains old fec) (sets.contains new fec) (sym (sets.contains-union fec_cmp_total old new fec) ∙ h)))))
