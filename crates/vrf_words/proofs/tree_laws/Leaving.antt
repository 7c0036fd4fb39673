-- A copy that is delivered at a VRF leaves where the VRF's tree says.
use Rattle.std.proofs.Common.{◌≡◌, ◌<◌, ℕ, ◌&&◌, ◌||◌, Bool, true, false, cond, T, ◌⊎◌, inl, inr, List, [], ◌∷◌, ◌++◌, length, map, is_some, Option, Some, None, refl, sym, ap, subst, ◌∙◌, append-nil}
use Rattle.std.specs.List.{filter, flat_map, list_any}
use Rattle.std.specs.FinMap as maps
use Rattle.std.specs.FinMap.{FinMap, IsAntisymmetric, find, is_sorted}
use Rattle.std.specs.FinMap.Entries.{below_all}
use Rattle.std.specs.Ordering.{eq_by_cmp}
use Rattle.std.specs.declared.cmp.Ordering.{Ordering}
use Rattle.std.specs.declared.cmp.Ordering.TheVariants.{Less}
use Rattle.std.specs.Cmp.{IsTotalOrder, Equal-is, tied_itself}
use Rattle.std.proofs.lemmas.Bool.{and_parts}
use Rattle.std.proofs.lemmas.Option.{cond_some, same_Some}
use Rattle.mv_base.specs.Address.{same_addr, same_addr_equal}
use Rattle.mv_base.specs.Lists.{Among}
use Rattle.mv_base.specs.Number.{◌>>?◌, only_if}
use Rattle.mv_base.specs.declared.addr.Addr.{Addr}
use Rattle.mv_base.specs.declared.ids.IfaceId.{IfaceId}
use Rattle.mv_base.specs.declared.ids.NodeId.{NodeId}
use Rattle.selective_defs.specs.mldp.declared.mldp_fec.fec.Fec.{Fec}
use Rattle.edge_words.specs.bgp_messages.declared.bgp_attributes.key.Key.{Key}
use Rattle.scenario_defs.specs.Rules.{Rules}
use Rattle.edge_words.specs.label_defs.LabelData.{same_fec}
use Rattle.edge_words.proofs.label_defs.KeyLemmas.{node_cmp_total, node_cmp_exact, same_fec_equal, same_fec_from}
use Rattle.edge_words.proofs.label_defs.MemberLemmas.{front_of, back_of}
use Rattle.edge_words.proofs.edge_defs.choice_defs.OrderLemmas.{not_itself}
use Rattle.selective_defs.specs.declared.learned_route.LearnedRoute.{LearnedRoute}
use Rattle.selective.specs.Leaves.{peer_routes}
use Rattle.vrf_words.specs.declared.tree_defs.flow.Flow.{Flow}
use Rattle.vrf_words.specs.declared.tree_defs.flow.Origin.TheVariants as places
use Rattle.vrf_words.specs.declared.tree_defs.flow.SiteIface.{SiteIface}
use Rattle.vrf_words.specs.tree_defs.Flows as trees
use Rattle.vrf_words.specs.tree_defs.Trees.{TreeData}
use Rattle.edge_words.specs.edge_defs.Datagrams.{is_from_edge, is_imported_from, is_route_of, is_tunnel, outs_at, outs_from, selective_fec}
use Rattle.edge_words.specs.edge_defs.Edge.{Control, Remote, Site, Taken, TakenRoute, Upstream}
use Rattle.edge_words.specs.edge_defs.Flows.{asking_ifaces}
use Rattle.edge_words.specs.edge_defs.Imported.{ImportedSelective, SelectiveRoute, imported_inclusive, imported_selective, inclusive_of, is_admitted, lsp_of, selective_of, taken_from, tunnel_by}
use Rattle.edge_words.specs.edge_defs.Keys.{Value}
use Rattle.edge_words.specs.edge_defs.Place.{EdgePlace, OwnVrf, addr_of}
use Rattle.edge_words.specs.edge_defs.Tunnels.{learned_route}
use Rattle.edge_words.specs.edge_defs.Upstream.{known_routes, upstream_for}
use Rattle.edge_words.proofs.calm_laws.Lists.{any_among, any_from, among_found, found_among, not_both}
use Rattle.edge_words.proofs.calm_laws.Maps.{empty_entries, entry_get}
use Rattle.edge_words.proofs.calm_laws.Tables.{taken_is}
use Rattle.edge_words.proofs.calm_laws.Upstreams.{chained}
use Rattle.edge_words.specs.Goes.{IsImported}
use Rattle.edge_words.specs.Known.{AreNodes}
use Rattle.edge_words.proofs.Goes.{imported_from}
use Rattle.edge_words.proofs.Known.{one_node}
use Rattle.edge_words.proofs.Members.{either}
use Rattle.vrf_words.specs.tree_laws.Imports.{has_learned, imports, imports_inclusive}
use Rattle.vrf_words.specs.tree_laws.TreeOf.{IsTreeOf, choice_of, iface_id}
use Rattle.vrf_words.specs.tree_laws.Whole.{AreWhole}
use Rattle.vrf_words.proofs.tree_laws.Asking.{all_asking}
use Rattle.vrf_words.proofs.tree_laws.Choices.{choice_is}
use Rattle.vrf_words.proofs.tree_laws.Entries.{all_above}
use Rattle.vrf_words.proofs.tree_laws.Wanting.{kept_learned, learned_kept}

-- ---- a map of which one entry tells

abbrev pub told_at : {K V X : Type 0} → (K × V → List X) → K → Option V → List X
told_at f k o = elim o [ None ↦ [] | Some v ↦ f (k, v) ]

none_told : {Y X : Type 0} (f : Y → List X) (ys : List Y) → ((y : Y) → Among y ys → f y ≡ []) → flat_map f ys ≡ []
none_told f [] h = refl
none_told f (y ∷ ys) h = ap (λ xs. xs ++ flat_map f ys) (h y (inl refl)) ∙ none_told f ys (λ z a. h z (inr a))

module _ {K V X : Type 0} {R : K → K → Ordering} (total : IsTotalOrder R) (exact : IsAntisymmetric R) (k : K) (f : K × V → List X) where
  listed_told : (es : List (K × V)) → T (is_sorted R es) → ((e : K × V) → Among e es → (e.0 ≡ k → ⊥) → f e ≡ [])
      → flat_map f es ≡ told_at f k (find R k es)
  listed_told [] s h = refl
  listed_told (e ∷ es) s h = by (eq_by_cmp R k e.0) refl (listed_told es (back_of (below_all R e.0 es) (is_sorted R es) s) (λ y a. h y (inr a)))
    where
      apart : k ≡ e.0 → (y : K × V) → Among y es → y.0 ≡ k → ⊥
      apart same y a other =
          not_itself total e.0 (subst (λ (z : K). R e.0 z ≡ Less) (other ∙ same)
          (all_above R e.0 es (front_of (below_all R e.0 es) (is_sorted R es) s) y a))

      by : (b : Bool) → eq_by_cmp R k e.0 ≡ b → flat_map f es ≡ told_at f k (find R k es)
          → f e ++ flat_map f es ≡ told_at f k (cond b (Some e.1) (find R k es))
      by true t rest =
          let same : k ≡ e.0 = exact k e.0 ((Equal-is (R k e.0)).0 t) in
          ap (λ xs. f e ++ xs) (none_told f es (λ y a. h y (inr a) (apart same y a))) ∙ append-nil (f e) ∙ ap (λ (z : K). f (z, e.1)) (sym same)
      by false t rest =
          ap (λ xs. xs ++ flat_map f es) (h e (inl refl) (λ same. not_both (eq_by_cmp R k e.0) (tied same) t)) ∙ rest
        where
          tied : e.0 ≡ k → eq_by_cmp R k e.0 ≡ true
          tied same = (Equal-is (R k e.0)).1 (ap (R k) same ∙ tied_itself total k)

  pub map_told : (m : FinMap R V) → ((e : K × V) → Among e (maps.entries m) → (e.0 ≡ k → ⊥) → f e ≡ [])
      → flat_map f (maps.entries m) ≡ told_at f k (maps.get m k)
  map_told m h = listed_told (maps.entries m) (maps.entries_sorted m) h ∙ ap (told_at f k) (sym (maps.get-entries m k))

-- ---- the root of a tunnel

pub root_by : (peer originator : Addr) (value : Value) (fec : Fec) → tunnel_by peer originator value ≡ Some fec → fec.root ≡ peer
root_by peer originator value fec h =
    let first = chained (lsp_of value.pmsi) (λ (own : Fec). only_if (same_addr own.root peer && same_addr originator peer) own) fec h in
    let passed = cond_some (same_addr first.0.root peer && same_addr originator peer) first.0 fec first.2 in
    ap (λ (f : Fec). f.root) (sym passed.1) ∙ same_addr_equal first.0.root peer
    (and_parts (same_addr first.0.root peer) (same_addr originator peer) passed.0).0

imported_root : (place : EdgePlace) (control : Control) (own : OwnVrf) (peer : NodeId) (fec : Fec) → IsImported place control own peer fec
    → fec.root ≡ addr_of place.scenario peer
imported_root place control own peer fec is = by (addr_of place.scenario peer) is.of_tunnel
  where
    by : (addr : Addr) → (imported_inclusive own.vrf addr (is.key, is.route) ≡ Some fec)
        ⊎ ((imported : ImportedSelective) × (imported_selective own.vrf addr (is.key, is.route) ≡ Some imported) × (imported.fec ≡ fec))
        → fec.root ≡ addr
    by addr (inl h) =
        let first =
        chained (inclusive_of is.key) (λ originator. only_if (is_admitted own.vrf is.route.value.comms) is.route.value >>? λ value. tunnel_by addr
        originator value) fec h in
        let second =
        chained (only_if (is_admitted own.vrf is.route.value.comms) is.route.value) (λ value. tunnel_by addr first.0 value) fec first.2 in
        root_by addr first.0 second.0 fec second.2
    by addr (inr h) =
        let first = chained (selective_of is.key)
        (λ (route : SelectiveRoute). only_if (is_admitted own.vrf is.route.value.comms) is.route.value >>? λ value. tunnel_by addr route.originator
        value >>? λ own_fec. Some (record { route = route; fec = own_fec })) h.0 h.1 in
        let second = chained (only_if (is_admitted own.vrf is.route.value.comms) is.route.value)
        (λ value. tunnel_by addr first.0.originator value >>? λ own_fec. Some (record { route = first.0; fec = own_fec })) h.0 first.2 in
        let third =
        chained (tunnel_by addr first.0.originator second.0) (λ (own_fec : Fec). Some (record { route = first.0; fec = own_fec })) h.0 second.2 in
        let same : third.0 ≡ fec = ap (λ (i : ImportedSelective). i.fec) (same_Some (record { route = first.0; fec = third.0 }) h.0 third.2) ∙ h.2 in
        ap (λ (f : Fec). f.root) (sym same) ∙ root_by addr first.0.originator second.0 third.0 third.1

-- ---- what is delivered at a VRF

pub from_edge : (edge : NodeId) (up : Option Upstream) → trees.is_from (places.Edge edge) (choice_of up) ≡ is_from_edge edge up
from_edge edge None = refl
from_edge edge (Some (Site own)) = refl
from_edge edge (Some (Remote own rd import source_as)) = refl

all_outside : (edge : NodeId) (xs : List SiteIface) → filter (trees.is_outside (places.Edge edge)) xs ≡ xs
all_outside edge [] = refl
all_outside edge (x ∷ xs) = ap (λ ys. x ∷ ys) (all_outside edge xs)

both_where : {X : Type 0} (a b : Bool) (xs : List X) → cond (a && b) xs [] ≡ cond a (cond b xs []) []
both_where true b xs = refl
both_where false b xs = refl

none_where : {X : Type 0} (a b : Bool) (xs : List X) → a ≡ false → cond (a && b) xs [] ≡ []
none_where a b xs h = both_where a b xs ∙ ap (λ (t : Bool). cond t (cond b xs []) []) h

module _ (place : EdgePlace) (now : ℕ) (control : Control) (own : OwnVrf) (fec : Fec) (flow : Flow) where
  abbrev up : Option Upstream
  up = upstream_for place control own flow.source flow.group

  abbrev asking : List IfaceId
  asking = asking_ifaces place now control own flow.source flow.group

  abbrev outs : NodeId × Taken → List IfaceId
  outs = outs_from place now control own fec flow.source flow.group

  -- nothing is imported of the tunnel from a peer that is not its root
  not_imported : (entry : NodeId × Taken) → Among entry (maps.entries control.peers) → (addr_of place.scenario entry.0 ≡ fec.root → ⊥)
      → outs entry ≡ []
  not_imported entry a apart =
      none_where (is_imported_from place own fec entry) (is_from_edge entry.0 up) asking (by (is_imported_from place own fec entry) refl)
    where
      by : (b : Bool) → is_imported_from place own fec entry ≡ b → b ≡ false
      by true t = absurd (apart (sym (imported_root place control own entry.0 fec (imported_from place control own fec entry.0 entry.1 a t))))
      by false t = refl

  pub no_outs : ((peer : NodeId) → is_some (maps.get control.peers peer) ≡ true → addr_of place.scenario peer ≡ fec.root → ⊥)
      → outs_at place now control fec flow.source flow.group own ≡ []
  no_outs apart =
      none_told outs (maps.entries control.peers)
      (λ entry a. not_imported entry a (apart entry.0
      (ap (λ (o : Option Taken). is_some o) (entry_get node_cmp_total control.peers entry.0 entry.1 a))))

  module _ (tree : TreeData) (is : IsTreeOf place control own tree) (root : NodeId) (rules : Rules place.scenario) (nodes : AreNodes place control)
      (within : root.0 < length place.scenario.nodes) (rooted : addr_of place.scenario root ≡ fec.root) where
    another : (entry : NodeId × Taken) → Among entry (maps.entries control.peers) → (entry.0 ≡ root → ⊥) → outs entry ≡ []
    another entry a apart = not_imported entry a (λ same. apart
        (one_node place.scenario rules entry.0 root
        (nodes entry.0 (ap (λ (o : Option Taken). is_some o) (entry_get node_cmp_total control.peers entry.0 entry.1 a))) within
        (same ∙ sym rooted)))

    outs_told : (o : Option Taken) → maps.get control.peers root ≡ o
        → told_at outs root o ≡ cond (imports place control own root fec) (cond (is_from_edge root up) asking []) []
    outs_told None e =
        let nothing : taken_from control root ≡ maps.empty = ap (λ (o : Option Taken). elim o [ None ↦ maps.empty | Some taken ↦ taken ]) e in
        sym (ap (λ (es : List (Key × TakenRoute)). cond (list_any (is_route_of place own root fec) es) (cond (is_from_edge root up) asking []) [])
        (ap (λ (t : Taken). maps.entries t) nothing ∙ empty_entries _))
    outs_told (Some table) e =
        both_where (is_imported_from place own fec (root, table)) (is_from_edge root up) asking
        ∙ ap (λ (t : Taken). cond (is_imported_from place own fec (root, t)) (cond (is_from_edge root up) asking []) [])
        (sym (taken_is control root table e))

    pub outs_are : AreWhole (known_routes place control own)
        → outs_at place now control fec flow.source flow.group own
        ≡ cond (imports place control own root fec) (trees.outgoing tree.vrf (place.core.cost place.me) now flow (places.Edge root)) []
    outs_are whole =
        let source : is_from_edge root up ≡ trees.is_from (places.Edge root) (trees.chosen_for tree.vrf.routes (place.core.cost place.me) flow) =
        sym (from_edge root up) ∙ ap (trees.is_from (places.Edge root)) (sym (choice_is place control own tree is whole rules nodes flow)) in
        let ids : asking ≡ map iface_id (filter (trees.is_outside (places.Edge root)) (trees.asking tree.vrf now flow)) =
        sym (all_asking place control own tree is flow now) ∙ ap (map iface_id) (sym (all_outside root (trees.asking tree.vrf now flow))) in
        map_told node_cmp_total node_cmp_exact root outs control.peers another
        ∙ outs_told (maps.get control.peers root) refl
        ∙ (λ i. cond {A = List IfaceId} (imports place control own root fec) (cond (source i) (ids i) []) [])

-- ---- of which tunnels routes are imported

or_where : (b c : Bool) → cond b true c ≡ (b || c)
or_where true c = refl
or_where false c = refl

pub any_or : {X : Type 0} (p q : X → Bool) (xs : List X) → list_any (λ x. p x || q x) xs ≡ (list_any p xs || list_any q xs)
any_or p q [] = refl
any_or p q (x ∷ xs) = ap (λ (b : Bool). (p x || q x) || b) (any_or p q xs) ∙ swapped (p x) (q x) (list_any p xs) (list_any q xs)
  where
    swapped : (a b c d : Bool) → ((a || b) || (c || d)) ≡ ((a || c) || (b || d))
    swapped true b c d = refl
    swapped false true true d = refl
    swapped false true false d = refl
    swapped false false c d = refl

any_alike : {X : Type 0} (p q : X → Bool) (xs : List X) → ((x : X) → p x ≡ q x) → list_any p xs ≡ list_any q xs
any_alike p q xs h = λ i. list_any (λ x. h x i) xs

module _ (place : EdgePlace) (control : Control) (own : OwnVrf) (tree : TreeData) (is : IsTreeOf place control own tree) (edge : NodeId) (fec : Fec)
  where
    abbrev addr : Addr
    addr = addr_of place.scenario edge

    abbrev table : List (Key × TakenRoute)
    table = maps.entries (taken_from control edge)

    abbrev selective_test : Key × TakenRoute → Bool
    selective_test entry = is_tunnel fec (selective_fec (imported_selective own.vrf addr entry))

    learned_as : (entry : Key × TakenRoute) (o : Option ImportedSelective) → imported_selective own.vrf addr entry ≡ o
        → is_tunnel fec (selective_fec o) ≡ true
        → (route : LearnedRoute) × (learned_route place own edge entry ≡ Some route) × (route.fec ≡ fec)
    learned_as entry None e h = absurd (not_both false h refl)
    learned_as entry (Some imported) e h =
        let route : LearnedRoute =
        record {
          pattern = record { source = imported.route.source; group = imported.route.group };
          fec = imported.fec;
          since = entry.1.since;
          run =
              entry.1.run;
        } in (
          route,
          ap (λ (found : Option ImportedSelective). elim found [
            | None ↦ None
            | Some i ↦ Some (record {
              pattern = record { source = i.route.source; group = i.route.group };
              fec = i.fec;
              since = entry.1.since;
              run =
                  entry.1.run;
            })
          ]) e,
          same_fec_equal imported.fec fec h,
        )

    as_learned : (entry : Key × TakenRoute) (route : LearnedRoute) (o : Option ImportedSelective) → imported_selective own.vrf addr entry ≡ o → elim o [
      | None ↦ None
      | Some i ↦ Some (record {
        pattern = record { source = i.route.source; group = i.route.group };
        fec = i.fec;
        since = entry.1.since;
        run =
            entry.1.run;
      })
    ] ≡ Some route → same_fec route.fec fec ≡ true → is_tunnel fec (selective_fec o) ≡ true
    as_learned entry route None e h t = none_is h
      where
        none_is : {A : Type 0} → None ≡ Some route → A
        none_is bad = absurd cc
    as_learned entry route (Some imported) e h t =
        let one =
        same_Some (record {
          pattern = record { source = imported.route.source; group = imported.route.group };
          fec = imported.fec;
          since =
              entry.1.since;
          run = entry.1.run;
        }) route h in
        ap (λ (r : LearnedRoute). same_fec r.fec fec) one ∙ t

    tree_learned : list_any selective_test table ≡ true → has_learned tree edge fec ≡ true
    tree_learned h =
        let entry = any_among selective_test table h in
        let route = learned_as entry.0 (imported_selective own.vrf addr entry.0) refl entry.2 in
        any_from (λ (r : LearnedRoute). same_fec r.fec fec) route.0 (peer_routes edge tree.leaf.routes)
        (learned_kept place control own tree is edge route.0 (among_found (learned_route place own edge) entry.0 route.0 table entry.1 route.1))
        (same_fec_from route.0.fec fec route.2)

    learned_tree : has_learned tree edge fec ≡ true → list_any selective_test table ≡ true
    learned_tree h =
        let route = any_among (λ (r : LearnedRoute). same_fec r.fec fec) (peer_routes edge tree.leaf.routes) h in
        let entry = found_among (learned_route place own edge) route.0 table (kept_learned place control own tree is edge route.0 route.1) in
        any_from selective_test entry.0 table entry.1 (as_learned entry.0 route.0 (imported_selective own.vrf addr entry.0) refl entry.2 route.2)

    pub imports_are : imports place control own edge fec ≡ (imports_inclusive place control own edge fec || has_learned tree edge fec)
    imports_are =
        let inclusive_test : Key × TakenRoute → Bool = λ entry. is_tunnel fec (imported_inclusive own.vrf addr entry) in
        any_alike (is_route_of place own edge fec) (λ entry. inclusive_test entry || selective_test entry) table
        (λ entry. or_where (inclusive_test entry) (selective_test entry))
        ∙ any_or inclusive_test selective_test table
        ∙ ap (λ (b : Bool). imports_inclusive place control own edge fec || b)
        (either (list_any selective_test table) (has_learned tree edge fec) tree_learned learned_tree)
