-- The worked edges.
use Rattle.std.proofs.Common.{◌↔◌, not, ◌&&◌, ◌||◌, inl, inr, subst, ◌≡◌, ◌==◌, true, false, cond, List, [], ◌∷◌, ◌++◌, Option, Some, None, refl, sym, ap, ◌∙◌, arith}
use Rattle.std.specs.Prelude.{length, map}
use Rattle.std.specs.List.{filter, flat_map, list_any}
use Rattle.std.specs.Ordering.{eq_by_cmp}
use Rattle.std.specs.declared.cmp.Ordering.{Ordering}
use Rattle.std.specs.FinMap as maps
use Rattle.std.specs.FinSet as sets
use Rattle.std.specs.FinSet.{FinSet}
use Rattle.std.specs.Cmp.{IsTotalOrder}
use Rattle.std.specs.Ordering.{is_eq}
use Rattle.std.specs.Cmp.{tied_itself, Equal-is}
use Rattle.std.proofs.lemmas.Bool.{or_cases}
use Rattle.mv_base.specs.Number.{◌>>?◌}
use Rattle.mv_base.specs.declared.ids.NodeId.{NodeId}
use Rattle.bgp_messages.specs.declared.bgp_attributes.key.Key.{Key}
use Rattle.label_defs.specs.mldp.declared.mldp_fec.fec.Fec.{Fec}
use Rattle.choice_defs.specs.Choice.{best_route, of_site}
use Rattle.choice_defs.specs.declared.known_route.KnownRoute.{KnownRoute}
use Rattle.choice_defs.specs.declared.origin.Origin.TheVariants as origins
use Rattle.choice_defs.specs.scenario_defs.Home.{local_routes}
use Rattle.label_defs.specs.Keys.{fec_cmp, node_cmp}
use Rattle.label_defs.proofs.KeyLemmas.{node_cmp_total, fec_cmp_total, fec_cmp_exact}
use Rattle.label_defs.proofs.MemberLemmas.{none_in_order}
use Rattle.label_defs.specs.Steps as labels
use Rattle.label_defs.specs.Members.{in_order}
use Rattle.selective_defs.specs.Selective.{Among}
use Rattle.edge_defs.specs.Edge.{Note, Upstream, Remote, VrfPattern, Selected, VrfFlow, TakenRoute, Taken, note_cmp, pattern_cmp, flow_cmp, no_control}
use Rattle.edge_defs.specs.Imported.{found_in, imported_inclusive, join_by}
use Rattle.edge_defs.specs.Example.{first, second, first_addr, first_prefix, second_vrf, second_prefix, second_own, second_control, first_table, distinguisher, place_of, inclusive_key, inclusive_value, inclusive_tunnel, unicast_key, unicast_value, taken, source, group, upstream}
use Rattle.edge_defs.specs.Keys.{Value, key_cmp}
use Rattle.edge_defs.specs.Originated.{originated, inclusive_route, unicast_routes, selective_key, tunnel_value, active_key, plain_value, is_iface_of}
use Rattle.edge_defs.specs.Place.{OwnVrf, own_vrfs, tunnel_number}
use Rattle.edge_defs.specs.Steps.{changed_leaves}
use Rattle.edge_defs.specs.Tunnels.{flow_tunnels, inclusive_tunnels, leaves, tunnels_of}
use Rattle.edge_defs.specs.Upstream.{costs_of, known_from, known_route, known_routes, upstream_by, upstream_for}
use Rattle.edge_defs.proofs.KeyLemmas.{key_total, note_total}
use Rattle.edge_defs.proofs.LeafLemmas.{call_for, changed_from, changed_to}

-- ---- empty maps and sets

no_items : {A : Type 0} (list : List A) → length list ≡ 0 → list ≡ []
no_items [] e = refl
no_items (x ∷ list) e = absurd (omega (arith, e))

pub no_entries : {K : Type 0} (R : K → K → Ordering) (X : Type 0) → maps.entries (maps.empty {X = X} {R = R}) ≡ []
no_entries R X = no_items (maps.entries maps.empty) (sym (maps.len-entries maps.empty) ∙ maps.len-empty R X)

pub no_members : {K : Type 0} {R : K → K → Ordering} → IsTotalOrder R → (list : List K) → ((k : K) → list_any (eq_by_cmp R k) list ≡ false)
    → list ≡ []
no_members total [] none = refl
no_members {R = R} total (k ∷ list) none = absurd (let itself = ap is_eq (tied_itself total k) in let other = none k in cc)

no_notes : in_order (sets.empty {R = note_cmp}) ≡ []
no_notes = none_in_order note_total

-- ---- the first edge

-- what it originates, with the selections and the notes
abbrev originated_with : List (VrfPattern × Selected) → List Note → List (Key × Value)
originated_with selections notes = flat_map (λ (own : OwnVrf).
    inclusive_route (place_of first) own ∷ (unicast_routes (place_of first) own
    ++ (map (λ (entry : VrfPattern × Selected). (
      selective_key (place_of first) own.vrf entry.0.pattern,
      tunnel_value (place_of first) own.vrf (tunnel_number own.vrf entry.1.number),
    ))
    (filter (λ (entry : VrfPattern × Selected). entry.0.vrf.0 == own.id.0) selections)
    ++ map (λ (note : Note). (active_key own.vrf note.source note.group, plain_value (place_of first) own.vrf))
    (filter (λ (note : Note). is_iface_of (place_of first).scenario own.id note.iface) notes))))
    (own_vrfs (place_of first))

pub originates : originated (place_of first) no_control ≡ (inclusive_key, inclusive_value) ∷ (unicast_key, unicast_value) ∷ []
originates =
    ap (λ (selections : List (VrfPattern × Selected)). originated_with selections (in_order no_control.notes)) (no_entries pattern_cmp Selected)
    ∙ ap (λ (notes : List Note). originated_with [] notes) no_notes

-- ---- the second edge

table_entries : maps.entries first_table ≡ (unicast_key, taken unicast_value) ∷ (inclusive_key, taken inclusive_value) ∷ []
table_entries =
    maps.entries-insert key_total (maps.insert maps.empty unicast_key (taken unicast_value)) inclusive_key (taken inclusive_value)
    ∙ ap (maps.put key_cmp inclusive_key (taken inclusive_value)) (maps.entries-insert key_total maps.empty unicast_key (taken unicast_value))
    ∙ ap (λ (entries : List (Key × TakenRoute)). maps.put key_cmp inclusive_key (taken inclusive_value)
    (maps.put key_cmp unicast_key (taken unicast_value) entries)) (no_entries key_cmp TakenRoute)

peers_entries : maps.entries second_control.peers ≡ (first, first_table) ∷ []
peers_entries = maps.entries-insert node_cmp_total maps.empty first first_table ∙ ap (maps.put node_cmp first first_table) (no_entries node_cmp Taken)

peer_table : maps.get second_control.peers first ≡ Some first_table
peer_table = maps.get-insert node_cmp_total maps.empty first first_table first

unicast_taken : maps.get first_table unicast_key ≡ Some (taken unicast_value)
unicast_taken = maps.get-entries first_table unicast_key ∙ ap (maps.find key_cmp unicast_key) table_entries

abbrev local : KnownRoute
local = record { prefix = second_prefix; origin = origins.Local (record { 0 = 1 }) }

abbrev remote : KnownRoute
remote = record { prefix = first_prefix; origin = origins.Remote first first_addr distinguisher }

abbrev own_routes : List KnownRoute
own_routes = map of_site (local_routes (place_of second).scenario second_own.id)

known : known_routes (place_of second) second_control second_own ≡ own_routes ++ remote ∷ []
known =
    ap (λ (peers : List (NodeId × Taken)). own_routes ++ flat_map (known_from (place_of second) second_vrf) peers) peers_entries
    ∙ ap (λ (entries : List (Key × TakenRoute)). own_routes ++ (found_in (known_route (place_of second) second_vrf first) entries ++ []))
    table_entries

abbrev best_of : List KnownRoute → Option KnownRoute
best_of routes = best_route (costs_of (place_of second) second_own routes source group) routes source

best : best_of (known_routes (place_of second) second_control second_own) ≡ Some remote
best = ap best_of known

abbrev table_of : Option Taken → Taken
table_of got = elim got [ None ↦ maps.empty | Some table ↦ table ]

abbrev told_by : Option TakenRoute → Option Upstream
told_by got = got >>? λ route. join_by first_addr route.value >>? λ by. Some (Remote first distinguisher by.import by.source_as)

by_remote : upstream_by (place_of second) second_control remote ≡ Some upstream
by_remote =
    ap (λ (got : Option Taken). told_by (maps.get (table_of got) unicast_key)) peer_table
    ∙ ap told_by unicast_taken

pub chooses : upstream_for (place_of second) second_control second_own source group ≡ Some upstream
chooses = ap (λ (route : Option KnownRoute). route >>? upstream_by (place_of second) second_control) best ∙ by_remote

-- the tunnels that it wants
leaf_list : flat_map (tunnels_of (place_of second) second_control) (own_vrfs (place_of second)) ≡ inclusive_tunnel ∷ []
leaf_list =
    ap (λ (peers : List (NodeId × Taken)). (flat_map (inclusive_tunnels (place_of second) second_own) peers
    ++ flat_map (flow_tunnels (place_of second) second_control second_own)
    (filter (λ (entry : VrfFlow × Option Upstream). entry.0.vrf.0 == 1) (maps.entries no_control.flows))) ++ []) peers_entries
    ∙ ap (λ (entries : List (Key × TakenRoute)).
    ((found_in (imported_inclusive second_vrf first_addr) entries ++ []) ++ flat_map (flow_tunnels (place_of second) second_control second_own)
    (filter (λ (entry : VrfFlow × Option Upstream). entry.0.vrf.0 == 1) (maps.entries no_control.flows))) ++ []) table_entries
    ∙ ap (λ (flows : List (VrfFlow × Option Upstream)). (inclusive_tunnel ∷ flat_map (flow_tunnels (place_of second) second_control second_own)
    (filter (λ (entry : VrfFlow × Option Upstream). entry.0.vrf.0 == 1) flows)) ++ []) (no_entries flow_cmp (Option Upstream))

pub leaf : sets.contains (leaves (place_of second) second_control) inclusive_tunnel ≡ true
leaf =
    sets.contains-from_list fec_cmp_total (flat_map (tunnels_of (place_of second) second_control) (own_vrfs (place_of second))) inclusive_tunnel
    ∙ ap (list_any (eq_by_cmp fec_cmp inclusive_tunnel)) leaf_list

-- before, it wants none
no_leaf_list : flat_map (tunnels_of (place_of second) no_control) (own_vrfs (place_of second)) ≡ []
no_leaf_list =
    ap (λ (peers : List (NodeId × Taken)). (flat_map (inclusive_tunnels (place_of second) second_own) peers
    ++ flat_map (flow_tunnels (place_of second) no_control second_own)
    (filter (λ (entry : VrfFlow × Option Upstream). entry.0.vrf.0 == 1) (maps.entries no_control.flows))) ++ []) (no_entries node_cmp Taken)
    ∙ ap (λ (flows : List (VrfFlow × Option Upstream)). flat_map (flow_tunnels (place_of second) no_control second_own)
    (filter (λ (entry : VrfFlow × Option Upstream). entry.0.vrf.0 == 1) flows) ++ []) (no_entries flow_cmp (Option Upstream))

no_leaf : (fec : Fec) → sets.contains (leaves (place_of second) no_control) fec ≡ false
no_leaf fec =
    sets.contains-from_list fec_cmp_total (flat_map (tunnels_of (place_of second) no_control) (own_vrfs (place_of second))) fec
    ∙ ap (list_any (eq_by_cmp fec_cmp fec)) no_leaf_list

one_leaf : (fec : Fec) → sets.contains (leaves (place_of second) second_control) fec ≡ true → fec ≡ inclusive_tunnel
one_leaf fec e =
    let tied : (eq_by_cmp fec_cmp fec inclusive_tunnel || false) ≡ true =
    sym (sets.contains-from_list fec_cmp_total (flat_map (tunnels_of (place_of second) second_control) (own_vrfs (place_of second))) fec
    ∙ ap (list_any (eq_by_cmp fec_cmp fec)) leaf_list) ∙ e in
    elim (or_cases (eq_by_cmp fec_cmp fec inclusive_tunnel) false tied) [
      | inl same ↦ fec_cmp_exact fec inclusive_tunnel ((Equal-is (fec_cmp fec inclusive_tunnel)).0 same)
      | inr none ↦ absurd cc
    ]

wanted_call : (old new : FinSet fec_cmp) (fec : Fec) → sets.contains new fec ≡ true → call_for old new fec ≡ labels.Want fec
wanted_call old new fec e = ap (λ b. cond b (labels.Want fec) (labels.Unwant fec)) e

pub wants : (call : labels.Call) → Among call (changed_leaves (leaves (place_of second) no_control) (leaves (place_of second) second_control)) ↔
    (call ≡ labels.Want inclusive_tunnel)
wants call =
    let old : FinSet fec_cmp = leaves (place_of second) no_control in
    let new : FinSet fec_cmp = leaves (place_of second) second_control in (
      λ h. (let made = changed_from old new call h in
          let is_new : sets.contains new made.0 ≡ true = ap (λ b. b || sets.contains new made.0) (sym (no_leaf made.0)) ∙ made.3 in
          let fec = one_leaf made.0 is_new in
          made.1 ∙ wanted_call old new made.0 is_new ∙ ap (λ (own : Fec). labels.Want own) fec),
      λ e. subst (λ (own : labels.Call). Among own (changed_leaves old new)) (wanted_call old new inclusive_tunnel leaf ∙ sym e)
          (changed_to old new inclusive_tunnel (ap (λ b. not (b && sets.contains new inclusive_tunnel)) (no_leaf inclusive_tunnel))
          (ap (λ b. b || sets.contains new inclusive_tunnel) (no_leaf inclusive_tunnel) ∙ leaf)),
    )
