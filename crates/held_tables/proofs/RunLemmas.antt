-- What peers are to have does not look at which delays were run.
use Rattle.std.proofs.Common.{◌≡◌, ℕ, ◌==◌, ◌&&◌, Bool, true, false, cond, T, List, [], ◌∷◌, ◌++◌, map, refl, sym, ap, subst, ◌∙◌}
use Rattle.std.specs.List.{filter, flat_map}
use Rattle.std.specs.Ordering.{is_lt}
use Rattle.std.specs.declared.cmp.Ordering.{Ordering}
use Rattle.std.specs.Cmp.{IsTotalOrder}
use Rattle.std.specs.FinMap as maps
use Rattle.std.specs.FinMap.{FinMap, IsAntisymmetric}
use Rattle.std.specs.FinMap.Entries.{below_all, is_sorted}
use Rattle.mv_base.specs.declared.ids.NodeId.{NodeId}
use Rattle.bgp_messages.specs.declared.bgp_attributes.key.Key.{Key}
use Rattle.edge_defs.specs.Edge.{Control, Selected, VrfPattern, pattern_cmp}
use Rattle.edge_defs.specs.Held.{held_for, join_routes}
use Rattle.edge_defs.specs.Keys.{Value}
use Rattle.edge_defs.specs.Originated.{active_routes, inclusive_route, selective_key, selective_routes, tunnel_value, unicast_routes}
use Rattle.edge_defs.specs.Place.{EdgePlace, OwnVrf, own_vrfs, tunnel_number}
use Rattle.edge_defs.specs.Steps.{selection_run, selections_run}
use Rattle.edge_defs.proofs.KeyLemmas.{pattern_total, pattern_exact}

-- ---- a map whose values are changed

abbrev changed : {K V : Type 0} → (V → V) → List (K × V) → List (K × V)
changed {K} {V} f es = map (λ (e : K × V). (e.0, f e.1)) es

module _ {K V : Type 0} (R : K → K → Ordering) (f : V → V) where
  below_changed : (x : K) (es : List (K × V)) → below_all R x (changed f es) ≡ below_all R x es
  below_changed x [] = refl
  below_changed x (e ∷ es) = ap (λ (b : Bool). is_lt (R x e.0) && b) (below_changed x es)

  sorted_changed : (es : List (K × V)) → is_sorted R (changed f es) ≡ is_sorted R es
  sorted_changed [] = refl
  sorted_changed (e ∷ es) = λ i. below_changed e.0 es i && sorted_changed es i

  -- its entries are in the same order
  entries-changed : IsTotalOrder R → IsAntisymmetric R → (m : FinMap R V)
      → maps.entries (maps.from_entries {R = R} (changed f (maps.entries m))) ≡ changed f (maps.entries m)
  entries-changed total exact m =
      let es : List (K × V) = changed f (maps.entries m) in
      let sorted : T (is_sorted R es) = subst T (sym (sorted_changed (maps.entries m))) (maps.entries_sorted m) in
      let one : maps.from_entries {R = R} es ≡ maps.from_sorted es =
      maps.same_map total exact (maps.from_entries es) (maps.from_sorted es)
      (λ q. maps.get-from_entries total es q ∙ sym (maps.get-from_sorted R es q sorted)) in
      ap maps.entries one ∙ maps.entries-from_sorted R es sorted

-- ---- selections

module _ (place : EdgePlace) (own : OwnVrf) where
  abbrev route : VrfPattern × Selected → Key × Value
  route entry = (selective_key place own.vrf entry.0.pattern, tunnel_value place own.vrf (tunnel_number own.vrf entry.1.number))

  abbrev is_own : VrfPattern × Selected → Bool
  is_own entry = entry.0.vrf.0 == own.id.0

  run_routes : (delay now : ℕ) (es : List (VrfPattern × Selected))
      → map route (filter is_own (changed (selection_run delay now) es)) ≡ map route (filter is_own es)
  run_routes delay now [] = refl
  run_routes delay now (e ∷ es) =
      let run : VrfPattern × Selected = (e.0, selection_run delay now e.1) in
      let more : List (VrfPattern × Selected) = changed (selection_run delay now) es in
      elim (is_own e) as (λ b. map route (cond b (run ∷ filter is_own more) (filter is_own more))
      ≡ map route (cond b (e ∷ filter is_own es) (filter is_own es))) [
        | true ↦ ap (λ (routes : List (Key × Value)). route e ∷ routes) (run_routes delay now es)
        | false ↦ run_routes delay now es
      ]

module _ (place : EdgePlace) (control : Control) (delay now : ℕ) where
  abbrev thereafter : Control
  thereafter = record control { selections = selections_run delay now control.selections }

  selective_run : (own : OwnVrf) → selective_routes place thereafter own ≡ selective_routes place control own
  selective_run own =
      ap (λ (es : List (VrfPattern × Selected)). map (route place own) (filter (is_own place own) es))
      (entries-changed pattern_cmp (selection_run delay now) pattern_total pattern_exact control.selections)
      ∙ run_routes place own delay now (maps.entries control.selections)

  pub held_run : (peer : NodeId) → held_for place thereafter peer ≡ held_for place control peer
  held_run peer = λ i. maps.from_entries
      (flat_map (λ own. inclusive_route place own ∷ (unicast_routes place own ++ (selective_run own i ++ active_routes place control own)))
      (own_vrfs place)
      ++ join_routes place control peer)
