-- The number of a selection is the least that no other one of its VRF has.
use Rattle.std.proofs.Common.{◌≡◌, ℕ, suc, ◌+◌, ◌≤◌, ◌<◌, ◌==◌, Bool, true, false, cond, List, [], ◌∷◌, length, map, Some, refl, ap, subst, ◌∙◌, arith}
use Rattle.std.specs.List.{filter, list_any}
use Rattle.std.specs.FinMap as maps
use Rattle.std.specs.FinMap.{FinMap, get-insert}
use Rattle.std.proofs.lemmas.Bool.{and_parts, and_from, eq-eqb, eqb-true}
use Rattle.mv_base.specs.declared.ids.VrfId.{VrfId}
use Rattle.mv_base.specs.declared.pattern.Pattern.{Pattern}
use Rattle.selective_defs.specs.Selective.{Among, free_number}
use Rattle.selective_defs.specs.declared.selection.Selection.{Selection}
use Rattle.selective_defs.proofs.NumberLemmas.{least_unused, few_used}
use Rattle.edge_defs.specs.Edge.{VrfPattern, pattern_cmp, Selected, Control}
use Rattle.edge_defs.specs.Steps.{is_used}
use Rattle.edge_defs.specs.Tunnels.{selection_of, selections_of}
use Rattle.edge_defs.proofs.KeyLemmas.{pattern_total, pattern_exact}
use Rattle.edge_words.proofs.calm_laws.Lists.{among_map, among_filter, any_from, any_among, not_both}
use Rattle.edge_words.proofs.calm_laws.Maps.{entry_get, get_entry}
use Rattle.edge_words.specs.Known.{IsLeastFree, IsNumbered}
use Rattle.edge_defs.proofs.table_laws.CompareLemmas.{own_key}

length-map : {A B : Type 0} (f : A → B) (xs : List A) → length (map f xs) ≡ length xs
length-map f [] = refl
length-map f (x ∷ xs) = ap suc (length-map f xs)

length-filter : {A : Type 0} (p : A → Bool) (xs : List A) → length (filter p xs) ≤ length xs
length-filter p [] = omega arith
length-filter {A = A} p (x ∷ xs) = by (p x) (length-filter p xs)
  where
    by : (b : Bool) → length (filter p xs) ≤ length xs → length (cond {A = List A} b (x ∷ filter p xs) (filter p xs)) ≤ length (x ∷ xs)
    by true h = omega (arith, h)
    by false h = omega (arith, h)

module _ (now : ℕ) (control : Control) (vrf : VrfId) (pattern : Pattern) where
  abbrev old : FinMap pattern_cmp Selected
  old = control.selections

  abbrev used : ℕ → Bool
  used number = list_any (is_used vrf number) (maps.entries old)

  abbrev of_vrf : VrfPattern × Selected → Bool
  of_vrf entry = entry.0.vrf.0 == vrf.0

  -- the numbers of the VRF's selections
  abbrev numbers : List ℕ
  numbers = map (λ (selection : Selection). selection.number) (selections_of control vrf)

  abbrev number : ℕ
  number = free_number used (maps.len old) 1

  user : (n : ℕ) → used n ≡ true → (entry : VrfPattern × Selected) × (Among entry (maps.entries old)) × (entry.0.vrf.0 ≡ vrf.0) × (entry.1.number ≡ n)
  user n h =
      let found = any_among (is_used vrf n) (maps.entries old) h in
      let both = and_parts (found.0.0.vrf.0 == vrf.0) (found.0.1.number == n) found.2 in
      (found.0, found.1, eqb-true found.0.0.vrf.0 vrf.0 both.0, eqb-true found.0.1.number n both.1)

  listed : (n : ℕ) → used n ≡ true → Among n numbers
  listed n h =
      let by = user n h in
      let here = among_filter of_vrf by.0 (maps.entries old) (eq-eqb by.0.0.vrf.0 vrf.0 by.2) by.1 in
      subst (λ (m : ℕ). Among m numbers) by.3
      (among_map (λ (selection : Selection). selection.number) (selection_of by.0) (selections_of control vrf)
      (among_map selection_of by.0 (filter of_vrf (maps.entries old)) here))

  sizes : length numbers ≡ length (filter of_vrf (maps.entries old))
  sizes = length-map (λ (selection : Selection). selection.number) (selections_of control vrf)
      ∙ length-map selection_of (filter of_vrf (maps.entries old))

  enough : length numbers ≤ maps.len old
  enough =
      let own = sizes in
      let few = length-filter of_vrf (maps.entries old) in
      let all : maps.len old ≡ length (maps.entries old) = maps.len-entries old in
      omega (arith, own, few, all)

  free : IsLeastFree vrf old number
  free =
      let is = least_unused used numbers (maps.len old) listed enough in
      record {
        counted = is.counted;
        free = λ key selected at own same. not_both (used number)
            (any_from (is_used vrf number) (key, selected) (maps.entries old) (get_entry pattern_exact old key selected at)
            (and_from (key.vrf.0 == vrf.0) (selected.number == number) (eq-eqb key.vrf.0 vrf.0 own) (eq-eqb selected.number number same))) is.free;
        least = λ lower low below. (let by = user lower (is.least lower low below) in
            (by.0.0, by.0.1, entry_get pattern_total old by.0.0 by.0.1 by.1, by.2, by.3));
      }

  few : number ≤ length (selections_of control vrf) + 1
  few =
      let bound = few_used used numbers (maps.len old) listed enough in
      let own = length-map (λ (selection : Selection). selection.number) (selections_of control vrf) in
      omega (arith, bound, own)

  pub numbered : IsNumbered now control vrf pattern
  numbered =
      let key : VrfPattern = record { vrf = vrf; pattern = pattern } in
      let value : Selected = record { number = number; since = now; run = false } in
      record {
        number = number;
        kept = get-insert pattern_total old key value key ∙ ap (λ (b : Bool). cond b (Some value) (maps.get old key)) (own_key pattern_total key);
        least = free;
        few = few;
      }

  pub few_numbered : length (selections_of control vrf) < 1048575 → (is : IsNumbered now control vrf pattern) × (is.number < 1048576)
  few_numbered less = (let is = numbered in let bound = is.few in (is, omega (arith, bound, less)))
