-- The changes of the candidates are those of the leaves.
use Rattle.std.proofs.Common.{◌≡◌, ◌∙◌, refl, sym, ap, ℕ, ◌+◌, ◌<◌, Bool, true, false, not, cond, ◌&&◌, ◌||◌, List, [], ◌∷◌, ◌++◌, map, drop, length, get_or}
use Rattle.std.specs.List.{filter, list_any}
use Rattle.std.specs.List.Sorted.{IsStrictlySortedBy}
use Rattle.std.specs.Ordering.{eq_by_cmp}
use Rattle.std.specs.FinMap as maps
use Rattle.std.specs.FinSet as sets
use Rattle.std.specs.FinSet.{FinSet}
use Rattle.std.proofs.lemmas.Bool.{or_left, or_right}
use Rattle.std.proofs.lemmas.List.{drop_more}
use Rattle.std.proofs.lemmas.List.Kept.{IsStrictlySortedBy-filter}
use Rattle.std.proofs.lemmas.Map.Views.{any-filter_same}
use Rattle.mv_base.proofs.SortedMaps.{map_sorted}
use Rattle.mldp.specs.declared.mldp_fec.fec.Fec.{Fec}
use Rattle.label_defs.specs.Keys.{fec_cmp}
use Rattle.label_defs.specs.LabelData.{same_fec}
use Rattle.label_defs.specs.Members.{in_order}
use Rattle.label_defs.specs.Steps.{Call, Want, Unwant}
use Rattle.label_defs.proofs.KeyLemmas.{fec_cmp_total, fec_cmp_exact, same_fec_equal, same_fec_itself}
use Rattle.label_defs.proofs.MemberLemmas.{contains_in_order}
use Rattle.label_forwarding.specs.Slots.{is_fec}
use Rattle.label_forwarding.proofs.SlotLemmas.{fec-ties, fec_flips}
use Rattle.mldp_node.proofs.label_trees.OrderLemmas.{is_in_order}
use Rattle.node_laws.specs.edge_defs.Steps.{changed_leaves}
use Rattle.edge_labels.specs.declared.changes.LeafChange.{LeafChange}
use Rattle.edge_labels.specs.Calls.{leaf_call}
use Rattle.edge_labels.specs.Changes.{change_at, changes_in, AreCandidates}

-- ---- along a list

append_assoc : {A : Type 0} (xs ys zs : List A) → (xs ++ ys) ++ zs ≡ xs ++ (ys ++ zs)
append_assoc [] ys zs = refl
append_assoc (x ∷ xs) ys zs = ap (λ more. x ∷ more) (append_assoc xs ys zs)

pub one_more : (old : FinSet fec_cmp) (leaves fecs : List Fec) (at : ℕ) (fec : Fec) (was wanted : Bool) (said again whole : List LeafChange)
    → at < length fecs → fec ≡ get_or fecs at fec
    → was ≡ sets.contains old fec → wanted ≡ list_any (same_fec fec) leaves → again ≡ said ++ change_at was wanted fec
    → said ++ changes_in old leaves (drop at fecs) ≡ whole → again ++ changes_in old leaves (drop (at + 1) fecs) ≡ whole
one_more old leaves fecs at fec was wanted said again whole within is a b e h =
    ap (λ (xs : List LeafChange). xs ++ changes_in old leaves (drop (at + 1) fecs)) (e ∙ (λ i. said ++ change_at (a i) (b i) fec))
    ∙ append_assoc said (change_at (sets.contains old fec) (list_any (same_fec fec) leaves) fec) (changes_in old leaves (drop (at + 1) fecs))
    ∙ ap (λ (xs : List Fec). said ++ changes_in old leaves xs)
    (sym (drop_more fecs at fec within ∙ ap (λ (x : Fec). x ∷ drop (at + 1) fecs) (sym is))) ∙ h

pub same_any : (fec : Fec) (fecs : List Fec) → list_any (λ own. is_fec own fec) fecs ≡ list_any (same_fec fec) fecs
same_any fec [] = refl
same_any fec (own ∷ more) = λ i. (fec_flips own fec ∙ fec-ties fec own) i || same_any fec more i

-- ---- the calls of changes

-- whether one of both alone is so
abbrev one_alone : Bool → Bool → Bool
one_alone false b = b
one_alone true b = not b

module _ (old new : FinSet fec_cmp) where
  abbrev differs : Fec → Bool
  differs fec = one_alone (sets.contains old fec) (sets.contains new fec)

  abbrev call_for : Fec → Call
  call_for fec = cond (sets.contains new fec) (Want fec) (Unwant fec)

  first_call : (a b : Bool) (fec : Fec) (rest : List LeafChange) (kept : List Fec) → sets.contains new fec ≡ b
      → map leaf_call rest ≡ map call_for kept
      → map leaf_call (change_at a b fec ++ rest) ≡ map call_for (cond (one_alone a b) (fec ∷ kept) kept)
  first_call false true fec rest kept e h = λ i. cond (sym e i) (Want fec) (Unwant fec) ∷ h i
  first_call true false fec rest kept e h = λ i. cond (sym e i) (Want fec) (Unwant fec) ∷ h i
  first_call true true fec rest kept e h = h
  first_call false false fec rest kept e h = h

  as_calls : (leaves fecs : List Fec) → ((fec : Fec) → list_any (same_fec fec) fecs ≡ true → list_any (same_fec fec) leaves ≡ sets.contains new fec)
      → map leaf_call (changes_in old leaves fecs) ≡ map call_for (filter differs fecs)
  as_calls leaves [] h = refl
  as_calls leaves (fec ∷ more) h =
      let here = h fec (or_left (same_fec fec fec) (list_any (same_fec fec) more) (same_fec_itself fec)) in
      ap (λ (b : Bool). map leaf_call (change_at (sets.contains old fec) b fec ++ changes_in old leaves more)) here
      ∙ first_call (sets.contains old fec) (sets.contains new fec) fec (changes_in old leaves more) (filter differs more) refl
      (as_calls leaves more (λ other k. h other (or_right (same_fec other fec) (list_any (same_fec other) more) k)))

  -- ---- both lists are one

  among : (p : Fec → Bool) (s : FinSet fec_cmp) (q : Fec) → list_any (eq_by_cmp fec_cmp q) (filter p (in_order s)) ≡ (p q && sets.contains s q)
  among p s q =
      any-filter_same (eq_by_cmp fec_cmp q) p (p q) (λ k e. ap p (sym (same_fec_equal q k e))) (in_order s)
      ∙ ap (λ (b : Bool). p q && b) (sym (contains_in_order fec_cmp_total s q))

  rises : (p : Fec → Bool) (s : FinSet fec_cmp) → IsStrictlySortedBy fec_cmp (filter p (in_order s))
  rises p s =
      IsStrictlySortedBy-filter fec_cmp p (in_order s) (map_sorted fec_cmp (maps.from_entries {R = fec_cmp} (map (λ k. (k, tt {0})) (sets.items s))))

  same_flags : (a b k : Bool) → (k ≡ false → a ≡ b) → (not (a && b) && (a || b)) ≡ (one_alone a b && k)
  same_flags true true k h = refl
  same_flags false false k h = refl
  same_flags true false true h = refl
  same_flags false true true h = refl
  same_flags true false false h = absurd (let e : true ≡ false = h refl in cc)
  same_flags false true false h = absurd (let e : false ≡ true = h refl in cc)

  one_list : (candidates : List Fec) → ((fec : Fec) → list_any (same_fec fec) candidates ≡ false → sets.contains old fec ≡ sets.contains new fec)
      → filter differs (in_order (sets.from_list {R = fec_cmp} candidates))
      ≡ filter (λ fec. not (sets.contains old fec && sets.contains new fec)) (in_order (sets.union old new))
  one_list candidates all =
      let own : List Fec = filter differs (in_order (sets.from_list {R = fec_cmp} candidates)) in
      let both : Fec → Bool = λ fec. not (sets.contains old fec && sets.contains new fec) in
      is_in_order fec_cmp_total fec_cmp_exact (sets.from_list own) own (rises differs (sets.from_list candidates))
      (λ q. sym (sets.contains-from_list fec_cmp_total own q))
      ∙ sym (is_in_order fec_cmp_total fec_cmp_exact (sets.from_list own) (filter both (in_order (sets.union old new)))
      (rises both (sets.union old new)) (λ q.
      among both (sets.union old new) q
      ∙ ap (λ (b : Bool). both q && b) (sets.contains-union fec_cmp_total old new q)
      ∙ same_flags (sets.contains old q) (sets.contains new q) (sets.contains (sets.from_list {R = fec_cmp} candidates) q)
      (λ e. all q (sym (sets.contains-from_list fec_cmp_total candidates q) ∙ e))
      ∙ sym (among differs (sets.from_list candidates) q)
      ∙ sym (sets.contains-from_list fec_cmp_total own q)))

  pub all_changes : (candidates leaves : List Fec) → AreCandidates old new candidates leaves
      → map leaf_call (changes_in old leaves (in_order (sets.from_list {R = fec_cmp} candidates))) ≡ changed_leaves old new
  all_changes candidates leaves h =
      as_calls leaves (in_order (sets.from_list {R = fec_cmp} candidates)) (λ fec k.
      h.listed fec (sym (sets.contains-from_list fec_cmp_total candidates fec)
      ∙ contains_in_order fec_cmp_total (sets.from_list {R = fec_cmp} candidates) fec ∙ k))
      ∙ ap (λ (fecs : List Fec). map call_for fecs) (one_list candidates h.all)
