-- Which label calls a change of leaves makes.
use Rattle.std.proofs.Common.{◌≡◌, Bool, true, false, cond, not, ◌&&◌, ◌||◌, inl, inr, List, [], ◌∷◌, refl, sym, ap, subst, ◌∙◌}
use Rattle.std.specs.Prelude.{map, if◌then◌else◌}
use Rattle.std.specs.List.{filter, list_any}
use Rattle.std.specs.Ordering.{is_eq, eq_by_cmp}
use Rattle.std.specs.Cmp.{tied_itself, Equal-is}
use Rattle.std.specs.FinSet as sets
use Rattle.std.specs.FinSet.{FinSet}
use Rattle.std.proofs.lemmas.Bool.{or_cases, or_left, or_right}
use Rattle.label_defs.specs.mldp.declared.mldp_fec.fec.Fec.{Fec}
use Rattle.label_defs.specs.Keys.{fec_cmp}
use Rattle.label_defs.specs.Steps as labels
use Rattle.label_defs.specs.Members.{in_order}
use Rattle.label_defs.proofs.KeyLemmas.{fec_cmp_total, fec_cmp_exact}
use Rattle.label_defs.proofs.MemberLemmas.{contains_in_order}
use Rattle.selective_defs.specs.Selective.{Among}
use Rattle.edge_defs.specs.Steps.{changed_leaves}

module _ {X : Type 0} (passes : Fec → Bool) (make : Fec → X) where
  made_from : (x : X) (list : List Fec) → Among x (map make (filter passes list))
      → (fec : Fec) × (x ≡ make fec) × (passes fec ≡ true) × (list_any (eq_by_cmp fec_cmp fec) list ≡ true)
  made_from x [] h = absurd h
  made_from x (fec ∷ list) h =
      elim (passes fec) as (λ b. passes fec ≡ b → Among x (map make (cond b (fec ∷ filter passes list) (filter passes list)))
      → (own : Fec) × (x ≡ make own) × (passes own ≡ true) × (list_any (eq_by_cmp fec_cmp own) (fec ∷ list) ≡ true)) [
        | true ↦ λ e h. elim h [
          | inl same ↦ (
            fec,
            same,
            e,
            or_left (eq_by_cmp fec_cmp fec fec) (list_any (eq_by_cmp fec_cmp fec) list)
                (ap is_eq (tied_itself fec_cmp_total fec)),
          )
          | inr more ↦ let own = made_from x list more in
              (own.0, own.1, own.2, or_right (eq_by_cmp fec_cmp own.0 fec) (list_any (eq_by_cmp fec_cmp own.0) list) own.3)
        ]
        | false ↦ λ e h. let own = made_from x list h in
            (own.0, own.1, own.2, or_right (eq_by_cmp fec_cmp own.0 fec) (list_any (eq_by_cmp fec_cmp own.0) list) own.3)
      ] refl h

  made_to : (fec : Fec) (list : List Fec) → passes fec ≡ true → list_any (eq_by_cmp fec_cmp fec) list ≡ true
      → Among (make fec) (map make (filter passes list))
  made_to fec [] e h = absurd cc
  made_to fec (other ∷ list) e h = elim (or_cases (eq_by_cmp fec_cmp fec other) (list_any (eq_by_cmp fec_cmp fec) list) h) [
    | inl tied ↦ let same : fec ≡ other = fec_cmp_exact fec other ((Equal-is (fec_cmp fec other)).0 tied) in
        subst (λ b. Among (make fec) (map make (cond b (other ∷ filter passes list) (filter passes list)))) (sym e ∙ ap passes same)
        (inl (ap make same))
    | inr more ↦ elim (passes other) as (λ b. Among (make fec) (map make (cond b (other ∷ filter passes list) (filter passes list))))
        [ true ↦ inr (made_to fec list e more) | false ↦ made_to fec list e more ]
  ]

module _ (old new : FinSet fec_cmp) where
  -- the tree is a leaf of one of the two alone
  abbrev pub differs : Fec → Bool
  differs fec = not (sets.contains old fec && sets.contains new fec)

  abbrev pub call_for : Fec → labels.Call
  call_for fec = if sets.contains new fec then labels.Want fec else labels.Unwant fec

  pub changed_from : (call : labels.Call) → Among call (changed_leaves old new)
      → (fec : Fec) × (call ≡ call_for fec) × (differs fec ≡ true) × ((sets.contains old fec || sets.contains new fec) ≡ true)
  changed_from call h =
      let own = made_from differs call_for call (in_order (sets.union old new)) h in (
        own.0,
        own.1,
        own.2,
        sym (sets.contains-union fec_cmp_total old new own.0) ∙ contains_in_order fec_cmp_total (sets.union old new) own.0
            ∙ own.3,
      )

  pub changed_to : (fec : Fec) → differs fec ≡ true → (sets.contains old fec || sets.contains new fec) ≡ true
      → Among (call_for fec) (changed_leaves old new)
  changed_to fec e h =
      made_to differs call_for fec (in_order (sets.union old new)) e
      (sym (contains_in_order fec_cmp_total (sets.union old new) fec) ∙ sets.contains-union fec_cmp_total old new fec ∙ h)
