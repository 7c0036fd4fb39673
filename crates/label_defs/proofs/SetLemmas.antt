-- Sets of trees and branches: what a test of the items says, and what a map of ends answers.
use Rattle.std.proofs.Common.{◌≡◌, Bool, true, false, cond, not, ◌&&◌, ◌||◌, inl, inr, List, [], ◌∷◌, map, Some, None, option_map, refl, sym, ap, subst, ◌∙◌}
use Rattle.std.specs.List.{list_any}
use Rattle.std.specs.Ordering.{eq_by_cmp, is_eq}
use Rattle.std.specs.declared.cmp.Ordering.{Ordering}
use Rattle.std.specs.Cmp.{IsTotalOrder, tied_itself, both_ways, Equal-is}
use Rattle.std.specs.FinMap as maps
use Rattle.std.specs.FinMap.{FinMap, IsAntisymmetric, find}
use Rattle.std.specs.FinSet as sets
use Rattle.std.specs.FinSet.{FinSet}
use Rattle.std.proofs.lemmas.Bool.{cases_Bool, or_cases, or_left, or_right}
use Rattle.label_defs.specs.Members.{in_order}
use Rattle.label_defs.proofs.KeyLemmas.{ties, apart}
use Rattle.label_defs.proofs.MemberLemmas.{contains_in_order}

module _ {K : Type 0} {R : K → K → Ordering} (total : IsTotalOrder R) (exact : IsAntisymmetric R) where
  -- an item that passes
  any_from : (p : K → Bool) (xs : List K) (k : K) → list_any (eq_by_cmp R k) xs ≡ true → p k ≡ true → list_any p xs ≡ true
  any_from p [] k e h = absurd cc
  any_from p (x ∷ xs) k e h = elim (or_cases (eq_by_cmp R k x) (list_any (eq_by_cmp R k) xs) e) [
    | inl t ↦ or_left (p x) (list_any p xs) (subst (λ y. p y ≡ true) (exact k x ((Equal-is (R k x)).0 t)) h)
    | inr t ↦ or_right (p x) (list_any p xs) (any_from p xs k t h)
  ]

  any_to : (p : K → Bool) (xs : List K) → list_any p xs ≡ true → (k : K) × (list_any (eq_by_cmp R k) xs ≡ true) × (p k ≡ true)
  any_to p [] e = absurd cc
  any_to p (x ∷ xs) e = elim (or_cases (p x) (list_any p xs) e) [
    | inl t ↦ (x, or_left (eq_by_cmp R x x) (list_any (eq_by_cmp R x) xs) (ap is_eq (tied_itself total x)), t)
    | inr t ↦ let more = any_to p xs t in (more.0, or_right (eq_by_cmp R more.0 x) (list_any (eq_by_cmp R more.0) xs) more.1, more.2)
  ]

  pub member_passes : (p : K → Bool) (s : FinSet R) (k : K) → sets.contains s k ≡ true → p k ≡ true → list_any p (in_order s) ≡ true
  member_passes p s k e h = any_from p (in_order s) k (sym (contains_in_order total s k) ∙ e) h

  pub passing_member : (p : K → Bool) (s : FinSet R) → list_any p (in_order s) ≡ true → (k : K) × (sets.contains s k ≡ true) × (p k ≡ true)
  passing_member p s e = let x = any_to p (in_order s) e in (x.0, contains_in_order total s x.0 ∙ x.1, x.2)

  -- sets that agree on what passes
  pub any_as : (p : K → Bool) (s t : FinSet R) → ((k : K) → p k ≡ true → sets.contains s k ≡ sets.contains t k)
      → list_any p (in_order s) ≡ list_any p (in_order t)
  any_as p s t same = both_ways (list_any p (in_order s)) (list_any p (in_order t))
      (λ h. let x = passing_member p s h in member_passes p t x.0 (sym (same x.0 x.2) ∙ x.1) x.2)
      (λ h. let x = passing_member p t h in member_passes p s x.0 (same x.0 x.2 ∙ x.1) x.2)

  pub inserted_here : (s : FinSet R) (k : K) → sets.contains (sets.insert s k) k ≡ true
  inserted_here s k = sets.contains-insert total s k k ∙ or_left (eq_by_cmp R k k) (sets.contains s k) (ties R total k k refl)

  pub inserted_other : (s : FinSet R) (k q : K) → (q ≡ k → ⊥) → sets.contains (sets.insert s k) q ≡ sets.contains s q
  inserted_other s k q ne = sets.contains-insert total s k q ∙ ap (λ b. b || sets.contains s q) (apart R exact q k ne)

  pub removed_here : (s : FinSet R) (k : K) → sets.contains (sets.remove s k) k ≡ false
  removed_here s k = sets.contains-remove total s k k ∙ ap (λ b. not b && sets.contains s k) (ties R total k k refl)

  pub removed_other : (s : FinSet R) (k q : K) → (q ≡ k → ⊥) → sets.contains (sets.remove s k) q ≡ sets.contains s q
  removed_other s k q ne = sets.contains-remove total s k q ∙ ap (λ b. not b && sets.contains s q) (apart R exact q k ne)

  pub retained : (s : FinSet R) (p : K → Bool) (q : K) → sets.contains (sets.retain s p) q ≡ (sets.contains s q && p q)
  retained s p q = sets.contains-retain s p q (λ x e. ap p (sym (exact q x e)))

  -- a set that has it, with it; and one that has it not, without it
  pub inserted_again : (s : FinSet R) (k : K) → sets.contains s k ≡ true → sets.insert s k ≡ s
  inserted_again s k e = sets.same_set total exact (sets.insert s k) s (λ q. elim (cases_Bool (eq_by_cmp R q k)) [
    | inl t ↦ (let same = exact q k ((Equal-is (R q k)).0 t) in
        subst (λ x. sets.contains (sets.insert s k) x ≡ sets.contains s x) (sym same) (inserted_here s k ∙ sym e))
    | inr f ↦ sets.contains-insert total s k q ∙ ap (λ b. b || sets.contains s q) f
  ])

  pub removed_again : (s : FinSet R) (k : K) → sets.contains s k ≡ false → sets.remove s k ≡ s
  removed_again s k e = sets.same_set total exact (sets.remove s k) s (λ q. elim (cases_Bool (eq_by_cmp R q k)) [
    | inl t ↦ (let same = exact q k ((Equal-is (R q k)).0 t) in
        subst (λ x. sets.contains (sets.remove s k) x ≡ sets.contains s x) (sym same) (removed_here s k ∙ sym e))
    | inr f ↦ sets.contains-remove total s k q ∙ ap (λ b. not b && sets.contains s q) f
  ])

  -- maps
  pub put_here : {X : Type 0} (m : FinMap R X) (k : K) (v : X) → maps.get (maps.insert m k v) k ≡ Some v
  put_here m k v = maps.get-insert total m k v k ∙ ap (λ b. cond b (Some v) (maps.get m k)) (ties R total k k refl)

  pub put_other : {X : Type 0} (m : FinMap R X) (k : K) (v : X) (q : K) → (q ≡ k → ⊥) → maps.get (maps.insert m k v) q ≡ maps.get m q
  put_other m k v q ne = maps.get-insert total m k v q ∙ ap (λ b. cond b (Some v) (maps.get m q)) (apart R exact q k ne)

  pub cut_here : {X : Type 0} (m : FinMap R X) (k : K) → maps.get (maps.remove m k) k ≡ None
  cut_here m k = maps.get-remove total m k k ∙ ap (λ b. cond b None (maps.get m k)) (ties R total k k refl)

  pub cut_other : {X : Type 0} (m : FinMap R X) (k q : K) → (q ≡ k → ⊥) → maps.get (maps.remove m k) q ≡ maps.get m q
  cut_other m k q ne = maps.get-remove total m k q ∙ ap (λ b. cond b None (maps.get m q)) (apart R exact q k ne)

  find-map : {X Y : Type 0} (f : X → Y) (q : K) (entries : List (K × X))
      → find R q (map (λ entry. (entry.0, f entry.1)) entries) ≡ option_map f (find R q entries)
  find-map f q [] = refl
  find-map f q (e ∷ more) =
      elim (eq_by_cmp R q e.0) as (λ b. cond b (Some (f e.1)) (find R q (map (λ entry. (entry.0, f entry.1)) more))
      ≡ option_map f (cond b (Some e.1) (find R q more))) [
        | true ↦ refl
        | false ↦ find-map f q more
      ]

  -- each value changes
  pub get-changed : {X Y : Type 0} (f : X → Y) (m : FinMap R X) (q : K)
      → maps.get (maps.from_entries {R = R} (map (λ entry. (entry.0, f entry.1)) (maps.entries m))) q ≡ option_map f (maps.get m q)
  get-changed f m q =
      maps.get-from_entries total (map (λ entry. (entry.0, f entry.1)) (maps.entries m)) q ∙ find-map f q (maps.entries m)
      ∙ ap (option_map f) (sym (maps.get-entries m q))
