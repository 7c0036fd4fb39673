-- What holds of each entry of a map, and of each member of a set.
use Rattle.std.proofs.Common.{◌≡◌, Bool, true, false, cond, T, not, ◌&&◌, ◌⊎◌, inl, inr, List, [], ◌∷◌, Option, Some, None, refl, sym, ap, subst, ◌∙◌}
use Rattle.std.specs.List.{AllByRecursion, list_any}
use Rattle.std.specs.Ordering.{eq_by_cmp, is_eq, is_lt}
use Rattle.std.specs.declared.cmp.Ordering.{Ordering}
use Rattle.std.specs.declared.cmp.Ordering.TheVariants.{Less, Equal, Greater}
use Rattle.std.specs.Cmp.{IsTotalOrder, tied_itself, Equal-is}
use Rattle.std.specs.FinMap as maps
use Rattle.std.specs.FinMap.{FinMap, IsAntisymmetric, find}
use Rattle.std.specs.FinMap.Entries.{is_sorted, below_all, find_tied}
use Rattle.std.specs.FinSet as sets
use Rattle.std.specs.FinSet.{FinSet}
use Rattle.std.proofs.lemmas.Bool.{or_cases}

-- ---- maps

-- each entry of a map
abbrev pub Each : {K X : Type 0} {R : K → K → Ordering} → (K → X → Type 0) → FinMap R X → Type 0
Each {K} {X} P m = (k : K) (v : X) → maps.get m k ≡ Some v → P k v

abbrev pub AllEntries : {K X : Type 0} → (K → X → Type 0) → List (K × X) → Type 0
AllEntries P es = AllByRecursion (λ e. P e.0 e.1) es

chosen : {X : Type 0} (b : Bool) (x : X) (o : Option X) (v : X) → cond b (Some x) o ≡ Some v → ((b ≡ true) × (x ≡ v)) ⊎ ((b ≡ false) × (o ≡ Some v))
chosen true x o v e = let same : x ≡ v = cc in inl (refl, same)
chosen false x o v e = inr (refl, e)

kept : {X : Type 0} (b : Bool) (o : Option X) (v : X) → cond b None o ≡ Some v → o ≡ Some v
kept true o v e = absurd cc
kept false o v e = e

first : (a b : Bool) → T (a && b) → T a
first true b p = tt
first false b p = p

second : (a b : Bool) → T (a && b) → T b
second true b p = p
second false b p = absurd p

apart : (order : Ordering) → T (is_lt order) → is_eq order ≡ false
apart Less h = refl
apart Equal h = absurd h
apart Greater h = absurd h

none_below : {K V : Type 0} (R : K → K → Ordering) (k : K) (es : List (K × V)) → T (below_all R k es) → find R k es ≡ None
none_below R k [] h = refl
none_below R k (e ∷ es) h =
    ap (λ (b : Bool). cond b (Some e.1) (find R k es)) (apart (R k e.0) (first (is_lt (R k e.0)) (below_all R k es) h))
    ∙ none_below R k es (second (is_lt (R k e.0)) (below_all R k es) h)

module _ {K V : Type 0} {R : K → K → Ordering} where
  -- of what holds of each entry, something that is found
  pub found_is : IsAntisymmetric R → (P : K → V → Type 0) (k : K) (v : V) (es : List (K × V)) → AllEntries P es → find R k es ≡ Some v → P k v
  found_is exact P k v [] a h = absurd cc
  found_is exact P k v (e ∷ es) a h =
      elim (eq_by_cmp R k e.0) as (λ b. eq_by_cmp R k e.0 ≡ b → cond b (Some e.1) (find R k es) ≡ Some v → P k v) [
        | true ↦ λ tied same. (let value : e.1 ≡ v = cc in
            subst (P k) value (subst (λ x. P x e.1) (sym (exact k e.0 ((Equal-is (R k e.0)).0 tied))) a.0))
        | false ↦ λ tied rest. found_is exact P k v es a.1 rest
      ] refl h

  found_after : IsTotalOrder R → (e : K × V) (es : List (K × V)) → T (is_sorted R (e ∷ es)) → (k : K) (v : V) → find R k es ≡ Some v → (b : Bool)
      → eq_by_cmp R k e.0 ≡ b → cond b (Some e.1) (find R k es) ≡ Some v
  found_after total e es sorted k v h true tied =
      let none = none_below R e.0 es (first (below_all R e.0 es) (is_sorted R es) sorted) in
      let same = find_tied R total k e.0 ((Equal-is (R k e.0)).0 tied) es in
      absurd (let bad : Some v ≡ None = sym h ∙ sym same ∙ none in cc)
  found_after total e es sorted k v h false tied = h

  each_sorted : IsTotalOrder R → (P : K → V → Type 0) (es : List (K × V)) → T (is_sorted R es) → ((k : K) (v : V) → find R k es ≡ Some v → P k v)
      → AllEntries P es
  each_sorted total P [] sorted f = tt
  each_sorted total P (e ∷ es) sorted f = (
    f e.0 e.1 (ap (λ (b : Bool). cond b (Some e.1) (find R e.0 es)) (ap is_eq (tied_itself total e.0))),
    each_sorted total P es (second (below_all R e.0 es) (is_sorted R es) sorted)
        (λ k v h. f k v (found_after total e es sorted k v h (eq_by_cmp R k e.0) refl)),
  )

  -- what holds of each key with its value holds of each entry
  pub all_entries : IsTotalOrder R → (P : K → V → Type 0) (m : FinMap R V) → ((k : K) (v : V) → maps.get m k ≡ Some v → P k v)
      → AllEntries P (maps.entries m)
  all_entries total P m f = each_sorted total P (maps.entries m) (maps.entries_sorted m) (λ k v h. f k v (maps.get-entries m k ∙ h))

  -- what is kept was there
  pub kept_is : IsAntisymmetric R → (m : FinMap R V) (p : K → Bool) (k : K) (v : V) → maps.get (maps.retain_keys m p) k ≡ Some v
      → maps.get m k ≡ Some v
  kept_is exact m p k v h = passed (p k) (maps.get m k) (sym (maps.get-retain_keys m p k (λ x e. ap p (sym (exact k x e)))) ∙ h)
    where
      passed : (b : Bool) (o : Option V) → cond b o None ≡ Some v → o ≡ Some v
      passed true o e = e
      passed false o e = absurd cc

module _ {K X : Type 0} {R : K → K → Ordering} (total : IsTotalOrder R) (exact : IsAntisymmetric R) (P : K → X → Type 0) where
  -- what holds of each entry of a list holds of the map that is made of it
  pub made_meets : (es : List (K × X)) → AllEntries P es → Each P (maps.from_entries {R = R} es)
  made_meets es h k v e = found_is exact P k v es h (sym (maps.get-from_entries total es k) ∙ e)

  pub put_meets : (m : FinMap R X) (k : K) (v : X) → Each P m → P k v → Each P (maps.insert m k v)
  put_meets m k v h p q w e = elim (chosen (eq_by_cmp R q k) v (maps.get m q) w (sym (maps.get-insert total m k v q) ∙ e)) [
    | inl t ↦ subst (λ (x : K). P x w) (sym (exact q k ((Equal-is (R q k)).0 t.0))) (subst (P k) t.1 p)
    | inr t ↦ h q w t.1
  ]

  pub cut_meets : (m : FinMap R X) (k : K) → Each P m → Each P (maps.remove m k)
  cut_meets m k h q w e = h q w (kept (eq_by_cmp R q k) (maps.get m q) w (sym (maps.get-remove total m k q) ∙ e))

-- ---- sets

module _ {K : Type 0} {R : K → K → Ordering} (total : IsTotalOrder R) where
  module _ (exact : IsAntisymmetric R) where
    tied : (a b : K) → eq_by_cmp R a b ≡ true → a ≡ b
    tied a b e = exact a b ((Equal-is (R a b)).0 e)

    among : (P : K → Type 0) (xs : List K) → AllByRecursion P xs → (k : K) → list_any (eq_by_cmp R k) xs ≡ true → P k
    among P [] p k e = absurd cc
    among P (x ∷ xs) p k e = elim (or_cases (eq_by_cmp R k x) (list_any (eq_by_cmp R k) xs) e) [
      | inl here ↦ subst P (sym (tied k x here)) p.0
      | inr more ↦ among P xs p.1 k more
    ]

    -- what holds of the elements holds of the members of their set
    pub each_member : (P : K → Type 0) (xs : List K) → AllByRecursion P xs → (k : K) → sets.contains (sets.from_list {R = R} xs) k ≡ true → P k
    each_member P xs p k e = among P xs p k (sym (sets.contains-from_list total xs k) ∙ e)

    -- what holds of a new member and of the others
    pub each_inserted : (P : K → Type 0) (s : FinSet R) (k : K) → P k → ((q : K) → sets.contains s q ≡ true → P q) → (q : K)
        → sets.contains (sets.insert s k) q ≡ true → P q
    each_inserted P s k here each q e = elim (or_cases (eq_by_cmp R q k) (sets.contains s q) (sym (sets.contains-insert total s k q) ∙ e)) [
      | inl same ↦ subst P (sym (tied q k same)) here
      | inr old ↦ each q old
    ]

  of_both : (a b : Bool) → (a && b) ≡ true → b ≡ true
  of_both true b e = e
  of_both false b e = absurd cc

  -- a member of what is left was one
  pub still : (s : FinSet R) (k q : K) → sets.contains (sets.remove s k) q ≡ true → sets.contains s q ≡ true
  still s k q e = of_both (not (eq_by_cmp R q k)) (sets.contains s q) (sym (sets.contains-remove total s k q) ∙ e)

  of_first : (a b : Bool) → (a && b) ≡ true → a ≡ true
  of_first true b e = refl
  of_first false b e = e

  -- a member of what is kept was one
  pub was : IsAntisymmetric R → (s : FinSet R) (p : K → Bool) (q : K) → sets.contains (sets.retain s p) q ≡ true → sets.contains s q ≡ true
  was exact s p q e = of_first (sets.contains s q) (p q) (sym (sets.contains-retain s p q (λ x t. ap p (sym (exact q x t)))) ∙ e)
