-- Maps and sets with nothing in them, and maps of a few entries.
use Rattle.std.proofs.Common.{◌≡◌, Bool, true, false, cond, not, ◌||◌, ◌&&◌, List, [], ◌∷◌, ◌++◌, length, Some, None, refl, sym, ap, ◌∙◌, arith}
use Rattle.std.specs.List.{flat_map}
use Rattle.std.specs.Ordering.{is_eq, eq_by_cmp}
use Rattle.std.specs.declared.cmp.Ordering.{Ordering}
use Rattle.std.specs.Cmp.{IsTotalOrder, tied_itself, alike_right, eq_by_cmp_equiv}
use Rattle.std.specs.FinMap as maps
use Rattle.std.specs.FinMap.{FinMap, IsAntisymmetric, find, put}
use Rattle.std.specs.FinMap.Entries.{where_key, find-where_key}
use Rattle.std.specs.FinSet as sets
use Rattle.label_defs.proofs.SetLemmas.{retained}

pub flat_none : {A B : Type 0} (f : A → List B) → ((x : A) → f x ≡ []) → (xs : List A) → flat_map f xs ≡ []
flat_none f none [] = refl
flat_none f none (x ∷ xs) = λ i. none x i ++ flat_none f none xs i

nil : {A : Type 0} (xs : List A) → length xs ≡ 0 → xs ≡ []
nil [] e = refl
nil (x ∷ xs) e = absurd (omega (arith, e))

pub no_entries : {K : Type 0} (R : K → K → Ordering) (X : Type 0) → maps.entries (maps.empty {X = X} {R = R}) ≡ []
no_entries R X = nil (maps.entries maps.empty) (sym (maps.len-entries maps.empty) ∙ maps.len-empty R X)

module _ {K : Type 0} {R : K → K → Ordering} (total : IsTotalOrder R) where
  -- a map without a key is empty
  no_pairs : {X : Type 0} (es : List (K × X)) → ((q : K) → find R q es ≡ None) → es ≡ []
  no_pairs [] none = refl
  no_pairs (e ∷ es) none =
      let here : cond (eq_by_cmp R e.0 e.0) (Some e.1) (find R e.0 es) ≡ Some e.1 =
      ap (λ (r : Ordering). cond (is_eq r) (Some e.1) (find R e.0 es)) (tied_itself total e.0) in
      let nowhere : Some e.1 ≡ None = sym here ∙ none e.0 in
      absurd cc

  pub empty_by : {X : Type 0} (m : FinMap R X) → ((q : K) → maps.get m q ≡ None) → m ≡ maps.empty
  empty_by {X} m none =
      maps.same_entries_map m maps.empty (no_pairs (maps.entries m) (λ q. sym (maps.get-entries m q) ∙ none q) ∙ sym (no_entries R X))

module _ {K : Type 0} {R : K → K → Ordering} (total : IsTotalOrder R) (exact : IsAntisymmetric R) where
  pub no_union : sets.union (sets.empty {R = R}) sets.empty ≡ sets.empty
  no_union =
      sets.same_set total exact _ sets.empty (λ q. sets.contains-union total sets.empty sets.empty q
      ∙ (λ i. sets.contains-empty R q i || sets.contains-empty R q i) ∙ sym (sets.contains-empty R q))

  pub none_retained : (p : K → Bool) → sets.retain (sets.empty {R = R}) p ≡ sets.empty
  none_retained p =
      sets.same_set total exact _ sets.empty (λ q. retained total exact sets.empty p q ∙ ap (λ b. b && p q) (sets.contains-empty R q)
      ∙ sym (sets.contains-empty R q))

-- the entries of a map that is made of a list, in order
abbrev pub ordered : {K X : Type 0} → (K → K → Ordering) → List (K × X) → List (K × X)
ordered R [] = []
ordered R (e ∷ es) = put R e.0 e.1 (ordered R es)

-- those whose key does not tie with this one
abbrev pub without : {K X : Type 0} → (K → K → Ordering) → K → List (K × X) → List (K × X)
without R k es = where_key R (λ x. not (eq_by_cmp R k x)) es

turned : {A : Type 0} (b : Bool) (x y : A) → cond b x y ≡ cond (not b) y x
turned true x y = refl
turned false x y = refl

module _ {K X : Type 0} {R : K → K → Ordering} (total : IsTotalOrder R) where
  pub entries_made : (es : List (K × X)) → maps.entries (maps.from_entries {R = R} es) ≡ ordered R es
  entries_made [] = no_entries R X
  entries_made (e ∷ es) = maps.entries-insert total (maps.from_entries es) e.0 e.1 ∙ ap (put R e.0 e.1) (entries_made es)

  pub removed : IsAntisymmetric R → (k : K) (es : List (K × X)) → maps.remove (maps.from_entries {R = R} es) k ≡ maps.from_entries (without R k es)
  removed exact k es = maps.same_map total exact _ _ (λ q.
      maps.get-remove total (maps.from_entries es) k q
      ∙ (λ i. cond ((eq_by_cmp_equiv total).symm q k i) None (maps.get-from_entries total es q i))
      ∙ turned (eq_by_cmp R k q) None (find R q es)
      ∙ sym (find-where_key R (λ x. not (eq_by_cmp R k x)) q (λ x t. ap (λ r. not (is_eq r)) (sym (alike_right total q x k t))) es)
      ∙ sym (maps.get-from_entries total (without R k es) q))
