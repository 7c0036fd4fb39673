-- The entries of a map and what it has at a key.
use Rattle.std.proofs.Common.{◌≡◌, Bool, true, false, cond, T, inl, inr, List, [], ◌∷◌, map, length, Option, Some, None, option_map, refl, sym, ap, ◌∙◌, arith}
use Rattle.std.specs.Ordering.{eq_by_cmp, is_eq, is_lt}
use Rattle.std.specs.declared.cmp.Ordering.{Ordering}
use Rattle.std.specs.declared.cmp.Ordering.TheVariants.{Equal}
use Rattle.std.specs.Cmp.{IsTotalOrder, tied_itself, Equal-is}
use Rattle.std.specs.FinMap as maps
use Rattle.std.specs.FinMap.{FinMap, IsAntisymmetric, find}
use Rattle.std.specs.FinMap.Entries.{is_sorted, below_all}
use Rattle.label_defs.proofs.KeyLemmas.{ties}
use Rattle.label_defs.proofs.MemberLemmas.{front_of, back_of, not_tied}
use Rattle.selective_defs.specs.Selective.{Among}
use Rattle.edge_words.proofs.calm_laws.Lists.{not_both}

pub none_of_length : {X : Type 0} (xs : List X) → length xs ≡ 0 → xs ≡ []
none_of_length [] e = refl
none_of_length (x ∷ xs) e = absurd (omega (arith, e))

pub empty_entries : {K V : Type 0} (R : K → K → Ordering) → maps.entries (maps.empty {X = V} {R = R}) ≡ []
empty_entries {V = V} R = none_of_length (maps.entries maps.empty) (sym (maps.len-entries maps.empty) ∙ maps.len-empty R V)

-- ---- what a list of entries has first at a key

abbrev Found : {K V : Type 0} → (K → V → Type 0) → Option V → K → Type 0
Found P None k = ⊥
Found P (Some v) k = P k v

module _ {K V : Type 0} {R : K → K → Ordering} (total : IsTotalOrder R) where
  some_tied : (k : K) (v : V) (es : List (K × V)) (e : K × V) (b : Bool) → (Among (k, v) es → (w : V) × (find R k es ≡ Some w))
      → (((k, v) ≡ e → b ≡ true)) → Among (k, v) (e ∷ es) → (w : V) × (cond b (Some e.1) (find R k es) ≡ Some w)
  some_tied k v es e true rest tied a = (e.1, refl)
  some_tied k v es e false rest tied (inl same) = absurd (let bad : false ≡ true = tied same in cc)
  some_tied k v es e false rest tied (inr a) = rest a

  -- a key that stands in the list is found
  pub some_found : (k : K) (v : V) (es : List (K × V)) → Among (k, v) es → (w : V) × (find R k es ≡ Some w)
  some_found k v [] a = absurd a
  some_found k v (e ∷ es) a = some_tied k v es e (eq_by_cmp R k e.0) (some_found k v es) (λ same. ties R total k e.0 (ap (λ (x : K × V). x.0) same)) a

  not_below : (k : K) (v : V) (x : K) (es : List (K × V)) → T (below_all R x es) → Among (k, v) es → eq_by_cmp R k x ≡ true → ⊥
  not_below k v x [] h a e = a
  not_below k v x (f ∷ es) h (inl same) e =
      let less : is_eq (R x k) ≡ false =
      ap (λ (y : K × V). is_eq (R x y.0)) same ∙ not_tied (R x f.0) (front_of (is_lt (R x f.0)) (below_all R x es) h) in
      let tied : R k x ≡ Equal = (Equal-is (R k x)).0 e in
      not_both (is_eq (R x k)) (ap is_eq (sym (total.congr k x k tied) ∙ tied_itself total k)) less
  not_below k v x (f ∷ es) h (inr a) e = not_below k v x es (back_of (is_lt (R x f.0)) (below_all R x es) h) a e

  sorted_found : (k : K) (v : V) (es : List (K × V)) → T (is_sorted R es) → Among (k, v) es → find R k es ≡ Some v
  sorted_found k v [] h a = absurd a
  sorted_found k v (e ∷ es) h (inl same) =
      ap (λ (b : Bool). cond b (Some e.1) (find R k es)) (ties R total k e.0 (ap (λ (x : K × V). x.0) same)) ∙ ap (λ (x : K × V). Some x.1) (sym same)
  sorted_found k v (e ∷ es) h (inr a) =
      elim (eq_by_cmp R k e.0) as (λ b. eq_by_cmp R k e.0 ≡ b → cond b (Some e.1) (find R k es) ≡ Some v) [
        | true ↦ λ tied. absurd (not_below k v e.0 es (front_of (below_all R e.0 es) (is_sorted R es) h) a tied)
        | false ↦ λ tied. sorted_found k v es (back_of (below_all R e.0 es) (is_sorted R es) h) a
      ] refl

  -- an entry of a map is what the map has at its key
  pub entry_get : (m : FinMap R V) (k : K) (v : V) → Among (k, v) (maps.entries m) → maps.get m k ≡ Some v
  entry_get m k v a = maps.get-entries m k ∙ sorted_found k v (maps.entries m) (maps.entries_sorted m) a

module _ {K V : Type 0} {R : K → K → Ordering} (exact : IsAntisymmetric R) where
  -- what is found stands in the list
  pub found_stands : (k : K) (v : V) (es : List (K × V)) → find R k es ≡ Some v → Among (k, v) es
  found_stands k v [] h = absurd cc
  found_stands k v (e ∷ es) h =
      elim (eq_by_cmp R k e.0) as (λ b. eq_by_cmp R k e.0 ≡ b → cond b (Some e.1) (find R k es) ≡ Some v → Among (k, v) (e ∷ es)) [
        | true ↦ λ tied same. inl (let one = exact k e.0 ((Equal-is (R k e.0)).0 tied) in let value : v ≡ e.1 = cc in λ i. (one i, value i))
        | false ↦ λ tied rest. inr (found_stands k v es rest)
      ] refl h

  pub get_entry : (m : FinMap R V) (k : K) (v : V) → maps.get m k ≡ Some v → Among (k, v) (maps.entries m)
  get_entry m k v h = found_stands k v (maps.entries m) (sym (maps.get-entries m k) ∙ h)

-- what is found in a list whose values are changed
pub find-map : {K V W : Type 0} (R : K → K → Ordering) (f : V → W) (k : K) (es : List (K × V))
    → find R k (map (λ (e : K × V). (e.0, f e.1)) es) ≡ option_map f (find R k es)
find-map R f k [] = refl
find-map R f k (e ∷ es) =
    elim (eq_by_cmp R k e.0) as (λ b. cond b (Some (f e.1)) (find R k (map (λ (e : _). (e.0, f e.1)) es))
    ≡ option_map f (cond b (Some e.1) (find R k es))) [
      | true ↦ refl
      | false ↦ find-map R f k es
    ]
