-- How many labels are free, and how many trees need one.
use Rattle.std.proofs.Common.{◌≡◌, ℕ, ◌+◌, ◌<◌, ◌≤◌, zero, suc, Bool, true, false, cond, ◌&&◌, ◌||◌, List, [], ◌∷◌, map, filter, count_by, slice_get, slice_set, Some, inl, inr, refl, sym, ap, subst, ◌∙◌, arith}
use Rattle.std.specs.Bool.{⊤}
use Rattle.std.specs.List.{list_any}
use Rattle.std.specs.FinSet as sets
use Rattle.std.specs.FinSet.{FinSet}
use Rattle.std.proofs.lemmas.Bool.{or_left}
use Rattle.std.proofs.lemmas.List.Sums.{sum_by-set}
use Rattle.std.proofs.lemmas.Option.{slice_get_within, get_or_from_slice_get}
use Rattle.mldp.specs.declared.mldp_fec.fec.Fec.{Fec}
use Rattle.label_defs.specs.Keys.{fec_cmp}
use Rattle.label_defs.specs.LabelData.{same_fec}
use Rattle.label_defs.specs.Members.{in_order}
use Rattle.label_defs.specs.Laws.{passing}
use Rattle.label_defs.proofs.MemberLemmas.{count-cons, once_in_order}
use Rattle.label_defs.proofs.KeyLemmas.{fec_cmp_total, fec_cmp_exact, fec_cases, same_fec_itself, fec_apart}
use Rattle.label_defs.proofs.TreeLemmas.{not_both}

module _ {X : Type 0} (p : X → Bool) where
  pub count_none : (xs : List X) → ((k : ℕ) (x : X) → slice_get xs k ≡ Some x → p x ≡ false) → count_by p xs ≡ 0
  count_none [] none = refl
  count_none (x ∷ xs) none =
      let rest = count_none xs (λ k y e. none (suc k) y e) in
      count-cons p x xs ∙ ap (λ b. cond b 1 0 + count_by p xs) (none 0 x refl) ∙ ap (λ n. 0 + n) rest

  -- one element changes
  pub count_set : (xs : List X) (k : ℕ) (old new : X) → slice_get xs k ≡ Some old
      → count_by p (slice_set xs k new) + cond (p old) 1 0 ≡ count_by p xs + cond (p new) 1 0
  count_set xs k old new e =
      ap (λ x. count_by p (slice_set xs k new) + cond (p x) 1 0) (sym (get_or_from_slice_get xs k old old e))
      ∙ sum_by-set (λ y. cond (p y) 1 0) xs k new old (slice_get_within xs k old e)

-- a test of changed elements
pub count-map : {X : Type 0} (p q : X → Bool) (change : X → X) → ((x : X) → p (change x) ≡ q x) → (xs : List X)
    → count_by p (map change xs) ≡ count_by q xs
count-map p q change same [] = refl
count-map p q change same (x ∷ xs) =
    count-cons p (change x) (map change xs) ∙ (λ i. cond (same x i) 1 0 + count-map p q change same xs i) ∙ sym (count-cons q x xs)

pub count_as : {X : Type 0} (p q : X → Bool) → ((x : X) → p x ≡ q x) → (xs : List X) → count_by p xs ≡ count_by q xs
count_as p q same [] = refl
count_as p q same (x ∷ xs) = count-cons p x xs ∙ (λ i. cond (same x i) 1 0 + count_as p q same xs i) ∙ sym (count-cons q x xs)

-- ---- trees that pass

any_filtered : (p : Fec → Bool) (q : Fec) (fecs : List Fec) → list_any (same_fec q) (filter p fecs) ≡ (p q && list_any (same_fec q) fecs)
any_filtered p q [] = by (p q)
  where
    by : (t : Bool) → false ≡ (t && false)
    by true = refl
    by false = refl
any_filtered p q (x ∷ xs) = by (p x) refl (any_filtered p q xs)
  where
    swap : (t a b : Bool) → a ≡ false → (t && b) ≡ (t && (a || b))
    swap t true b e = absurd cc
    swap t false b e = refl

    by : (t : Bool) → p x ≡ t → list_any (same_fec q) (filter p xs) ≡ (p q && list_any (same_fec q) xs)
        → list_any (same_fec q) (cond t (x ∷ filter p xs) (filter p xs)) ≡ (p q && (same_fec q x || list_any (same_fec q) xs))
    by true e rest = elim (fec_cases q x) [
      | inl same ↦
          let here : same_fec q x ≡ true = subst (λ y. same_fec q y ≡ true) same (same_fec_itself q) in
          or_left (same_fec q x) (list_any (same_fec q) (filter p xs)) here ∙ sym (λ i. (ap p same ∙ e) i && (here i || list_any (same_fec q) xs))
      | inr ne ↦ ap (λ b. b || list_any (same_fec q) (filter p xs)) (fec_apart q x ne) ∙ rest
          ∙ swap (p q) (same_fec q x) (list_any (same_fec q) xs) (fec_apart q x ne)
    ]
    by false e rest = elim (fec_cases q x) [
      | inl same ↦ rest ∙ (λ i. (ap p same ∙ e) i && list_any (same_fec q) xs)
          ∙ sym (λ i. (ap p same ∙ e) i && (same_fec q x || list_any (same_fec q) xs))
      | inr ne ↦ rest ∙ swap (p q) (same_fec q x) (list_any (same_fec q) xs) (fec_apart q x ne)
    ]

pub contains-passing : (p : Fec → Bool) (q : Fec) (fecs : List Fec) → sets.contains (passing p fecs) q ≡ (p q && list_any (same_fec q) fecs)
contains-passing p q fecs = sets.contains-from_list fec_cmp_total (filter p fecs) q ∙ any_filtered p q fecs

-- a set with a member is not empty
pub has_member : (s : FinSet fec_cmp) (fec : Fec) → sets.contains s fec ≡ true → 0 < sets.len s
has_member s fec e = by (sets.len s) refl
  where
    by : (n : ℕ) → sets.len s ≡ n → 0 < n
    by zero h = absurd (not_both (sets.contains s fec) e (ap (λ t. sets.contains t fec) (sets.empty_of_len s h) ∙ sets.contains-empty fec_cmp fec))
    by (suc n) h = omega arith

-- no tree is listed two times
abbrev pub Distinct : List Fec → Type 0
Distinct [] = ⊤
Distinct (fec ∷ more) = (list_any (same_fec fec) more ≡ false) × Distinct more

none_counted : (fec : Fec) (fecs : List Fec) → count_by (same_fec fec) fecs ≡ 0 → list_any (same_fec fec) fecs ≡ false
none_counted fec [] e = refl
none_counted fec (x ∷ more) e = by (none_counted fec more) (same_fec fec x) (sym (count-cons (same_fec fec) x more) ∙ e)
  where
    by : (count_by (same_fec fec) more ≡ 0 → list_any (same_fec fec) more ≡ false) → (t : Bool) → cond t 1 0 + count_by (same_fec fec) more ≡ 0
        → (t || list_any (same_fec fec) more) ≡ false
    by rest true h = absurd (omega (arith, h))
    by rest false h = rest (omega (arith, h))

each_once : (fecs : List Fec) → ((fec : Fec) → count_by (same_fec fec) fecs ≤ 1) → Distinct fecs
each_once [] once = tt
each_once (fec ∷ more) once = (
  none_counted fec more (
      let here : cond {A = ℕ} (same_fec fec fec) 1 0 ≡ 1 = ap (λ b. cond b 1 0) (same_fec_itself fec) in
      let sum = count-cons (same_fec fec) fec more in
      let most = once fec in
      omega (arith, here, sum, most)),
  each_once more (λ x. let sum = count-cons (same_fec x) fec more in let most = once x in omega (arith, sum, most)),
)

pub distinct_in_order : (s : FinSet fec_cmp) → Distinct (in_order s)
distinct_in_order s = each_once (in_order s) (λ fec. at_most (sets.contains s fec) (once_in_order fec_cmp_total s fec))
  where
    at_most : (t : Bool) {n : ℕ} → n ≡ cond t 1 0 → n ≤ 1
    at_most true e = omega (arith, e)
    at_most false e = omega (arith, e)

-- how many pass, without the first
module _ (p q : Fec → Bool) (fec : Fec) (more : List Fec) (apart : list_any (same_fec fec) more ≡ false)
    (same : (other : Fec) → (other ≡ fec → ⊥) → q other ≡ p other) where
  both_false : (a b : Bool) → (a && false) ≡ (b && false)
  both_false true true = refl
  both_false true false = refl
  both_false false true = refl
  both_false false false = refl

  among : (x : Fec) → (q x && list_any (same_fec x) more) ≡ (p x && list_any (same_fec x) more)
  among x = elim (fec_cases x fec) [
    | inl e ↦
        let none : list_any (same_fec x) more ≡ false = subst (λ y. list_any (same_fec y) more ≡ false) (sym e) apart in
        (λ i. q x && none i) ∙ both_false (q x) (p x) ∙ sym (λ i. p x && none i)
    | inr ne ↦ λ i. same x ne i && list_any (same_fec x) more
  ]

  as_many : passing q more ≡ passing p more
  as_many =
      sets.same_set fec_cmp_total fec_cmp_exact (passing q more) (passing p more)
      (λ x. contains-passing q x more ∙ among x ∙ sym (contains-passing p x more))

  not_in : sets.contains (passing p more) fec ≡ false
  not_in = contains-passing p fec more ∙ (λ i. p fec && apart i) ∙ both_false (p fec) false

  pub fewer : sets.len (passing q more) + cond (p fec) 1 0 ≡ sets.len (passing p (fec ∷ more))
  fewer = (λ i. sets.len (as_many i) + cond (p fec) 1 0) ∙ by (p fec)
    where
      by : (t : Bool) → sets.len (passing p more) + cond t 1 0
          ≡ sets.len (sets.from_list {R = fec_cmp} (cond t (fec ∷ filter p more) (filter p more)))
      by true =
          sym (sets.len-insert fec_cmp_total (passing p more) fec
          ∙ ap (λ b. cond b (sets.len (passing p more)) (sets.len (passing p more) + 1)) not_in)
      by false = omega arith
