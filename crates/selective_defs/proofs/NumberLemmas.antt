-- The number of one more selection is the least that no selection has.
use Rattle.std.proofs.Common.{◌≡◌, ◌≢◌, ℕ, zero, suc, ◌+◌, ◌-◌, ◌<◌, ◌≤◌, ◌||◌, ◌⊎◌, Bool, true, false, cond, eqb, inl, inr, List, [], ◌∷◌, length, refl, sym, ap, subst, ◌∙◌, arith, eq-eqb}
use Rattle.std.specs.List.{list_any}
use Rattle.std.proofs.lemmas.Bool.{cases_Bool, eqb-true}
use Rattle.std.proofs.lemmas.Map.Steps.{le-length_from_below}
use Rattle.selective_defs.specs.declared.selection.Selection.{Selection}
use Rattle.selective_defs.specs.Selective.{Among, free_number, IsLeastUnused, has_number, next_number, IsLeastNumber}
use Rattle.selective_defs.proofs.PatternLemmas.{opposite}

-- ---- lists

or_true : (a b : Bool) → (a || b) ≡ true → (a ≡ true) ⊎ (b ≡ true)
or_true true b h = inl refl
or_true false b h = inr h

some_passes : (p : Selection → Bool) (xs : List Selection) → list_any p xs ≡ true → (x : Selection) × (Among x xs) × (p x ≡ true)
some_passes p [] h = absurd (opposite false h refl)
some_passes p (x ∷ xs) h = elim (or_true (p x) (list_any p xs) h) [
  | inl own ↦ (x, inl refl, own)
  | inr rest ↦ (let more = some_passes p xs rest in (more.0, inr more.1, more.2))
]

passes : (p : Selection → Bool) (x : Selection) (xs : List Selection) → Among x xs → p x ≡ true → list_any p xs ≡ true
passes p x [] a h = absurd a
passes p x (y ∷ ys) (inl e) h = ap (λ (b : Bool). b || list_any p ys) (ap p (sym e) ∙ h)
passes p x (y ∷ ys) (inr a) h = elim (p y) as (λ (b : Bool). (b || list_any p ys) ≡ true) [ true ↦ refl | false ↦ passes p x ys a h ]

-- each number less one
abbrev numbers : List Selection → List ℕ
numbers [] = []
numbers (x ∷ xs) = (x.number - 1) ∷ numbers xs

length-numbers : (xs : List Selection) → length (numbers xs) ≡ length xs
length-numbers [] = refl
length-numbers (x ∷ xs) = ap suc (length-numbers xs)

among_numbers : (n : ℕ) (x : Selection) (xs : List Selection) → Among x xs → x.number ≡ n + 1 → list_any (eqb n) (numbers xs) ≡ true
among_numbers n x [] a e = absurd a
among_numbers n x (y ∷ ys) (inl same) e =
    let number : x.number ≡ y.number = ap (λ (s : Selection). s.number) same in
    let here : n ≡ y.number - 1 = omega (arith, number, e) in
    ap (λ (b : Bool). b || list_any (eqb n) (numbers ys)) (eq-eqb n (y.number - 1) here)
among_numbers n x (y ∷ ys) (inr a) e =
    elim (eqb n (y.number - 1)) as (λ (b : Bool). (b || list_any (eqb n) (numbers ys)) ≡ true) [ true ↦ refl | false ↦ among_numbers n x ys a e ]

-- ---- the search

record Walked (used : ℕ → Bool) (count number found : ℕ) : Type 0 where
  from : number ≤ found
  upto : found ≤ number + count
  passed : (k : ℕ) → number ≤ k → k < found → used k ≡ true
  end : (used found ≡ false) ⊎ (found ≡ number + count)

walked : (used : ℕ → Bool) (count number : ℕ) → Walked used count number (free_number used count number)
walked used zero number =
    record { from = omega arith; upto = omega arith; passed = λ k low high. absurd (omega (arith, low, high)); end = inr (omega arith) }
walked used (suc count) number = by (used number) refl (walked used count (number + 1))
  where
    by : (b : Bool) → used number ≡ b → Walked used count (number + 1) (free_number used count (number + 1))
        → Walked used (suc count) number (cond b (free_number used count (number + 1)) number)
    by false h rest = record { from = omega arith; upto = omega arith; passed = λ k low high. absurd (omega (arith, low, high)); end = inl h }
    by true h rest =
        let low : number + 1 ≤ free_number used count (number + 1) = rest.from in
        let high : free_number used count (number + 1) ≤ (number + 1) + count = rest.upto in
        record {
          from = omega (arith, low);
          upto = omega (arith, high);
          passed = λ k after before. elim (cases_Bool (eqb k number)) [
            | inl same ↦ subst (λ (n : ℕ). used n ≡ true) (sym (eqb-true k number same)) h
            | inr apart ↦ rest.passed k (later k after apart) before
          ];
          end = elim rest.end [ inl free ↦ inl free | inr last ↦ inr (omega (arith, last)) ];
        }
      where
        later : (k : ℕ) → number ≤ k → eqb k number ≡ false → number + 1 ≤ k
        later k after apart =
            let differs : k ≢ number = λ e. opposite (eqb k number) (eq-eqb k number e) apart in
            omega (arith, after, differs)

-- ---- any numbers

-- each number less one
abbrev lowered : List ℕ → List ℕ
lowered [] = []
lowered (n ∷ ns) = (n - 1) ∷ lowered ns

length-lowered : (ns : List ℕ) → length (lowered ns) ≡ length ns
length-lowered [] = refl
length-lowered (n ∷ ns) = ap suc (length-lowered ns)

among_lowered : (q n : ℕ) (ns : List ℕ) → Among n ns → n ≡ q + 1 → list_any (eqb q) (lowered ns) ≡ true
among_lowered q n [] a e = absurd a
among_lowered q n (m ∷ ms) (inl same) e =
    let here : q ≡ m - 1 = omega (arith, same, e) in
    ap (λ (b : Bool). b || list_any (eqb q) (lowered ms)) (eq-eqb q (m - 1) here)
among_lowered q n (m ∷ ms) (inr a) e =
    elim (eqb q (m - 1)) as (λ (b : Bool). (b || list_any (eqb q) (lowered ms)) ≡ true) [ true ↦ refl | false ↦ among_lowered q n ms a e ]

module _ (used : ℕ → Bool) (numbers_used : List ℕ) (count : ℕ) (among : (number : ℕ) → used number ≡ true → Among number numbers_used)
    (enough : length numbers_used ≤ count) where
  -- where all from 1 up to a number are used, there are as many
  up_to : (number : ℕ) → ((k : ℕ) → 1 ≤ k → k ≤ number → used k ≡ true) → number ≤ length numbers_used
  up_to number each =
      let all : (q : ℕ) → q < number → list_any (eqb q) (lowered numbers_used) ≡ true =
      λ q low. among_lowered q (q + 1) numbers_used (among (q + 1) (each (q + 1) (omega arith) (omega (arith, low)))) refl in
      let many : number ≤ length (lowered numbers_used) = le-length_from_below (lowered numbers_used) number all in
      let same = length-lowered numbers_used in
      omega (arith, many, same)

  found_few : (number : ℕ) → Walked used count 1 number → number ≤ length numbers_used + 1
  found_few number w =
      let from = w.from in
      let below : number - 1 ≤ length numbers_used = up_to (number - 1) (λ k low high. w.passed k low (omega (arith, from, low, high))) in
      omega (arith, below)

  found_free : (number : ℕ) → Walked used count 1 number → used number ≡ false
  found_free number w = elim (cases_Bool (used number)) [
    | inr free ↦ free
    | inl taken ↦ elim w.end [
      | inl free ↦ free
      | inr last ↦ (
          let each : (k : ℕ) → 1 ≤ k → k ≤ number → used k ≡ true = λ k low high. elim (cases_Bool (eqb k number)) [
            | inl same ↦ subst (λ (n : ℕ). used n ≡ true) (sym (eqb-true k number same)) taken
            | inr apart ↦ (let differs : k ≢ number = λ e. opposite (eqb k number) (eq-eqb k number e) apart in
                w.passed k low (omega (arith, high, differs)))
          ] in
          let many = up_to number each in
          absurd (omega (arith, many, last, enough)))
    ]
  ]

  pub least_unused : IsLeastUnused used (free_number used count 1)
  least_unused =
      let w = walked used count 1 in
      record { counted = w.from; free = found_free (free_number used count 1) w; least = λ lower low below. w.passed lower low below }

  pub few_used : free_number used count 1 ≤ length numbers_used + 1
  few_used = found_few (free_number used count 1) (walked used count 1)

-- ---- the number

module _ (xs : List Selection) where
  abbrev used : ℕ → Bool
  used number = list_any (has_number number) xs

  user : (number : ℕ) → used number ≡ true → (x : Selection) × (Among x xs) × (x.number ≡ number)
  user number h =
      let some = some_passes (has_number number) xs h in
      (some.0, some.1, eqb-true some.0.number number some.2)

  not_last : (x : Selection) → Among x xs → Walked used (length xs) 1 x.number → x.number ≡ 1 + length xs → ⊥
  not_last x a w last =
      let each : (q : ℕ) → q < length xs + 1 → list_any (eqb q) (numbers xs) ≡ true = λ q low. elim (cases_Bool (eqb (q + 1) x.number)) [
        | inl same ↦ among_numbers q x xs a (sym (eqb-true (q + 1) x.number same))
        | inr apart ↦ (
            let differs : q + 1 ≢ x.number = λ e. opposite (eqb (q + 1) x.number) (eq-eqb (q + 1) x.number e) apart in
            let own = user (q + 1) (w.passed (q + 1) (omega arith) (omega (arith, low, last, differs))) in
            among_numbers q own.0 xs own.1 own.2)
      ] in
      let many : length xs + 1 ≤ length (numbers xs) = le-length_from_below (numbers xs) (length xs + 1) each in
      let same : length (numbers xs) ≡ length xs = length-numbers xs in
      omega (arith, many, same)

  unused : (number : ℕ) → Walked used (length xs) 1 number → (x : Selection) → Among x xs → x.number ≢ number
  unused number w x a e = elim w.end [
    | inl free ↦ opposite (used number) (passes (has_number number) x xs a (eq-eqb x.number number e)) free
    | inr last ↦ not_last x a (subst (λ (n : ℕ). Walked used (length xs) 1 n) (sym e) w) (e ∙ last)
  ]

  pub least_number : IsLeastNumber xs (next_number xs)
  least_number =
      let w = walked used (length xs) 1 in
      let from : 1 ≤ next_number xs = w.from in
      let upto : next_number xs ≤ 1 + length xs = w.upto in
      record {
        counted = from;
        few = omega (arith, upto);
        free = unused (next_number xs) w;
        least = λ lower low below. user lower (w.passed lower low below);
      }
