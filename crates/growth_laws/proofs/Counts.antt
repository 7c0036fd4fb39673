-- As many labels at most are mapped to some trees as these are, where each of them has one at most.
use Rattle.std.proofs.Common.{◌≡◌, ℕ, ◌+◌, ◌≤◌, suc, Bool, true, false, not, cond, ◌||◌, List, [], ◌∷◌, length, count_by, slice_get, Some, None, inl, inr, refl, ap, ◌∙◌, arith}
use Rattle.std.proofs.lemmas.Bool.{cases_Bool, false_from_ne_true, or_left, or_right}
use Rattle.mv_base.specs.Lists.{Among}
use Rattle.mv_base.specs.declared.ids.NodeId.{NodeId}
use Rattle.mldp.specs.declared.mldp_fec.fec.Fec.{Fec}
use Rattle.label_defs.specs.declared.label_use.LabelUse.{LabelUse}
use Rattle.label_defs.specs.declared.label_use.LabelUse.TheVariants as uses
use Rattle.label_defs.specs.LabelData.{Place, LabelData, is_free, same_fec, is_mapped, free_label}
use Rattle.label_defs.specs.Settled.{Maps}
use Rattle.label_defs.proofs.CountLemmas.{count_none}
use Rattle.label_defs.proofs.KeyLemmas.{same_fec_from}
use Rattle.label_defs.proofs.MemberLemmas.{count-cons}
use Rattle.label_defs.proofs.UseLemmas.{used_place, mapped_is, free_none}
use Rattle.growth_laws.specs.Labels.{labels_held, IsFreeOrMaps, Growing}

-- ---- elements that pass

either_counts : (a b : Bool) → cond {A = ℕ} (a || b) 1 0 ≤ cond {A = ℕ} a 1 0 + cond {A = ℕ} b 1 0
either_counts true true = omega arith
either_counts true false = omega arith
either_counts false true = omega arith
either_counts false false = omega arith

passing_counts : (a b : Bool) → (a ≡ true → b ≡ true) → cond {A = ℕ} a 1 0 ≤ cond {A = ℕ} b 1 0
passing_counts true b passes = omega (arith, ap (λ (t : Bool). cond {A = ℕ} t 1 0) (passes refl))
passing_counts false b passes = omega arith

module _ {X : Type 0} where
  one_counted : (p : X → Bool) (xs : List X)
      → ((i j : ℕ) (x y : X) → slice_get xs i ≡ Some x → slice_get xs j ≡ Some y → p x ≡ true → p y ≡ true → i ≡ j) → count_by p xs ≤ 1
  one_counted p [] one = omega arith
  one_counted p (x ∷ xs) one = elim (cases_Bool (p x)) [
    | inl t ↦
        let none : count_by p xs ≡ 0 =
        count_none p xs (λ k y e. false_from_ne_true (p y)
        (λ passes. (let same = one 0 (suc k) x y refl e t passes in absurd (omega (arith, same))))) in
        let here : cond {A = ℕ} (p x) 1 0 ≡ 1 = ap (λ b. cond b 1 0) t in
        let sum = count-cons p x xs in
        omega (arith, sum, none, here)
    | inr f ↦
        let rest = one_counted p xs (λ i j y z a b c d. (let same = one (suc i) (suc j) y z a b c d in omega (arith, same))) in
        let here : cond {A = ℕ} (p x) 1 0 ≡ 0 = ap (λ b. cond b 1 0) f in
        let sum = count-cons p x xs in
        omega (arith, sum, rest, here)
  ]

  either_counted : (p q either : X → Bool) → ((x : X) → either x ≡ (p x || q x)) → (xs : List X) → count_by either xs ≤ count_by p xs + count_by q xs
  either_counted p q either is [] = omega arith
  either_counted p q either is (x ∷ xs) =
      let rest = either_counted p q either is xs in
      let here : cond {A = ℕ} (either x) 1 0 ≡ cond {A = ℕ} (p x || q x) 1 0 = ap (λ b. cond b 1 0) (is x) in
      let most = either_counts (p x) (q x) in
      let sum = count-cons either x xs in
      let first = count-cons p x xs in
      let second = count-cons q x xs in
      omega (arith, rest, here, most, sum, first, second)

  passing_counted : (p q : X → Bool) (xs : List X) → ((k : ℕ) (x : X) → slice_get xs k ≡ Some x → p x ≡ true → q x ≡ true)
      → count_by p xs ≤ count_by q xs
  passing_counted p q [] passes = omega arith
  passing_counted p q (x ∷ xs) passes =
      let rest = passing_counted p q xs (λ k y e. passes (suc k) y e) in
      let here = passing_counts (p x) (q x) (passes 0 x refl) in
      let first = count-cons p x xs in
      let second = count-cons q x xs in
      omega (arith, rest, here, first, second)

  each_counted : (p : X → Bool) (xs : List X) → ((k : ℕ) (x : X) → slice_get xs k ≡ Some x → p x ≡ true) → count_by p xs ≡ length xs
  each_counted p [] each = refl
  each_counted p (x ∷ xs) each =
      let here : cond {A = ℕ} (p x) 1 0 ≡ 1 = ap (λ b. cond b 1 0) (each 0 x refl) in
      let rest = each_counted p xs (λ k y e. each (suc k) y e) in
      let sum = count-cons p x xs in
      let long : length (x ∷ xs) ≡ suc (length xs) = refl in
      omega (arith, here, rest, sum, long)

-- ---- labels of trees

-- whether the use maps one of the trees
abbrev maps_one : List Fec → LabelUse → Bool
maps_one [] usage = false
maps_one (fec ∷ more) usage = is_mapped fec usage || maps_one more usage

among_maps : (trees : List Fec) (fec : Fec) (upstream : NodeId) → Among fec trees → maps_one trees (uses.Mapped fec upstream) ≡ true
among_maps [] fec upstream among = absurd among
among_maps (first ∷ more) fec upstream (inl e) = or_left (same_fec fec first) (maps_one more (uses.Mapped fec upstream)) (same_fec_from fec first e)
among_maps (first ∷ more) fec upstream (inr among) =
    or_right (same_fec fec first) (maps_one more (uses.Mapped fec upstream)) (among_maps more fec upstream among)

few_mapped : (labels : List LabelUse) (trees : List Fec)
    → ((fec : Fec) (i j : ℕ) (x y : LabelUse) → slice_get labels i ≡ Some x → slice_get labels j ≡ Some y → is_mapped fec x ≡ true
    → is_mapped fec y ≡ true → i ≡ j)
    → count_by (maps_one trees) labels ≤ length trees
few_mapped labels [] one =
    let none : count_by (maps_one []) labels ≡ 0 = count_none (maps_one []) labels (λ k x e. refl) in
    omega (arith, none)
few_mapped labels (fec ∷ more) one =
    let first = one_counted (is_mapped fec) labels (one fec) in
    let rest = few_mapped labels more one in
    let sum = either_counted (is_mapped fec) (maps_one more) (maps_one (fec ∷ more)) (λ x. refl) labels in
    let long : length (fec ∷ more) ≡ suc (length more) = refl in
    omega (arith, first, rest, sum, long)

-- ---- a growing node

maps_at : (part : LabelData) (fec : Fec) (k : ℕ) (x : LabelUse) → slice_get part.labels k ≡ Some x → is_mapped fec x ≡ true
    → (upstream : NodeId) × Maps part fec (16 + k) upstream
maps_at part fec k x at passes =
    let is = mapped_is fec x passes in
    (is.0, used_place part.labels k ∙ at ∙ ap (λ (u : LabelUse). Some u) is.1)

-- it holds no more labels than there are trees
pub few_held : (place : Place) (trees : List Fec) (part : LabelData) → Growing place trees part → labels_held part ≤ length trees
few_held place trees part g =
    let held =
    passing_counted (λ (usage : LabelUse). not (is_free usage)) (maps_one trees) part.labels
    (λ k x at. passes x (g.used (16 + k) x (used_place part.labels k ∙ at))) in
    let few = few_mapped part.labels trees (λ fec i j x y at_x at_y p q.
    (let first = maps_at part fec i x at_x p in
    let second = maps_at part fec j y at_y q in
    let same = g.one fec (16 + i) (16 + j) first.0 second.0 first.1 second.1 in
    omega (arith, same))) in
    omega (arith, held, few)
  where
    passes : (x : LabelUse) → IsFreeOrMaps trees x → not (is_free x) ≡ true → maps_one trees x ≡ true
    passes uses.Free is held = (let bad : false ≡ true = held in absurd cc)
    passes (uses.Mapped fec upstream) is held = among_maps trees fec upstream is
    passes (uses.Leaving fec upstream) is held = absurd is
    passes (uses.Resting until) is held = absurd is

-- one of its labels is free
pub never_full : (place : Place) (trees : List Fec) (part : LabelData) → Growing place trees part → free_label part ≡ None → ⊥
never_full place trees part g full =
    let all = each_counted (λ (usage : LabelUse). not (is_free usage)) part.labels taken in
    let few = few_held place trees part g in
    let room = g.room in
    omega (arith, all, few, room)
  where
    taken : (k : ℕ) (x : LabelUse) → slice_get part.labels k ≡ Some x → not (is_free x) ≡ true
    taken k uses.Free at = absurd (free_none part full (16 + k) (used_place part.labels k ∙ at))
    taken k (uses.Mapped fec upstream) at = refl
    taken k (uses.Leaving fec upstream) at = refl
    taken k (uses.Resting until) at = refl
