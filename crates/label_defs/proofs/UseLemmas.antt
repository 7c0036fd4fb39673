-- What the labels are used for, after a change of one label or of all, and what the first fitting label tells.
use Rattle.std.proofs.Common.{◌≡◌, ℕ, ◌+◌, ◌-◌, ◌<◌, ◌≤◌, zero, suc, Bool, true, false, cond, nat_lt, List, [], ◌∷◌, map, length, get_or, position, slice_get, slice_set, Option, Some, None, option_map, inl, inr, refl, sym, ap, ◌∙◌, arith}
use Rattle.std.specs.List.{position_or_len}
use Rattle.std.proofs.lemmas.Bool.{cases_lt, cond-true, cond-false, lt-ltb, le-ltb}
use Rattle.std.proofs.lemmas.List.Quantifiers.{position-Some}
use Rattle.std.proofs.lemmas.List.Sums.{fails_before_first}
use Rattle.std.proofs.lemmas.Option.{slice_get-map, slice_get_within, slice_get-get_or, get_or_from_slice_get, same_Some, none-some}
use Rattle.std.proofs.lemmas.Grind.{common_steps}
use Rattle.mldp.specs.mv_base.declared.ids.NodeId.{NodeId}
use Rattle.mldp.specs.declared.mldp_fec.fec.Fec.{Fec}
use Rattle.label_defs.specs.declared.label_use.LabelUse.{LabelUse}
use Rattle.label_defs.specs.declared.label_use.LabelUse.TheVariants as uses
use Rattle.label_defs.specs.LabelData.{LabelData, first_label, use_of, is_free, is_mapped, free_label, mapped_label}
use Rattle.label_defs.specs.Settling.{with_use}
use Rattle.label_defs.specs.Settled.{Maps}
use Rattle.label_defs.proofs.KeyLemmas.{same_fec_equal, same_fec_itself}

-- ---- lists

set_same : {X : Type 0} (xs : List X) (k : ℕ) (s t : X) → slice_get xs k ≡ Some s → slice_get (slice_set xs k t) k ≡ Some t
set_same [] k s t e = absurd (none-some s e)
set_same (x ∷ xs) zero s t e = refl
set_same (x ∷ xs) (suc k) s t e = set_same xs k s t e

set_other : {X : Type 0} (xs : List X) (k l : ℕ) (t : X) → (k ≡ l → ⊥) → slice_get (slice_set xs l t) k ≡ slice_get xs k
set_other [] k l t ne = refl
set_other (x ∷ xs) zero zero t ne = absurd (ne refl)
set_other (x ∷ xs) zero (suc l) t ne = refl
set_other (x ∷ xs) (suc k) zero t ne = refl
set_other (x ∷ xs) (suc k) (suc l) t ne = set_other xs k l t (λ e. ne (ap suc e))

-- where no element passes
pub none_passes : {X : Type 0} (p : X → Bool) (xs : List X) → position p xs ≡ None → (k : ℕ) (x : X) → slice_get xs k ≡ Some x → p x ≡ false
none_passes p xs e k x at =
    let past : length xs ≤ position_or_len p xs = grind (arith, common_steps) in
    let within = slice_get_within xs k x at in
    ap p (sym (get_or_from_slice_get xs k x x at)) ∙ fails_before_first p xs k x (omega (arith, past, within))

-- the first that passes
pub record First {X : Type 0} (p : X → Bool) (xs : List X) (i : ℕ) : Type 0 where
  pub value : X
  pub at : slice_get xs i ≡ Some value
  pub passes : p value ≡ true
  pub before : (k : ℕ) (x : X) → k < i → slice_get xs k ≡ Some x → p x ≡ false

first_passes : {X : Type 0} (p : X → Bool) (xs : List X) (i : ℕ) (d : X) → position p xs ≡ Some i → First p xs i
first_passes p xs i d e =
    let x = position-Some p xs i d e in
    record {
      value = get_or xs i d;
      at = slice_get-get_or xs i d x.0;
      passes = x.1;
      before = λ k y lt at. ap p (sym (get_or_from_slice_get xs k y d at)) ∙ x.2 k lt;
    }

-- ---- labels

-- what the labels say, in the shape of `use_of`
abbrev pub used : List LabelUse → ℕ → Option LabelUse
used labels label = cond (nat_lt label 16) None (slice_get labels (label - 16))

pub used_place : (labels : List LabelUse) (place : ℕ) → used labels (16 + place) ≡ slice_get labels place
used_place labels place =
    let same : 16 + place - 16 ≡ place = omega arith in
    cond-false (nat_lt (16 + place) 16) None (slice_get labels (16 + place - 16)) (le-ltb (16 + place) 16 (omega arith))
    ∙ ap (λ k. slice_get labels k) same

pub used_some : (labels : List LabelUse) (label : ℕ) (usage : LabelUse) → used labels label ≡ Some usage
    → (16 ≤ label) × (slice_get labels (label - 16) ≡ Some usage)
used_some labels label usage e = elim (cases_lt label 16) [
  | inl lt ↦ absurd (none-some usage (sym (cond-true (nat_lt label 16) None (slice_get labels (label - 16)) (lt-ltb label 16 lt)) ∙ e))
  | inr ge ↦ (ge, sym (cond-false (nat_lt label 16) None (slice_get labels (label - 16)) (le-ltb label 16 ge)) ∙ e)
]

used_high : (labels : List LabelUse) (label : ℕ) → 16 ≤ label → used labels label ≡ slice_get labels (label - 16)
used_high labels label ge = cond-false (nat_lt label 16) None (slice_get labels (label - 16)) (le-ltb label 16 ge)

used_low : (labels : List LabelUse) (label : ℕ) → label < 16 → used labels label ≡ None
used_low labels label lt = cond-true (nat_lt label 16) None (slice_get labels (label - 16)) (lt-ltb label 16 lt)

-- one label changes
pub set_here : (part : LabelData) (label : ℕ) (old new : LabelUse) → use_of part label ≡ Some old → use_of (with_use part label new) label ≡ Some new
set_here part label old new e =
    let x = used_some part.labels label old e in
    used_high (slice_set part.labels (label - 16) new) label x.0 ∙ set_same part.labels (label - 16) old new x.1

pub set_there : (part : LabelData) (label : ℕ) (old new : LabelUse) (k : ℕ) → use_of part label ≡ Some old → (k ≡ label → ⊥)
    → use_of (with_use part label new) k ≡ use_of part k
set_there part label old new k e ne =
    let x = used_some part.labels label old e in
    elim (cases_lt k 16) [
      | inl lt ↦ used_low (slice_set part.labels (label - 16) new) k lt ∙ sym (used_low part.labels k lt)
      | inr ge ↦ used_high (slice_set part.labels (label - 16) new) k ge
          ∙ set_other part.labels (k - 16) (label - 16) new (λ same. (let high = x.0 in ne (omega (arith, same, ge, high))))
          ∙ sym (used_high part.labels k ge)
    ]

-- all labels change
pub used-map : (change : LabelUse → LabelUse) (labels : List LabelUse) (label : ℕ)
    → used (map change labels) label ≡ option_map change (used labels label)
used-map change labels label = elim (cases_lt label 16) [
  | inl lt ↦ used_low (map change labels) label lt ∙ sym (ap (option_map change) (used_low labels label lt))
  | inr ge ↦ used_high (map change labels) label ge ∙ slice_get-map change labels (label - 16)
      ∙ sym (ap (option_map change) (used_high labels label ge))
]

-- ---- the mapped label, the least free one

pub mapped_is : (fec : Fec) (usage : LabelUse) → is_mapped fec usage ≡ true → (upstream : NodeId) × (usage ≡ uses.Mapped fec upstream)
mapped_is fec (uses.Mapped own upstream) e = (upstream, ap (λ (f : Fec). uses.Mapped f upstream) (same_fec_equal own fec e))
mapped_is fec uses.Free e = absurd cc
mapped_is fec (uses.Leaving own upstream) e = absurd cc
mapped_is fec (uses.Resting until) e = absurd cc

pub free_is : (usage : LabelUse) → is_free usage ≡ true → usage ≡ uses.Free
free_is uses.Free e = refl
free_is (uses.Mapped own upstream) e = absurd cc
free_is (uses.Leaving own upstream) e = absurd cc
free_is (uses.Resting until) e = absurd cc

pub map_none : {A B : Type 0} (f : A → B) (o : Option A) → option_map f o ≡ None → o ≡ None
map_none f None e = refl
map_none f (Some x) e = absurd (none-some (f x) (sym e))

pub map_some : {A B : Type 0} (f : A → B) (o : Option A) (y : B) → option_map f o ≡ Some y → (x : A) × (o ≡ Some x) × (f x ≡ y)
map_some f None y e = absurd (none-some y e)
map_some f (Some x) y e = (x, refl, same_Some (f x) y e)

pub mapped_none : (part : LabelData) (fec : Fec) → mapped_label part fec ≡ None → (label : ℕ) (upstream : NodeId) → Maps part fec label upstream → ⊥
mapped_none part fec e label upstream is =
    let x = used_some part.labels label (uses.Mapped fec upstream) is in
    let fails =
    none_passes (is_mapped fec) part.labels (map_none (λ place. first_label + place) (position (is_mapped fec) part.labels) e) (label - 16)
    (uses.Mapped fec upstream) x.1 in
    let yes = same_fec_itself fec in
    absurd cc

pub mapped_some : (part : LabelData) (fec : Fec) (label : ℕ) → mapped_label part fec ≡ Some label → (upstream : NodeId) × Maps part fec label upstream
mapped_some part fec label e =
    let x = map_some (λ place. first_label + place) (position (is_mapped fec) part.labels) label e in
    let first = first_passes (is_mapped fec) part.labels x.0 uses.Free x.1 in
    let m = mapped_is fec first.value first.passes in
    (m.0, ap (used part.labels) (sym x.2) ∙ used_place part.labels x.0 ∙ first.at ∙ ap (λ (u : LabelUse). Some u) m.1)

pub free_none : (part : LabelData) → free_label part ≡ None → (label : ℕ) → use_of part label ≡ Some uses.Free → ⊥
free_none part e label is =
    let x = used_some part.labels label uses.Free is in
    let fails =
    none_passes is_free part.labels (map_none (λ place. first_label + place) (position is_free part.labels) e) (label - 16) uses.Free x.1 in
    absurd cc

-- the label is free, and none below it is
pub record Least (part : LabelData) (label : ℕ) : Type 0 where
  pub free : use_of part label ≡ Some uses.Free
  pub lower : (k : ℕ) → k < label → use_of part k ≡ Some uses.Free → ⊥

pub free_some : (part : LabelData) (label : ℕ) → free_label part ≡ Some label → Least part label
free_some part label e =
    let x = map_some (λ place. first_label + place) (position is_free part.labels) label e in
    let first = first_passes is_free part.labels x.0 uses.Free x.1 in
    let sum = x.2 in
    record {
      free = ap (used part.labels) (sym x.2) ∙ used_place part.labels x.0 ∙ first.at
          ∙ ap (λ (u : LabelUse). Some u) (free_is first.value first.passes);
      lower = λ k lt is.
          let y = used_some part.labels k uses.Free is in
          let high = y.0 in
          let fails = first.before (k - 16) uses.Free (omega (arith, sum, lt, high)) y.1 in
          absurd cc;
    }
