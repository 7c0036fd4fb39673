-- The FECs that have a slot are exactly the trees that the node is on or that a noted label names.
use Rattle.std.proofs.Common.{◌≡◌, ℕ, ◌+◌, ◌≤◌, ◌&&◌, ◌||◌, ◌==◌, Bool, true, false, not, cond, List, [], ◌∷◌, length, Option, Some, None, is_some, refl, sym, ap, subst, ◌∙◌, arith, inl, inr}
use Rattle.std.specs.List.{list_any, IsDistinct}
use Rattle.std.specs.Map.{lookup, keys_of}
use Rattle.std.specs.Ordering.{eq_by_cmp}
use Rattle.std.specs.Cmp.{IsEquivalence, IsTotalOrder, both_ways, eq_by_cmp_equiv}
use Rattle.std.specs.FinMap as maps
use Rattle.std.specs.FinMap.{FinMap}
use Rattle.std.proofs.lemmas.List.Sums.{sum_by-cons}
use Rattle.std.proofs.lemmas.Map.{lookup-none}
use Rattle.std.proofs.lemmas.Map.Entries.{lookup_head, lookup_tail, none_past_head}
use Rattle.std.proofs.lemmas.Map.Keys.{IsDistinct-from_sorted, IsDistinct-tail}
use Rattle.std.proofs.lemmas.Bool.{cases_Bool, or_cases, or_left, or_right, ne_eqb}
use Rattle.std.proofs.lemmas.Bool.Decides.{eqb_tells}
use Rattle.indexmap.specs.IndexMap.{get}
use Rattle.mv_base.proofs.SortedMaps.{find-lookup, map_sorted}
use Rattle.label_defs.specs.mldp.declared.mldp_fec.fec.Fec.{Fec}
use Rattle.label_defs.proofs.mldp.mldp_fec.SameLemmas.{fec_equal}
use Rattle.label_defs.specs.LabelData.{same_fec}
use Rattle.label_defs.proofs.KeyLemmas.{same_fec_equal, same_fec_itself}
use Rattle.label_forwarding.specs.declared.branch.Branch.{Branch}
use Rattle.label_forwarding.specs.declared.slots.Slot.{Slot}
use Rattle.label_forwarding.specs.Hops.{is_hop}
use Rattle.label_forwarding.specs.FibData.{FibData, is_known, is_on}
use Rattle.label_forwarding.specs.Slots.{is_fec, Pairs, Slots, fib_of, noted, mapped_of, IsFib}
use Rattle.label_forwarding.proofs.HopLemmas.{hop_cmp_total, hop-ties}
use Rattle.label_forwarding.proofs.SlotLemmas.{fec-ties, fec_flips}
use Rattle.label_forwarding.proofs.FibLemmas.{pair_seen, one_noted, on_slot, off_slot}

-- ---- values that pass a test

module _ {K X : Type 0} (passes : X → Bool) where
  -- where a value passes, it stands at some key
  passing_value : (eq : K → K → Bool) → IsEquivalence eq → (es : List (K × X)) → IsDistinct eq (keys_of es) → list_any (λ e. passes e.1) es ≡ true
      → (q : K) × (x : X) × (lookup (eq q) es ≡ Some x) × (passes x ≡ true)
  passing_value eq laws [] one h = absurd cc
  passing_value eq laws (e ∷ es) one h = elim (or_cases (passes e.1) (list_any (λ e. passes e.1) es) h) [
    | inl here ↦ (e.0, e.1, lookup_head (eq e.0) e es (laws.refl e.0), here)
    | inr later ↦
        let rest = passing_value eq laws es (IsDistinct-tail eq e.0 (keys_of es) one) later in (
          rest.0,
          rest.1,
          elim (cases_Bool (eq rest.0 e.0)) [
            | inl t ↦ (let none : lookup (eq rest.0) es ≡ None = lookup-none (eq rest.0) es (none_past_head laws rest.0 e es one t) in let some =
                rest.2 in absurd cc)
            | inr f ↦ lookup_tail (eq rest.0) e es f ∙ rest.2
          ],
          rest.3,
        )
  ]

  -- the value at a key
  value_passes : (test : K → Bool) (es : List (K × X)) (x : X) → lookup test es ≡ Some x → passes x ≡ true → list_any (λ e. passes e.1) es ≡ true
  value_passes test [] x at h = absurd cc
  value_passes test (e ∷ es) x at h = elim (cases_Bool (test e.0)) [
    | inl t ↦
        let here : Some e.1 ≡ Some x = sym (lookup_head test e es t) ∙ at in
        let same : e.1 ≡ x = cc in
        or_left (passes e.1) (list_any (λ e. passes e.1) es) (ap passes same ∙ h)
    | inr f ↦ or_right (passes e.1) (list_any (λ e. passes e.1) es) (value_passes test es x (sym (lookup_tail test e es f) ∙ at) h)
  ]

module _ {K X : Type 0} {R : K → K → _} (passes : X → Bool) (m : FinMap R X) where
  -- the same in a map
  pub passing_entry : IsTotalOrder R → list_any (λ (e : K × X). passes e.1) (maps.entries m) ≡ true
      → (q : K) × (x : X) × (maps.get m q ≡ Some x) × (passes x ≡ true)
  passing_entry total h =
      let at = passing_value passes (eq_by_cmp R) (eq_by_cmp_equiv total) (maps.entries m)
      (IsDistinct-from_sorted R (keys_of (maps.entries m)) (map_sorted R m)) h in
      (at.0, at.1, maps.get-entries m at.0 ∙ (find-lookup R at.0 (maps.entries m) ∙ at.2), at.3)

  pub entry_passes : (q : K) (x : X) → maps.get m q ≡ Some x → passes x ≡ true → list_any (λ (e : K × X). passes e.1) (maps.entries m) ≡ true
  entry_passes q x at h =
      value_passes passes (eq_by_cmp R q) (maps.entries m) x (sym (find-lookup R q (maps.entries m)) ∙ (sym (maps.get-entries m q) ∙ at)) h

hop_equiv : IsEquivalence is_hop
hop_equiv = subst (λ (eq : Branch → Branch → Bool). IsEquivalence eq) (λ i a b. sym (hop-ties a b) i) (eq_by_cmp_equiv hop_cmp_total)

-- ---- labels that name a FEC

some_noted : (fec : Fec) (es : List (Branch × Fec)) → 1 ≤ noted fec es → list_any (λ note. is_fec fec note.1) es ≡ true
some_noted fec [] le = absurd (omega (arith, le))
some_noted fec (e ∷ es) le = elim (cases_Bool (is_fec fec e.1)) [
  | inl t ↦ or_left (is_fec fec e.1) (list_any (λ note. is_fec fec note.1) es) t
  | inr f ↦
      let sum : ◌≡◌ {A = ℕ} (noted fec (e ∷ es)) (cond (is_fec fec e.1) 1 0 + noted fec es) =
      sum_by-cons (λ note. cond (is_fec fec note.1) 1 0) e es in
      let none : ◌≡◌ {A = ℕ} (cond (is_fec fec e.1) 1 0) 0 = ap (λ (b : Bool). cond b 1 0) f in
      or_right (is_fec fec e.1) (list_any (λ note. is_fec fec note.1) es) (some_noted fec es (omega (arith, sum, none, le)))
]

not_zero : (n : ℕ) → 1 ≤ n → not (n == 0) ≡ true
not_zero n le = ap not (ne_eqb n 0 (λ e. omega (arith, e, le)))

at_least_one : (n : ℕ) → not (n == 0) ≡ true → 1 ≤ n
at_least_one n h = elim (eqb_tells n 0) [
  | inl e ↦ (let yes : (n == 0) ≡ true = e.0 in absurd cc)
  | inr ne ↦ (let no = ne.1 in omega (arith, no))
]

pub named : (pairs : Pairs) (slots : Slots) → IsFib pairs slots → (fec : Fec)
    → list_any (λ (e : Branch × Fec). same_fec e.1 fec) (maps.entries (fib_of pairs slots).pairs) ≡ not (noted fec pairs.entries == 0)
named pairs slots fib fec = both_ways _ _
    (λ h.
    let at = passing_entry (λ own. same_fec own fec) (fib_of pairs slots).pairs hop_cmp_total h in
    let note : lookup (is_hop at.0) pairs.entries ≡ Some fec =
    sym (pair_seen pairs slots at.0) ∙ (at.2 ∙ ap (λ (x : Fec). Some x) (same_fec_equal at.1 fec at.3)) in
    not_zero (noted fec pairs.entries) (one_noted at.0 fec pairs.entries note))
    (λ h.
    let at = passing_value (λ own. is_fec fec own) is_hop hop_equiv pairs.entries fib.noted_once
    (some_noted fec pairs.entries (at_least_one (noted fec pairs.entries) h)) in
    let same : fec ≡ at.1 = fec_equal fec at.1 at.3 in
    entry_passes (λ own. same_fec own fec) (fib_of pairs slots).pairs at.0 at.1 (pair_seen pairs slots at.0 ∙ at.2)
    (subst (λ (x : Fec). same_fec x fec ≡ true) same (same_fec_itself fec)))

-- ---- FECs that have a slot

has_slot : (fec : Fec) (es : List (Fec × Slot)) → list_any (λ own. same_fec own fec) (keys_of es) ≡ is_some (lookup (is_fec fec) es)
has_slot fec [] = refl
has_slot fec (e ∷ es) = (λ i. (sym (fec-ties e.0 fec) ∙ fec_flips e.0 fec) i || has_slot fec es i) ∙ first (is_fec fec e.0) (lookup (is_fec fec) es)
  where
    first : (t : Bool) (o : Option Slot) → (t || is_some o) ≡ is_some (cond t (Some e.1) o)
    first true o = refl
    first false o = refl

needs : (mapped leaf none : Bool) → ((mapped && not leaf) && none) ≡ false → true ≡ ((leaf || not none) || not mapped)
needs mapped true none h = refl
needs mapped false false h = refl
needs true false true h = absurd cc
needs false false true h = refl

pub are_known : (pairs : Pairs) (slots : Slots) → IsFib pairs slots → (fec : Fec) → is_some (get is_fec slots fec) ≡ is_known (fib_of pairs slots) fec
are_known pairs slots fib fec = by (get is_fec slots fec) refl
  where
    by : (o : Option Slot) → get is_fec slots fec ≡ o → is_some o ≡ is_known (fib_of pairs slots) fec
    by None at =
        let count : 0 ≡ noted fec pairs.entries = sym (fib.counts fec ∙ ap mapped_of at) in
        (λ i. off_slot pairs slots fib fec at i || not (count i == 0))
        ∙ ap (λ (b : Bool). is_on (fib_of pairs slots) fec || b) (sym (named pairs slots fib fec))
    by (Some slot) at =
        let count : slot.mapped ≡ noted fec pairs.entries = sym (fib.counts fec ∙ ap mapped_of at) in
        needs (slot.mapped == 0) slot.entry.leaf (length (maps.keys slot.entry.branches) == 0) (fib.needed fec slot at)
        ∙ ((λ i. on_slot pairs slots fib fec slot at i || not (count i == 0))
        ∙ ap (λ (b : Bool). is_on (fib_of pairs slots) fec || b) (sym (named pairs slots fib fec)))

pub all_known : (pairs : Pairs) (slots : Slots) (fib : FibData) → IsFib pairs slots → fib_of pairs slots ≡ fib → (fecs : List Fec)
    → fecs ≡ keys_of slots.entries
    → (fec : Fec) → list_any (λ own. same_fec own fec) fecs ≡ is_known fib fec
all_known pairs slots fib is view fecs own fec =
    ap (list_any (λ own. same_fec own fec)) own ∙
    (has_slot fec slots.entries ∙ (are_known pairs slots is fec ∙ ap (λ (f : FibData). is_known f fec) view))
