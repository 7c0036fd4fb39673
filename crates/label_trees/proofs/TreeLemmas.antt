-- The trees of a node are those that its forwarding table knows.
use Rattle.std.proofs.Common.{◌≡◌, ℕ, zero, suc, ◌+◌, ◌==◌, ◌||◌, Bool, true, false, cond, List, [], ◌∷◌, ◌++◌, map, slice_get, Option, Some, None, refl, sym, ap, subst, ◌∙◌, inl, inr}
use Rattle.std.specs.List.{list_any}
use Rattle.std.specs.Cmp.{both_ways, eq_by_cmp_equiv}
use Rattle.std.specs.FinMap as maps
use Rattle.std.specs.FinMap.{FinMap}
use Rattle.std.specs.FinSet as sets
use Rattle.std.proofs.lemmas.Bool.{or_cases, or_right}
use Rattle.std.proofs.lemmas.List.Folds.{list_any-append}
use Rattle.std.proofs.lemmas.Option.{same_Some, none-some}
use Rattle.mv_base.specs.declared.ids.NodeId.{NodeId}
use Rattle.mldp.specs.declared.mldp_fec.fec.Fec.{Fec}
use Rattle.label_defs.specs.declared.branch.Branch.{Branch as TreeBranch}
use Rattle.label_defs.specs.declared.label_use.LabelUse.{LabelUse}
use Rattle.label_defs.specs.declared.label_use.LabelUse.TheVariants as uses
use Rattle.label_defs.specs.Keys.{fec_cmp}
use Rattle.label_defs.specs.LabelData.{same_fec, mapped_trees}
use Rattle.label_defs.specs.Members.{in_order}
use Rattle.label_defs.proofs.KeyLemmas.{fec_cmp_total, fec_cmp_exact, same_fec_equal, same_fec_itself}
use Rattle.label_defs.proofs.MemberLemmas.{contains_in_order}
use Rattle.label_defs.proofs.UseLemmas.{used_place, used_some}
use Rattle.label_forwarding.specs.Hops.{hop_cmp}
use Rattle.label_forwarding.specs.FibData.{FibData, hop, is_known, is_on}
use Rattle.label_forwarding.proofs.HopLemmas.{hop_cmp_total}
use Rattle.label_forwarding.proofs.KnownLemmas.{passing_entry, entry_passes}
use Rattle.label_trees.specs.label_uses.Uses.{Uses, use_in}
use Rattle.label_trees.specs.Trees.{trees_in, fec_under, AreMapped}
use Rattle.label_trees.proofs.MapLemmas.{mapped_under}

same_flips : (a b : Fec) → same_fec a b ≡ same_fec b a
same_flips a b = (eq_by_cmp_equiv fec_cmp_total).symm a b

pub any_flips : (fec : Fec) (fecs : List Fec) → list_any (same_fec fec) fecs ≡ list_any (λ own. same_fec own fec) fecs
any_flips fec [] = refl
any_flips fec (own ∷ more) = λ i. same_flips fec own i || any_flips fec more i

any_branch : (fec : Fec) (branches : List TreeBranch)
    → list_any (same_fec fec) (map (λ branch. branch.fec) branches) ≡ list_any (λ branch. same_fec branch.fec fec) branches
any_branch fec [] = refl
any_branch fec (own ∷ more) = λ i. same_flips fec own.fec i || any_branch fec more i

-- ---- labels that are mapped

mapped_listed : (fec : Fec) (upstream : NodeId) (labels : List LabelUse) (place : ℕ) → slice_get labels place ≡ Some (uses.Mapped fec upstream)
    → list_any (same_fec fec) (mapped_trees labels) ≡ true
mapped_listed fec upstream [] place at = absurd (none-some (uses.Mapped fec upstream) at)
mapped_listed fec upstream (usage ∷ more) zero at =
    subst (λ (x : LabelUse). list_any (same_fec fec) (mapped_trees (x ∷ more)) ≡ true) (sym (same_Some usage (uses.Mapped fec upstream) at))
    (ap (λ (b : Bool). b || list_any (same_fec fec) (mapped_trees more)) (same_fec_itself fec))
mapped_listed fec upstream (uses.Free ∷ more) (suc place) at = mapped_listed fec upstream more place at
mapped_listed fec upstream (uses.Mapped own v ∷ more) (suc place) at =
    or_right (same_fec fec own) (list_any (same_fec fec) (mapped_trees more)) (mapped_listed fec upstream more place at)
mapped_listed fec upstream (uses.Leaving own v ∷ more) (suc place) at = mapped_listed fec upstream more place at
mapped_listed fec upstream (uses.Resting until ∷ more) (suc place) at = mapped_listed fec upstream more place at

next : (fec : Fec) (labels : List LabelUse) (usage : LabelUse)
    → (place : ℕ) × (upstream : NodeId) × (slice_get labels place ≡ Some (uses.Mapped fec upstream))
    → (place : ℕ) × (upstream : NodeId) × (slice_get (usage ∷ labels) place ≡ Some (uses.Mapped fec upstream))
next fec labels usage at = (suc at.0, at.1, at.2)

listed_mapped : (fec : Fec) (labels : List LabelUse) → list_any (same_fec fec) (mapped_trees labels) ≡ true
    → (place : ℕ) × (upstream : NodeId) × (slice_get labels place ≡ Some (uses.Mapped fec upstream))
listed_mapped fec [] h = absurd cc
listed_mapped fec (uses.Free ∷ more) h = next fec more uses.Free (listed_mapped fec more h)
listed_mapped fec (uses.Leaving own v ∷ more) h = next fec more (uses.Leaving own v) (listed_mapped fec more h)
listed_mapped fec (uses.Resting until ∷ more) h = next fec more (uses.Resting until) (listed_mapped fec more h)
listed_mapped fec (uses.Mapped own v ∷ more) h = elim (or_cases (same_fec fec own) (list_any (same_fec fec) (mapped_trees more)) h) [
  | inl here ↦ (zero, v, ap (λ (x : Fec). Some (uses.Mapped x v)) (sym (same_fec_equal fec own here)))
  | inr later ↦ next fec more (uses.Mapped own v) (listed_mapped fec more later)
]

under_mapped : (o : Option LabelUse) (from : NodeId) (fec : Fec) → fec_under o from ≡ Some fec
    → (upstream : NodeId) × (o ≡ Some (uses.Mapped fec upstream))
under_mapped None from fec e = absurd (none-some fec e)
under_mapped (Some uses.Free) from fec e = absurd (none-some fec e)
under_mapped (Some (uses.Leaving own v)) from fec e = absurd (none-some fec e)
under_mapped (Some (uses.Resting until)) from fec e = absurd (none-some fec e)
under_mapped (Some (uses.Mapped own v)) from fec e = by (v.0 == from.0) e
  where
    by : (t : Bool) → cond t (Some own) None ≡ Some fec → (upstream : NodeId) × (Some (uses.Mapped own v) ≡ Some (uses.Mapped fec upstream))
    by true e = (v, ap (λ (x : Fec). Some (uses.Mapped x v)) (same_Some own fec e))
    by false e = absurd (none-some fec e)

pub noted_mapped : (pairs : FinMap hop_cmp Fec) (labels : List LabelUse) → AreMapped pairs labels → (fec : Fec)
    → list_any (λ (e : _ × Fec). same_fec e.1 fec) (maps.entries pairs) ≡ list_any (same_fec fec) (mapped_trees labels)
noted_mapped pairs labels all fec = both_ways _ _
    (λ h.
    let at = passing_entry (λ own. same_fec own fec) pairs hop_cmp_total h in
    let same : at.1 ≡ fec = same_fec_equal at.1 fec at.3 in
    let usage = under_mapped (use_in labels at.0.label) at.0.node at.1 (sym (all at.0.node at.0.label) ∙ at.2) in
    subst (λ (x : Fec). list_any (same_fec x) (mapped_trees labels) ≡ true) same
    (mapped_listed at.1 usage.0 labels _ (used_some labels at.0.label (uses.Mapped at.1 usage.0) usage.1).1))
    (λ h.
    let at = listed_mapped fec labels h in
    let is : use_in labels (16 + at.0) ≡ Some (uses.Mapped fec at.1) = used_place labels at.0 ∙ at.2 in
    entry_passes (λ own. same_fec own fec) pairs (hop at.1 (16 + at.0)) fec
    (all at.1 (16 + at.0) ∙ (ap (λ (o : Option LabelUse). fec_under o at.1) is ∙ mapped_under fec at.1)) (same_fec_itself fec))

-- ---- all trees

or_again : (a b c : Bool) → ((a || b) || c) ≡ (a || (b || c))
or_again true b c = refl
or_again false b c = refl

pub trees_are : (fib : FibData) (own : Uses) → AreMapped fib.pairs own.labels → (fecs : List Fec)
    → ((fec : Fec) → list_any (λ x. same_fec x fec) fecs ≡ is_known fib fec)
    → in_order (sets.from_list {R = fec_cmp} fecs) ≡ trees_in (record { uses = own; leaves = fib.leaves; branches = fib.branches })
trees_are fib own all fecs known =
    let branched : List Fec = map (λ (branch : TreeBranch). branch.fec) (in_order fib.branches) in
    let mapped : List Fec = mapped_trees own.labels in
    ap in_order (sets.same_set fec_cmp_total fec_cmp_exact (sets.from_list fecs) (sets.from_list (branched ++ (in_order fib.leaves ++ mapped)))
    (λ fec.
    sets.contains-from_list fec_cmp_total fecs fec ∙ (any_flips fec fecs ∙ (known fec
    ∙ (ap (λ (b : Bool). is_on fib fec || b) (noted_mapped fib.pairs own.labels all fec)
    ∙ (or_again (list_any (λ (branch : TreeBranch). same_fec branch.fec fec) (in_order fib.branches)) (sets.contains fib.leaves fec)
    (list_any (same_fec fec) mapped)
    ∙ ((λ i. sym (any_branch fec (in_order fib.branches)) i || (contains_in_order fec_cmp_total fib.leaves fec i || list_any (same_fec fec) mapped))
    ∙ (ap (λ (b : Bool). list_any (same_fec fec) branched || b) (sym (list_any-append (same_fec fec) (in_order fib.leaves) mapped))
    ∙ (sym (list_any-append (same_fec fec) branched (in_order fib.leaves ++ mapped))
    ∙ sym (sets.contains-from_list fec_cmp_total (branched ++ (in_order fib.leaves ++ mapped)) fec))))))))))
