-- A noticed loss leaves all trees settled but those that the node has.
use Rattle.std.proofs.Common.{◌≡◌, ℕ, ◌==◌, zero, suc, Bool, true, false, not, cond, ◌||◌, inl, inr, List, [], ◌∷◌, ◌++◌, map, slice_get, Some, option_map, refl, sym, ap, subst, ◌∙◌}
use Rattle.std.specs.List.{list_any}
use Rattle.std.specs.Cmp.{eq_by_cmp_equiv}
use Rattle.std.specs.FinSet as sets
use Rattle.std.proofs.lemmas.Bool.{cond-true, cond-false, or_parts, or_from, or_right, and_parts, and_left, false_from_ne_true}
use Rattle.std.proofs.lemmas.List.Folds.{list_any-append}
use Rattle.std.proofs.lemmas.Option.{none-some, same_Some}
use Rattle.mldp.specs.mv_base.declared.ids.NodeId.{NodeId}
use Rattle.mldp.specs.declared.mldp_fec.fec.Fec.{Fec}
use Rattle.label_defs.specs.declared.branch.Branch.{Branch}
use Rattle.label_defs.specs.declared.label_use.LabelUse.{LabelUse}
use Rattle.label_defs.specs.declared.label_use.LabelUse.TheVariants as uses
use Rattle.label_defs.specs.Keys.{fec_cmp}
use Rattle.label_defs.specs.LabelData.{Place, LabelData, same_fec, use_of, has_branch, has_tree, is_ready, mapped_trees, trees}
use Rattle.label_defs.specs.Steps.{freed, without_session}
use Rattle.label_defs.specs.Settled.{Maps, Settled, AllSettled}
use Rattle.label_defs.specs.Members.{in_order}
use Rattle.label_defs.proofs.KeyLemmas.{fec_cmp_total, branch_cmp_total, branch_cmp_exact, node_cmp_total, node_cmp_exact, same_fec_itself, node_itself, node_cases, node_apart}
use Rattle.label_defs.proofs.MemberLemmas.{contains_in_order}
use Rattle.label_defs.proofs.UseLemmas.{used_some, used-map, map_some}
use Rattle.label_defs.proofs.SetLemmas.{member_passes, passing_member, retained, cut_other}
use Rattle.label_defs.proofs.TreeLemmas.{Tied, tied, not_both}
use Rattle.label_defs.proofs.SettleLemmas.{Good}
use Rattle.label_defs.proofs.EffectLemmas.{held}

-- what is mapped after a loss was so before, and not towards that neighbour
pub freed_maps : (node : NodeId) (usage : LabelUse) (fec : Fec) (u : NodeId) → freed node usage ≡ uses.Mapped fec u
    → (usage ≡ uses.Mapped fec u) × (u ≡ node → ⊥)
freed_maps node uses.Free fec u e = absurd cc
freed_maps node (uses.Resting until) fec u e = absurd cc
freed_maps node (uses.Leaving own v) fec u e = by (v.0 == node.0) e
  where
    by : (t : Bool) → cond t uses.Free (uses.Leaving own v) ≡ uses.Mapped fec u → (uses.Leaving own v ≡ uses.Mapped fec u) × (u ≡ node → ⊥)
    by true e = absurd cc
    by false e = absurd cc
freed_maps node (uses.Mapped own v) fec u e = elim (node_cases v node) [
  | inl same ↦ (let x = sym (cond-true (v.0 == node.0) uses.Free (uses.Mapped own v) (node_itself v node same)) ∙ e in absurd cc)
  | inr ne ↦
      let x = sym (cond-false (v.0 == node.0) uses.Free (uses.Mapped own v) (node_apart v node ne)) ∙ e in
      let to : v ≡ u = cc in
      (x, λ p. ne (to ∙ p))
]

pub freed_was : (part : LabelData) (node : NodeId) (fec : Fec) (label : ℕ) (u : NodeId) → Maps (without_session part node) fec label u
    → Maps part fec label u × (u ≡ node → ⊥)
freed_was part node fec label u p =
    let x = map_some (freed node) (use_of part label) (uses.Mapped fec u) (sym (used-map (freed node) part.labels label) ∙ p) in
    let y = freed_maps node x.0 fec u x.2 in
    (x.1 ∙ ap (λ (z : LabelUse). Some z) y.0, y.1)

pub freed_stays : (part : LabelData) (node : NodeId) (fec : Fec) (label : ℕ) (u : NodeId) → (u ≡ node → ⊥) → Maps part fec label u
    → Maps (without_session part node) fec label u
freed_stays part node fec label u ne p =
    used-map (freed node) part.labels label ∙ ap (option_map (freed node)) p
    ∙ ap (λ (x : LabelUse). Some x) (cond-false (u.0 == node.0) uses.Free (uses.Mapped fec u) (node_apart u node ne))

pub ready_stays : (part : LabelData) (peer node : NodeId) → (node ≡ peer → ⊥) → is_ready (without_session part peer) node ≡ is_ready part node
ready_stays part peer node ne = ap held (cut_other node_cmp_total node_cmp_exact part.ends peer node ne)

pub loss_tied : (place : Place) (part : LabelData) (peer : NodeId) (fec : Fec) → Tied place part fec → Tied place (without_session part peer) fec
loss_tied place part peer fec t =
    record {
      one = λ i j u v p q. t.one i j u v (freed_was part peer fec i u p).0 (freed_was part peer fec j v q).0;
      toward = λ i u p.
          let x = freed_was part peer fec i u p in
          let y = t.toward i u x.0 in
          (y.0, ready_stays part peer u x.1 ∙ y.1);
      apart = λ i u p. t.apart i u (freed_was part peer fec i u p).0;
    }

-- ---- trees that the node does not have

any_fec : (fec : Fec) (branches : List Branch)
    → list_any (same_fec fec) (map (λ (branch : Branch). branch.fec) branches) ≡ list_any (λ (branch : Branch). same_fec branch.fec fec) branches
any_fec fec [] = refl
any_fec fec (branch ∷ more) = λ i. (eq_by_cmp_equiv fec_cmp_total).symm fec branch.fec i || any_fec fec more i

in_mapped : (fec : Fec) (u : NodeId) (labels : List LabelUse) (k : ℕ) → slice_get labels k ≡ Some (uses.Mapped fec u)
    → list_any (same_fec fec) (mapped_trees labels) ≡ true
in_mapped fec u [] k e = absurd (none-some (uses.Mapped fec u) e)
in_mapped fec u (usage ∷ more) zero e =
    subst (λ (x : LabelUse). list_any (same_fec fec) (mapped_trees (x ∷ more)) ≡ true) (sym (same_Some usage (uses.Mapped fec u) e))
    (ap (λ b. b || list_any (same_fec fec) (mapped_trees more)) (same_fec_itself fec))
in_mapped fec u (uses.Free ∷ more) (suc k) e = in_mapped fec u more k e
in_mapped fec u (uses.Mapped own v ∷ more) (suc k) e =
    or_right (same_fec fec own) (list_any (same_fec fec) (mapped_trees more)) (in_mapped fec u more k e)
in_mapped fec u (uses.Leaving own v ∷ more) (suc k) e = in_mapped fec u more k e
in_mapped fec u (uses.Resting until ∷ more) (suc k) e = in_mapped fec u more k e

pub record Absent (part : LabelData) (fec : Fec) : Type 0 where
  pub branches : has_branch part fec ≡ false
  pub leaves : sets.contains part.leaves fec ≡ false
  pub none : (label : ℕ) (upstream : NodeId) → Maps part fec label upstream → ⊥

pub absent : (part : LabelData) (fec : Fec) → list_any (same_fec fec) (trees part) ≡ false → Absent part fec
absent part fec h =
    let branches = map (λ (branch : Branch). branch.fec) (in_order part.branches) in
    let leaves = in_order part.leaves in
    let mapped = mapped_trees part.labels in
    let all = branches ++ (leaves ++ mapped) in
    let out : list_any (same_fec fec) all ≡ false =
    sym (sets.contains-from_list fec_cmp_total all fec) ∙ contains_in_order fec_cmp_total (sets.from_list {R = fec_cmp} all) fec ∙ h in
    let x = or_parts (list_any (same_fec fec) branches) (list_any (same_fec fec) (leaves ++ mapped))
    (sym (list_any-append (same_fec fec) branches (leaves ++ mapped)) ∙ out) in
    let y = or_parts (list_any (same_fec fec) leaves) (list_any (same_fec fec) mapped) (sym (list_any-append (same_fec fec) leaves mapped) ∙ x.1) in
    record {
      branches = sym (any_fec fec (in_order part.branches)) ∙ x.0;
      leaves = contains_in_order fec_cmp_total part.leaves fec ∙ y.0;
      none = λ label u p. not_both (list_any (same_fec fec) mapped)
          (in_mapped fec u part.labels _ (used_some part.labels label (uses.Mapped fec u) p).1) y.1;
    }

-- after a loss the node has no branch that it had not
pub loss_adds_no_branch : (part : LabelData) (peer : NodeId) (fec : Fec) → has_branch (without_session part peer) fec ≡ true
    → has_branch part fec ≡ true
loss_adds_no_branch part peer fec h =
    let p : Branch → Bool = λ own. same_fec own.fec fec in
    let kept : Branch → Bool = λ own. not (own.node.0 == peer.0) in
    let x = passing_member branch_cmp_total branch_cmp_exact p (sets.retain part.branches kept) h in
    let y = and_parts (sets.contains part.branches x.0) (kept x.0) (sym (retained branch_cmp_total branch_cmp_exact part.branches kept x.0) ∙ x.1) in
    member_passes branch_cmp_total branch_cmp_exact p part.branches x.0 y.0 x.2

loss_settled : (place : Place) (part : LabelData) (peer : NodeId) (fec : Fec) → list_any (same_fec fec) (trees part) ≡ false → Settled place part fec
    → Settled place (without_session part peer) fec
loss_settled place part peer fec h s =
    let a = absent part fec h in
    let t = loss_tied place part peer fec (tied place part fec s) in
    let new : LabelData = without_session part peer in
    let before : has_tree part fec ≡ false = or_from (has_branch part fec) (sets.contains part.leaves fec) a.branches a.leaves in
    let branches : has_branch new fec ≡ false =
    false_from_ne_true (has_branch new fec) (λ e. not_both (has_branch part fec) (loss_adds_no_branch part peer fec e) a.branches) in
    let after : has_tree new fec ≡ false = or_from (has_branch new fec) (sets.contains part.leaves fec) branches a.leaves in
    record {
      one = t.one;
      toward = t.toward;
      needed = λ i u p. absurd (a.none i u (freed_was part peer fec i u p).0);
      mapped = λ u e p r. absurd (not_both (has_tree new fec) e after);
      waiting = s.waiting ∙ and_left (has_tree part fec) _ before ∙ sym (and_left (has_tree new fec) _ after);
    }

pub loss_good : (place : Place) (part : LabelData) (peer : NodeId) → AllSettled place part → Good place (trees part) (without_session part peer)
loss_good place part peer all =
    record {
      tied = λ fec. loss_tied place part peer fec (tied place part fec (all fec));
      settled = λ fec h. loss_settled place part peer fec h (all fec);
    }
