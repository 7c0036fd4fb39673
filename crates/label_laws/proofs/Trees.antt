-- The leaves, branches and labels of a node are those of trees, whatever changes.
use Rattle.std.proofs.Common.{◌≡◌, ℕ, Bool, true, ◌⊎◌, inl, inr, sym, ap, subst, ◌∙◌}
use Rattle.std.proofs.lemmas.Bool.{or_cases}
use Rattle.std.specs.FinSet as sets
use Rattle.mv_base.specs.declared.ids.NodeId.{NodeId}
use Rattle.mldp.specs.declared.mldp_fec.fec.Fec.{Fec}
use Rattle.label_defs.specs.declared.branch.Branch.{Branch}
use Rattle.label_defs.specs.LabelData.{LabelData, same_fec, has_branch, has_tree, use_of}
use Rattle.label_defs.proofs.KeyLemmas.{branch_cmp_total, branch_cmp_exact, same_fec_equal}
use Rattle.label_defs.proofs.SetLemmas.{passing_member}
use Rattle.label_laws.specs.Rule.{IsUsedTowards, OfTrees}

-- the tree that a node is on is one
pub tree_of : (is_tree : Fec → Bool) (d : LabelData) (f : Fec) → OfTrees is_tree d → has_tree d f ≡ true → is_tree f ≡ true
tree_of is_tree d f t h = elim (or_cases (has_branch d f) (sets.contains d.leaves f) h) [
  | inl e ↦
      let x = passing_member branch_cmp_total branch_cmp_exact (λ (branch : Branch). same_fec branch.fec f) d.branches e in
      sym (ap is_tree (same_fec_equal x.0.fec f x.2)) ∙ t.branches x.0 x.1
  | inr e ↦ t.leaves f e
]

-- an item of a set with one more
pub one_more : {K : Type 0} (P : K → Type 0) (s t : K → Bool) (k : K) → P k → ((q : K) → s q ≡ true → P q)
    → ((q : K) → t q ≡ true → (q ≡ k) ⊎ (s q ≡ true)) → (q : K) → t q ≡ true → P q
one_more P s t k p all new q h = elim (new q h) [ inl e ↦ subst P (sym e) p | inr e ↦ all q e ]

-- what the node has is fewer or the same
pub fewer_trees : (is_tree : Fec → Bool) (old new : LabelData) → ((f : Fec) → sets.contains new.leaves f ≡ true → sets.contains old.leaves f ≡ true)
    → ((b : Branch) → sets.contains new.branches b ≡ true → sets.contains old.branches b ≡ true)
    → ((l : ℕ) (f : Fec) (u : NodeId) → IsUsedTowards f u (use_of new l) → IsUsedTowards f u (use_of old l)) → OfTrees is_tree old
    → OfTrees is_tree new
fewer_trees is_tree old new leaves branches labels t =
    record {
      leaves = λ f h. t.leaves f (leaves f h);
      branches = λ b h. t.branches b (branches b h);
      labels =
          λ l f u h. t.labels l f u (labels l f u h);
    }
