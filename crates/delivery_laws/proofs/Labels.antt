-- Where nothing is left to be done on a tree, its branches are a tree.
use Rattle.std.specs.Prelude.{◌==◌, ◌&&◌, count_by}
use Rattle.std.proofs.Common.{◌≡◌, ◌≢◌, ℕ, Bool, true, false, cond, List, [], ◌∷◌, Some, is_some, refl, sym, ap, subst, inl, inr, ◌∙◌, arith}
use Rattle.std.specs.Cmp.{both_ways, Equal-is}
use Rattle.std.specs.List.{filter, AllByRecursion}
use Rattle.std.specs.Ordering.{eq_by_cmp}
use Rattle.std.specs.FinSet as sets
use Rattle.std.proofs.lemmas.Bool.{cases_Bool, and_parts, and_from, or_left, cond-true, cond-false, true≢false, false_from_ne_true}
use Rattle.mv_base.specs.declared.ids.NodeId.{NodeId}
use Rattle.mldp.specs.declared.mldp_fec.fec.Fec.{Fec}
use Rattle.label_defs.specs.Keys.{branch_cmp}
use Rattle.label_defs.specs.LabelData.{same_fec, use_of, has_branch, has_tree}
use Rattle.label_defs.specs.Settled.{Maps}
use Rattle.label_defs.specs.Steps.{branch_to}
use Rattle.label_defs.specs.declared.branch.Branch.{Branch}
use Rattle.label_defs.specs.declared.label_use.LabelUse.TheVariants as uses
use Rattle.label_defs.proofs.KeyLemmas.{branch_cmp_total, branch_cmp_exact, same_fec_equal, same_fec_itself, node_equal, node_itself, ties}
use Rattle.label_defs.proofs.SetLemmas.{member_passes}
use Rattle.label_defs.proofs.MemberLemmas.{each_in_order, once_in_order, count-cons}
use Rattle.network_defs.specs.session_defs.Octets.{OctetNetwork}
use Rattle.network_defs.specs.Nodes.{Nodes, label_place_of}
use Rattle.delivery_laws.specs.Calm.{branches_in, leading_to, HangsIn, CalmTree}
use Rattle.delivery_laws.specs.Labels.{part_at, CalmLabels}
use Rattle.delivery_laws.proofs.OutsOnce.{count_false}
use Rattle.label_defs.specs.Members.{in_order}

-- ---- items

-- what holds of those that pass holds of what is filtered
of_passing : {X : Type 0} (P : X → Type 0) (test : X → Bool) (xs : List X) → AllByRecursion (λ x. test x ≡ true → P x) xs
    → AllByRecursion P (filter test xs)
of_passing P test [] h = tt
of_passing P test (x ∷ xs) h = by (test x) refl (of_passing P test xs h.1)
  where
    by : (b : Bool) → test x ≡ b → AllByRecursion P (filter test xs) → AllByRecursion P (cond b (x ∷ filter test xs) (filter test xs))
    by true e rest = (h.0 e, rest)
    by false e rest = rest

-- a count of what is filtered, by what each element is
count_filtered : {X : Type 0} (test own meant : X → Bool) (xs : List X) → AllByRecursion (λ x. (test x && own x) ≡ meant x) xs
    → count_by own (filter test xs) ≡ count_by meant xs
count_filtered test own meant [] h = refl
count_filtered test own meant (x ∷ xs) h = by (test x) refl (count_filtered test own meant xs h.1)
  where
    by : (b : Bool) → test x ≡ b → count_by own (filter test xs) ≡ count_by meant xs
        → count_by own (cond b (x ∷ filter test xs) (filter test xs)) ≡ count_by meant (x ∷ xs)
    by true e rest =
        let same : own x ≡ meant x = ap (λ t. t && own x) (sym e) ∙ h.0 in
        let counts : cond {A = ℕ} (own x) 1 0 ≡ cond (meant x) 1 0 = ap (λ t. cond t 1 0) same in
        omega (arith, count-cons own x (filter test xs), count-cons meant x xs, counts, rest)
    by false e rest =
        let none : meant x ≡ false = sym h.0 ∙ ap (λ t. t && own x) e in
        let counts : cond {A = ℕ} (meant x) 1 0 ≡ 0 = ap (λ t. cond t 1 0) none in
        omega (arith, count-cons meant x xs, counts, rest)

-- ---- the tree

module _ (network : OctetNetwork Nodes) (fec : Fec) (root : NodeId) (labels : CalmLabels network fec root) where
  -- a branch of the tree is one of a label that is mapped
  is_mapped : (u : NodeId) (branch : Branch) → sets.contains (part_at network u).branches branch ≡ true → same_fec branch.fec fec ≡ true
      → Maps (part_at network branch.node) fec branch.label u
  is_mapped u branch h f =
      let same : branch.fec ≡ fec = same_fec_equal branch.fec fec f in
      let own : branch ≡ branch_to branch.node fec branch.label = ap (λ (x : Fec). branch_to branch.node x branch.label) same in
      labels.told u branch.node branch.label (subst (λ (b : Branch). sets.contains (part_at network u).branches b ≡ true) own h)

  mapped : (u : NodeId) → AllByRecursion (λ branch. use_of (part_at network branch.node) branch.label ≡ Some (uses.Mapped fec u))
      (branches_in network fec u)
  mapped u =
      of_passing (λ (branch : Branch). use_of (part_at network branch.node) branch.label ≡ Some (uses.Mapped fec u))
      (λ branch. same_fec branch.fec fec) (in_order (part_at network u).branches)
      (each_in_order branch_cmp_total (λ (branch : Branch). same_fec branch.fec fec ≡ true
      → use_of (part_at network branch.node) branch.label ≡ Some (uses.Mapped fec u)) (part_at network u).branches
      (λ branch h f. is_mapped u branch h f))

  -- none leads to a node that has mapped no label towards this one
  none_leads : (u n : NodeId) → ((label : ℕ) → Maps (part_at network n) fec label u → ⊥) → leading_to n (branches_in network fec u) ≡ 0
  none_leads u n h =
      count_filtered (λ (branch : Branch). same_fec branch.fec fec) (λ branch. branch.node.0 == n.0) (λ branch. false)
      (in_order (part_at network u).branches)
      (each_in_order branch_cmp_total (λ (branch : Branch). (same_fec branch.fec fec && (branch.node.0 == n.0)) ≡ false) (part_at network u).branches
      (λ branch is.
      false_from_ne_true (same_fec branch.fec fec && (branch.node.0 == n.0)) (λ t.
      let parts = and_parts (same_fec branch.fec fec) (branch.node.0 == n.0) t in
      h branch.label (subst (λ (x : NodeId). Maps (part_at network x) fec branch.label u) (node_equal branch.node n parts.1)
      (is_mapped u branch is parts.0)))))
      ∙ count_false (in_order (part_at network u).branches)

  -- one leads to a node that has mapped a label towards this one
  one_leads : (u n : NodeId) (label : ℕ) → Maps (part_at network n) fec label u → leading_to n (branches_in network fec u) ≡ 1
  one_leads u n label is =
      let own : Branch = branch_to n fec label in
      let items = in_order (part_at network u).branches in
      count_filtered (λ (branch : Branch). same_fec branch.fec fec) (λ branch. branch.node.0 == n.0) (eq_by_cmp branch_cmp own) items
      (each_in_order branch_cmp_total (λ (branch : Branch). (same_fec branch.fec fec && (branch.node.0 == n.0)) ≡ eq_by_cmp branch_cmp own branch)
      (part_at network u).branches (λ branch there.
      both_ways (same_fec branch.fec fec && (branch.node.0 == n.0)) (eq_by_cmp branch_cmp own branch)
      (λ t.
      let parts = and_parts (same_fec branch.fec fec) (branch.node.0 == n.0) t in
      let tree : branch.fec ≡ fec = same_fec_equal branch.fec fec parts.0 in
      let node : branch.node ≡ n = node_equal branch.node n parts.1 in
      let other : Maps (part_at network n) fec branch.label u =
      subst (λ (x : NodeId). Maps (part_at network x) fec branch.label u) node (is_mapped u branch there parts.0) in
      let number : label ≡ branch.label = (labels.settled n).one label branch.label u u is other in
      ties branch_cmp branch_cmp_total own branch (λ i. branch_to (sym node i) (sym tree i) (number i)))
      (λ t.
      let same : own ≡ branch = branch_cmp_exact own branch ((Equal-is (branch_cmp own branch)).0 t) in
      subst (λ (b : Branch). (same_fec b.fec fec && (b.node.0 == n.0)) ≡ true) same
      (and_from (same_fec fec fec) (n.0 == n.0) (same_fec_itself fec) (node_itself n n refl)))))
      ∙ (once_in_order branch_cmp_total (part_at network u).branches own
      ∙ cond-true (sets.contains (part_at network u).branches own) 1 0 (labels.known u n label is))

  -- a label is mapped towards the neighbour on the way to the root alone
  toward_above : (u n : NodeId) (label : ℕ) → Maps (part_at network n) fec label u → (label_place_of network.state n).upstream fec ≡ Some u
  toward_above u n label is = ((labels.settled n).toward label u is).0

  from_root : (u : NodeId) → leading_to root (branches_in network fec u) ≡ 0
  from_root u = none_leads u root (λ label is. true≢false (ap is_some (sym (toward_above u root label is) ∙ labels.root_is)))

  hangs : (n : NodeId) → has_tree (part_at network n) fec ≡ true → n ≢ root → HangsIn network fec labels.depth n
  hangs n on off =
      let up = labels.upstreams n on off in
      let at = (labels.settled n).mapped up.above on up.toward up.ready in
      let branch = labels.known up.above n at.0 at.1 in
      record {
        above = up.above;
        once = λ u. elim (cases_Bool (u.0 == up.above.0)) [
          | inl t ↦
              let same : u ≡ up.above = node_equal u up.above t in
              one_leads u n at.0 (subst (λ (x : NodeId). Maps (part_at network n) fec at.0 x) (sym same) at.1)
              ∙ sym (cond-true (u.0 == up.above.0) 1 0 t)
          | inr f ↦
              none_leads u n (λ label is.
              let some : Some u ≡ Some up.above = sym (toward_above u n label is) ∙ up.toward in
              let same : u ≡ up.above = cc in
              true≢false (sym (node_itself u up.above same) ∙ f))
              ∙ sym (cond-false (u.0 == up.above.0) 1 0 f)
        ];
        on_tree =
            or_left (has_branch (part_at network up.above) fec) (sets.contains (part_at network up.above).leaves fec)
            (member_passes branch_cmp_total branch_cmp_exact (λ (b : Branch). same_fec b.fec fec) (part_at network up.above).branches
            (branch_to n fec at.0) branch (same_fec_itself fec));
        nearer = up.nearer;
      }

  -- The branches are a tree from the root.
  pub calm_tree : CalmTree network fec root
  calm_tree = record { mapped = mapped; from_root = from_root; depth = labels.depth; bounded = labels.bounded; hangs = hangs }
