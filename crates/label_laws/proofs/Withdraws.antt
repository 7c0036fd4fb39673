-- A withdraw is taken, and answered by a release.
use Rattle.std.proofs.Common.{◌≡◌, ◌≢◌, ℕ, Bool, true, false, inl, inr, refl, sym, ap, subst, ◌∙◌, List, [], ◌∷◌, ◌++◌, filter, not}
use Rattle.std.proofs.lemmas.Bool.{cases_eq, ne_eqb, eq-eqb, and_parts}
use Rattle.std.specs.Ordering.{eq_by_cmp}
use Rattle.std.specs.FinSet as sets
use Rattle.mv_base.specs.declared.ids.NodeId.{NodeId}
use Rattle.mldp.specs.declared.mldp_fec.fec.Fec.{Fec}
use Rattle.mldp.specs.declared.mldp_msgs.message.LabelMessage.{LabelMessage}
use Rattle.mldp.specs.declared.mldp_msgs.message.LabelMessage.TheVariants as messages
use Rattle.label_defs.specs.declared.branch.Branch.{Branch}
use Rattle.label_defs.specs.declared.put.Put.{Put}
use Rattle.label_defs.specs.Keys.{branch_cmp}
use Rattle.label_defs.specs.LabelData.{LabelData, use_of}
use Rattle.label_defs.specs.Steps.{branch_to}
use Rattle.label_defs.proofs.KeyLemmas.{branch_cmp_total, branch_cmp_exact, fec_cases, fec_apart}
use Rattle.label_defs.proofs.SetLemmas.{removed_here, removed_other}
use Rattle.label_laws.specs.Network.{Direction, LabelNetwork, sent}
use Rattle.label_laws.specs.Rule.{ViewAt, Phase, Rule, none, only, end_of, branch_trees, is_of_owner, is_release_of}
use Rattle.label_laws.proofs.Frames.{along_view, passed, none_to, fails_to, sent_other, sent_quiet, sent_skips, sent_passes}
use Rattle.label_laws.proofs.Phases.{withdraw_comes}
use Rattle.label_laws.proofs.Views.{withdraw_view}
use Rattle.label_laws.proofs.NodeRule.{moved, BranchView, node_rule}
use Rattle.label_laws.proofs.Trees.{fewer_trees}
use Rattle.label_laws.proofs.Pops.{popped, pop_here, pop_from, pop_to, pop_skips, live_front, pop_quiet, at_branch}

gone_here : (d : LabelData) (a : NodeId) (f : Fec) (l : ℕ) → branch_trees d a l ≡ only f
    → branch_trees (record d { branches = sets.remove d.branches (branch_to a f l) }) a l ≡ none
gone_here d a f l was =
    let new = sets.remove d.branches (branch_to a f l) in
    let each : (g : Fec) → sets.contains new (branch_to a g l) ≡ false = λ g. elim (fec_cases g f) [
      | inl e ↦ ap (λ (x : Fec). sets.contains new (branch_to a x l)) e ∙ removed_here branch_cmp_total branch_cmp_exact d.branches (branch_to a f l)
      | inr ne ↦ removed_other branch_cmp_total branch_cmp_exact d.branches (branch_to a f l) (branch_to a g l)
          (λ e. ne (ap (λ (x : Branch). x.fec) e))
          ∙ ap (λ (q : Fec → Bool). q g) was ∙ fec_apart g f ne
    ] in
    λ i g. each g i

gone_there : (d : LabelData) (a : NodeId) (f : Fec) (l : ℕ) (n : NodeId) (k : ℕ) → (n ≡ a → k ≡ l → ⊥)
    → branch_trees (record d { branches = sets.remove d.branches (branch_to a f l) }) n k ≡ branch_trees d n k
gone_there d a f l n k apart =
    λ i g. removed_other branch_cmp_total branch_cmp_exact d.branches (branch_to a f l) (branch_to n g k)
    (λ e. apart (ap (λ (x : Branch). x.node) e) (ap (λ (x : Branch). x.label) e)) i

module _ (w : LabelNetwork) (a b : NodeId) (f : Fec) (l : ℕ) (rest : List LabelMessage) (ne : a ≢ b)
    (front : (w.direction a b).transit ≡ messages.Withdraw f l ∷ rest) (rule : Rule w) where
  back : b ≢ a
  back e = ne (sym e)

  live : (w.direction a b).joined ≡ true
  live = live_front w a b (messages.Withdraw f l) rest ne front rule

  live_back : (w.direction b a).joined ≡ true
  live_back = sym (rule.session a b ne).alike ∙ live

  front_is : filter (is_of_owner l) (w.direction a b).transit ≡ messages.Withdraw f l ∷ filter (is_of_owner l) rest
  front_is = ap (filter (is_of_owner l)) front ∙ passed (is_of_owner l) (messages.Withdraw f l) rest (eq-eqb l l refl)

  abbrev data_after : LabelData
  data_after = record (w.node b) { branches = sets.remove (w.node b).branches (branch_to a f l) }

  abbrev left : NodeId → NodeId → Direction
  left u n = record (w.direction u n) { transit = popped w a b rest u n }

  abbrev puts : List Put
  puts = record { to = a; message = messages.Release f l } ∷ []

  abbrev transit : NodeId → NodeId → List LabelMessage
  transit = sent b puts left

  was : branch_trees (w.node b) a l ≡ only f
  was =
      let P : List LabelMessage → Type 0 =
      λ ms. Phase b l (use_of (w.node a) l) ms (filter (is_release_of l) (w.direction b a).transit) (branch_trees (w.node b) a l) in
      withdraw_comes b l f (use_of (w.node a) l) (filter (is_of_owner l) rest) (filter (is_release_of l) (w.direction b a).transit)
      (branch_trees (w.node b) a l) (subst P front_is ((rule.view b a l back).phase live_back))

  skips : (p : LabelMessage → Bool) → p (messages.Withdraw f l) ≡ false → (u n : NodeId)
      → filter p (popped w a b rest u n) ≡ filter p (w.direction u n).transit
  skips p h u n = pop_skips w a b (messages.Withdraw f l) rest front p h u n

  here : BranchView w b data_after transit a l
  here =
      along_view live_back refl refl refl
      (ap (filter (is_of_owner l)) (sent_other b puts left a b ne ∙ pop_here w a b rest))
      (sent_passes (is_release_of l) b a (messages.Release f l) left live_back (eq-eqb l l refl)
      ∙ ap (λ ms. filter (is_release_of l) ms ++ messages.Release f l ∷ []) (pop_from w a b rest b a back))
      (gone_here (w.node b) a f l was)
      (withdraw_view b l f (end_of (w.node a) b) (end_of (w.node b) a) (use_of (w.node a) l) (filter (is_of_owner l) rest)
      (filter (is_release_of l) (w.direction b a).transit) (branch_trees (w.node b) a l)
      (along_view (sym live_back) refl refl refl (sym front_is) refl refl (rule.view b a l back)))

  there : (n : NodeId) (k : ℕ) → (n ≡ a → k ≡ l → ⊥) → b ≢ n → ViewAt w b n k → BranchView w b data_after transit n k
  there n k apart j v =
      along_view refl refl refl refl
      (ap (filter (is_of_owner k)) (sent_other b puts left n b (λ e. j (sym e))) ∙ elim (cases_eq k l) [
        | inl e ↦ ap (filter (is_of_owner k)) (pop_from w a b rest n b (λ x. apart x e))
        | inr e ↦ skips (is_of_owner k) (ne_eqb l k (λ x. e (sym x))) n b
      ])
      (sent_skips (is_release_of k) b puts left b n (elim (cases_eq k l) [
        | inl e ↦ ap (filter (is_release_of k)) (none_to a n (messages.Release f l) (λ x. apart (sym x) e))
        | inr e ↦ fails_to (is_release_of k) a n (messages.Release f l) (ne_eqb l k (λ x. e (sym x)))
      ]) ∙ ap (filter (is_release_of k)) (pop_from w a b rest b n back))
      (gone_there (w.node b) a f l n k apart) v

  pub withdraw_rule : Rule (moved w b data_after transit)
  withdraw_rule =
      node_rule w b data_after transit (record {
        owner = λ u k j v. along_view refl refl refl refl
            (sent_skips (is_of_owner k) b puts left b u (fails_to (is_of_owner k) a u (messages.Release f l) refl)
            ∙ ap (filter (is_of_owner k)) (pop_from w a b rest b u back))
            (ap (filter (is_release_of k)) (sent_other b puts left u b j) ∙ skips (is_release_of k) refl u b) refl v;
        branch = λ n k j v. elim (at_branch n k a l) [
          | inl e ↦
              let Q : NodeId → ℕ → Type 0 = λ y z. BranchView w b data_after transit y z in
              subst (λ y. Q y k) (sym e.0) (subst (λ z. Q a z) (sym e.1) here)
          | inr apart ↦ there n k apart j v
        ];
        others = λ u n p q. sent_other b puts left u n p ∙ pop_to w a b rest u n q;
        quiet = λ u n j off e. sent_quiet b puts left u n off ∙ pop_quiet w a b rest live u n off e;
        ends = λ n j up. (rule.session b n j).ends up;
        covered = λ u k vpn t j past young h. h;
        trees = fewer_trees w.is_tree (w.node b) data_after (λ g h. h)
            (λ x h. (and_parts (not (eq_by_cmp branch_cmp x (branch_to a f l))) (sets.contains (w.node b).branches x)
            (sym (sets.contains-remove branch_cmp_total (w.node b).branches (branch_to a f l) x) ∙ h)).1)
            (λ k g u h. h) (rule.trees b);
      }) rule
