-- On a calm tree each node is reached from the root, and a loss or a raise needs no label.
use Rattle.std.proofs.Common.{◌≡◌, ◌≢◌, ℕ, ◌<◌, ◌≤◌, ◌==◌, zero, suc, Bool, true, false, inl, inr, refl, sym, ap, subst, ◌∙◌, List, [], filter, Option, Some, None, option_map, arith}
use Rattle.std.proofs.lemmas.Bool.{or_left}
use Rattle.std.proofs.lemmas.Option.{none-some}
use Rattle.std.specs.FinSet as sets
use Rattle.mv_base.specs.declared.ids.NodeId.{NodeId}
use Rattle.mldp.specs.declared.mldp_fec.fec.Fec.{Fec}
use Rattle.mldp.specs.declared.mldp_msgs.message.LabelMessage.{LabelMessage}
use Rattle.label_defs.specs.declared.branch.Branch.{Branch}
use Rattle.label_defs.specs.declared.label_use.LabelUse.{LabelUse}
use Rattle.label_defs.specs.declared.label_use.LabelUse.TheVariants as uses
use Rattle.label_defs.specs.LabelData.{same_fec, has_branch, has_tree, use_of, is_up}
use Rattle.label_defs.specs.Settling.{Stepped}
use Rattle.label_defs.specs.Steps as steps
use Rattle.label_defs.specs.Steps.{branch_to, label_step}
use Rattle.label_defs.proofs.KeyLemmas.{branch_cmp_total, branch_cmp_exact, node_cases, same_fec_from, same_fec_itself}
use Rattle.label_defs.proofs.SetLemmas.{member_passes}
use Rattle.label_defs.proofs.NoLabelLemmas.{loss_steps}
use Rattle.label_laws.specs.Network.{LabelNetwork, place_of, thereafter}
use Rattle.label_laws.specs.Acts.{Notice, Raise, noticed, raised, act}
use Rattle.label_laws.specs.Rule.{Kind, Mapping, Stands, MappingAndWithdraw, Withdraw, Release, Idle, PhaseIs, Kept, branch_trees, is_of_owner, is_release_of}
use Rattle.label_laws.specs.Calm.{CalmLink, Calm, Reached, at_root, below}

calm_at : (k : Kind) (u : NodeId) (l : ℕ) (f : Fec) (s : Option LabelUse) (ms bs : List LabelMessage) (o : Fec → Bool) → s ≡ Some (uses.Mapped f u)
    → ms ≡ [] → PhaseIs k u l s ms bs o → o f ≡ true
calm_at (Mapping g) u l f s ms bs o e none h = absurd cc
calm_at (Stands g) u l f s ms bs o e none h = let same : f ≡ g = cc in ap (λ (q : Fec → Bool). q f) h.branch ∙ same_fec_from f g same
calm_at (MappingAndWithdraw g) u l f s ms bs o e none h = absurd cc
calm_at (Withdraw g) u l f s ms bs o e none h = absurd cc
calm_at (Release g) u l f s ms bs o e none h = absurd cc
calm_at Idle u l f s ms bs o e none h = absurd (h.0 f (inl e))

-- the neighbour above has the branch for the label that is mapped
record Above (w : LabelNetwork) (depth : NodeId → ℕ) (fec : Fec) (n : NodeId) : Type 0 where
  node : NodeId
  label : ℕ
  nearer : depth node < depth n
  branch : sets.contains (w.node node).branches (branch_to n fec label) ≡ true
  is : use_of (w.node n) label ≡ Some (uses.Mapped fec node)

above : (w : LabelNetwork) (depth : NodeId → ℕ) (fec : Fec) (n : NodeId) → CalmLink w depth fec n → Kept w → has_tree (w.node n) fec ≡ true
    → Above w depth fec n
above w depth fec n c k has =
    let u = c.above in
    let less = c.nearer in
    let apart : u ≢ n = λ e. let same = ap depth e in omega (arith, same, less) in
    let m = (k.settled n fec).mapped u has c.toward c.ready in
    let p = (k.rule.view u n m.0 apart).phase c.joined in
    record {
      node = u;
      label = m.0;
      nearer = less;
      branch = calm_at p.kind u m.0 fec (use_of (w.node n) m.0) (filter (is_of_owner m.0) (w.direction n u).transit)
          (filter (is_release_of m.0) (w.direction u n).transit) (branch_trees (w.node u) n m.0) m.1 (ap (filter (is_of_owner m.0)) c.quiet) p.holds;
      is = m.1;
    }

has_tree_by : (w : LabelNetwork) (u n : NodeId) (fec : Fec) (l : ℕ) → sets.contains (w.node u).branches (branch_to n fec l) ≡ true
    → has_tree (w.node u) fec ≡ true
has_tree_by w u n fec l h =
    or_left (has_branch (w.node u) fec) (sets.contains (w.node u).leaves fec)
    (member_passes branch_cmp_total branch_cmp_exact (λ (b : Branch). same_fec b.fec fec) (w.node u).branches (branch_to n fec l) h
    (same_fec_itself fec))

reached_by : (k : ℕ) (w : LabelNetwork) (depth : NodeId → ℕ) (root n : NodeId) (fec : Fec) → Calm w depth root fec → Kept w → depth n ≤ k
    → has_tree (w.node n) fec ≡ true → Reached w fec root n
reached_by zero w depth root n fec calm kept le has =
    elim (node_cases n root) [
      | inl e ↦ subst (Reached w fec root) (sym e) at_root
      | inr ne ↦ let less = (calm n has ne).nearer in absurd (omega (arith, le, less))
    ]
reached_by (suc k) w depth root n fec calm kept le has =
    elim (node_cases n root) [
      | inl e ↦ subst (Reached w fec root) (sym e) at_root
      | inr ne ↦
          let a = above w depth fec n (calm n has ne) kept has in
          let less = a.nearer in
          below a.node a.label (reached_by k w depth root a.node fec calm kept (omega (arith, le, less))
          (has_tree_by w a.node n fec a.label a.branch)) a.branch a.is
    ]

pub reached : (w : LabelNetwork) (depth : NodeId → ℕ) (root n : NodeId) (fec : Fec) → Calm w depth root fec → Kept w → has_tree (w.node n) fec ≡ true
    → Reached w fec root n
reached w depth root n fec calm kept has = reached_by (depth n) w depth root n fec calm kept (omega arith) has

-- ---- losses and raises

stays_some : (w : LabelNetwork) (n : NodeId) (o : Option Stepped) → o ≢ None → option_map (thereafter w n) o ≢ None
stays_some w n None h e = h refl
stays_some w n (Some s) h e = none-some (thereafter w n s) (sym e)

noticed_some : (w : LabelNetwork) (a b : NodeId) (live up : Bool) → Kept w → noticed w a b live up ≢ None
noticed_some w a b false true k =
    stays_some w a (label_step (place_of w a) w.clock (w.node a) (steps.Noticed b)) (loss_steps (place_of w a) w.clock (w.node a) b (k.settled a))
noticed_some w a b false false k = λ e. none-some w (sym e)
noticed_some w a b true up k = λ e. none-some w (sym e)

raised_some : (w : LabelNetwork) (a b : NodeId) (same up other : Bool) → raised w a b same up other ≢ None
raised_some w a b false false false = λ e. none-some _ (sym e)
raised_some w a b false false true = λ e. none-some w (sym e)
raised_some w a b false true other = λ e. none-some w (sym e)
raised_some w a b true up other = λ e. none-some w (sym e)

pub notice_steps : (w : LabelNetwork) (a b : NodeId) → Kept w → act w (Notice a b) ≢ None
notice_steps w a b k = noticed_some w a b (w.direction a b).joined (is_up (w.node a) b) k

pub raise_steps : (w : LabelNetwork) (a b : NodeId) → act w (Raise a b) ≢ None
raise_steps w a b = raised_some w a b (a.0 == b.0) (is_up (w.node a) b) (is_up (w.node b) a)
