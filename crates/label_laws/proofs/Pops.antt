-- The first message in transit is taken: a mapping, or one that says nothing of a label.
use Rattle.std.proofs.Common.{◌≡◌, ◌≢◌, ℕ, ◌==◌, ◌&&◌, Bool, true, false, cond, ◌⊎◌, inl, inr, refl, sym, ap, subst, ◌∙◌, List, [], ◌∷◌, filter}
use Rattle.std.proofs.lemmas.Bool.{cases_eq, cases_Bool, ne_eqb, eq-eqb, cond-true, cond-false, and_from, and_parts, and_left, and_right, or_cases}
use Rattle.std.specs.Cmp.{Equal-is}
use Rattle.std.specs.Ordering.{eq_by_cmp}
use Rattle.std.specs.FinSet as sets
use Rattle.mv_base.specs.declared.ids.NodeId.{NodeId}
use Rattle.mldp.specs.declared.mldp_fec.fec.Fec.{Fec}
use Rattle.mldp.specs.declared.mldp_msgs.message.LabelMessage.{LabelMessage}
use Rattle.mldp.specs.declared.mldp_msgs.message.LabelMessage.TheVariants as messages
use Rattle.label_defs.specs.declared.branch.Branch.{Branch}
use Rattle.label_defs.specs.Keys.{branch_cmp}
use Rattle.label_defs.specs.LabelData.{LabelData, same_fec, use_of}
use Rattle.label_defs.specs.Steps.{branch_to}
use Rattle.label_defs.proofs.KeyLemmas.{branch_cmp_total, branch_cmp_exact, node_equal, node_itself, node_apart, node_cases, fec_cases, fec_apart, same_fec_from}
use Rattle.label_defs.proofs.SetLemmas.{inserted_here, inserted_other}
use Rattle.label_laws.specs.Network.{LabelNetwork}
use Rattle.label_laws.specs.Rule.{ViewAt, Phase, OfTrees, Rule, none, only, end_of, branch_trees, is_of_owner, is_release_of}
use Rattle.label_laws.proofs.Frames.{read_cond, along_view, skipped, passed}
use Rattle.label_laws.proofs.Phases.{Comes, mapping_comes}
use Rattle.label_laws.proofs.Views.{mapping_view}
use Rattle.label_laws.proofs.NodeRule.{moved, BranchView, node_rule}

-- what is in transit once the rest is left from a to b
abbrev pub popped : LabelNetwork → NodeId → NodeId → List LabelMessage → NodeId → NodeId → List LabelMessage
popped w a b rest u n = cond ((u.0 == a.0) && (n.0 == b.0)) rest (w.direction u n).transit

pub pop_here : (w : LabelNetwork) (a b : NodeId) (rest : List LabelMessage) → popped w a b rest a b ≡ rest
pop_here w a b rest =
    cond-true ((a.0 == a.0) && (b.0 == b.0)) rest (w.direction a b).transit
    (and_from (a.0 == a.0) (b.0 == b.0) (node_itself a a refl) (node_itself b b refl))

pub pop_from : (w : LabelNetwork) (a b : NodeId) (rest : List LabelMessage) (u n : NodeId) → u ≢ a → popped w a b rest u n ≡ (w.direction u n).transit
pop_from w a b rest u n ne =
    cond-false ((u.0 == a.0) && (n.0 == b.0)) rest (w.direction u n).transit (and_left (u.0 == a.0) (n.0 == b.0) (node_apart u a ne))

pub pop_to : (w : LabelNetwork) (a b : NodeId) (rest : List LabelMessage) (u n : NodeId) → n ≢ b → popped w a b rest u n ≡ (w.direction u n).transit
pop_to w a b rest u n ne =
    cond-false ((u.0 == a.0) && (n.0 == b.0)) rest (w.direction u n).transit (and_right (u.0 == a.0) (n.0 == b.0) (node_apart n b ne))

-- a test that the message does not pass
pub pop_skips : (w : LabelNetwork) (a b : NodeId) (m : LabelMessage) (rest : List LabelMessage) → (w.direction a b).transit ≡ m ∷ rest
    → (p : LabelMessage → Bool) → p m ≡ false
    → (u n : NodeId) → filter p (popped w a b rest u n) ≡ filter p (w.direction u n).transit
pop_skips w a b m rest front p h u n =
    read_cond (filter p) ((u.0 == a.0) && (n.0 == b.0)) rest (w.direction u n).transit (λ e.
    let x = and_parts (u.0 == a.0) (n.0 == b.0) e in
    let here : (w.direction u n).transit ≡ (w.direction a b).transit = λ i. (w.direction (node_equal u a x.0 i) (node_equal n b x.1 i)).transit in
    sym (ap (filter p) (here ∙ front) ∙ skipped p m rest h))

-- a session with a message in transit is joined
pub live_front : (w : LabelNetwork) (a b : NodeId) (m : LabelMessage) (rest : List LabelMessage) → a ≢ b → (w.direction a b).transit ≡ m ∷ rest
    → Rule w → (w.direction a b).joined ≡ true
live_front w a b m rest ne front rule =
    elim (cases_Bool (w.direction a b).joined) [
      | inl e ↦ e
      | inr e ↦ let q = (rule.session a b ne).quiet e in absurd cc
    ]

pub pop_quiet : (w : LabelNetwork) (a b : NodeId) (rest : List LabelMessage) → (w.direction a b).joined ≡ true → (u n : NodeId)
    → (w.direction u n).joined ≡ false → (w.direction u n).transit ≡ [] → popped w a b rest u n ≡ []
pop_quiet w a b rest live u n off empty =
    read_cond (λ ms. ms) ((u.0 == a.0) && (n.0 == b.0)) rest (w.direction u n).transit (λ e.
    let x = and_parts (u.0 == a.0) (n.0 == b.0) e in
    let here : (w.direction u n).joined ≡ (w.direction a b).joined = λ i. (w.direction (node_equal u a x.0 i) (node_equal n b x.1 i)).joined in
    absurd cc) ∙ empty

-- ---- a branch more

pub branch_here : (d : LabelData) (a : NodeId) (f : Fec) (l : ℕ) → branch_trees d a l ≡ none
    → branch_trees (record d { branches = sets.insert d.branches (branch_to a f l) }) a l ≡ only f
branch_here d a f l empty =
    let new = sets.insert d.branches (branch_to a f l) in
    let each : (g : Fec) → sets.contains new (branch_to a g l) ≡ same_fec g f = λ g. elim (fec_cases g f) [
      | inl e ↦ ap (λ (x : Fec). sets.contains new (branch_to a x l)) e ∙ inserted_here branch_cmp_total branch_cmp_exact d.branches (branch_to a f l)
          ∙ sym (same_fec_from g f e)
      | inr ne ↦ inserted_other branch_cmp_total branch_cmp_exact d.branches (branch_to a f l) (branch_to a g l)
          (λ e. ne (ap (λ (x : Branch). x.fec) e))
          ∙ ap (λ (q : Fec → Bool). q g) empty ∙ sym (fec_apart g f ne)
    ] in
    λ i g. each g i

pub branch_there : (d : LabelData) (a : NodeId) (f : Fec) (l : ℕ) (n : NodeId) (k : ℕ) → (n ≡ a → k ≡ l → ⊥)
    → branch_trees (record d { branches = sets.insert d.branches (branch_to a f l) }) n k ≡ branch_trees d n k
branch_there d a f l n k apart =
    λ i g. inserted_other branch_cmp_total branch_cmp_exact d.branches (branch_to a f l) (branch_to n g k)
    (λ e. apart (ap (λ (x : Branch). x.node) e) (ap (λ (x : Branch). x.label) e)) i

pub branch_trees_more : (is_tree : Fec → Bool) (d : LabelData) (branch : Branch) → is_tree branch.fec ≡ true → OfTrees is_tree d
    → OfTrees is_tree (record d { branches = sets.insert d.branches branch })
branch_trees_more is_tree d branch tree t =
    record {
      leaves = t.leaves;
      branches =
          λ b h. elim (or_cases (eq_by_cmp branch_cmp b branch) (sets.contains d.branches b)
          (sym (sets.contains-insert branch_cmp_total d.branches branch b) ∙ h)) [
            | inl e ↦ ap (λ (x : Branch). is_tree x.fec) (branch_cmp_exact b branch ((Equal-is (branch_cmp b branch)).0 e)) ∙ tree
            | inr e ↦ t.branches b e
          ];
      labels = t.labels;
    }

-- the branch (n, k), or another
pub at_branch : (n : NodeId) (k : ℕ) (a : NodeId) (l : ℕ) → ((n ≡ a) × (k ≡ l)) ⊎ (n ≡ a → k ≡ l → ⊥)
at_branch n k a l = elim (node_cases n a) [
  | inr p ↦ inr (λ x y. p x)
  | inl p ↦ elim (cases_eq k l) [ inl q ↦ inl (p, q) | inr q ↦ inr (λ x y. q y) ]
]

module _ (w : LabelNetwork) (a b : NodeId) (f : Fec) (l : ℕ) (rest : List LabelMessage) (ne : a ≢ b)
    (front : (w.direction a b).transit ≡ messages.Mapping f l ∷ rest) (rule : Rule w) where
  back : b ≢ a
  back e = ne (sym e)

  live : (w.direction a b).joined ≡ true
  live = live_front w a b (messages.Mapping f l) rest ne front rule

  live_back : (w.direction b a).joined ≡ true
  live_back = sym (rule.session a b ne).alike ∙ live

  front_is : filter (is_of_owner l) (w.direction a b).transit ≡ messages.Mapping f l ∷ filter (is_of_owner l) rest
  front_is = ap (filter (is_of_owner l)) front ∙ passed (is_of_owner l) (messages.Mapping f l) rest (eq-eqb l l refl)

  abbrev data_after : LabelData
  data_after = record (w.node b) { branches = sets.insert (w.node b).branches (branch_to a f l) }

  abbrev transit : NodeId → NodeId → List LabelMessage
  transit = popped w a b rest

  comes : Comes f b (use_of (w.node a) l) (branch_trees (w.node b) a l)
  comes =
      let P : List LabelMessage → Type 0 =
      λ ms. Phase b l (use_of (w.node a) l) ms (filter (is_release_of l) (w.direction b a).transit) (branch_trees (w.node b) a l) in
      mapping_comes b l f (use_of (w.node a) l) (filter (is_of_owner l) rest) (filter (is_release_of l) (w.direction b a).transit)
      (branch_trees (w.node b) a l) (subst P front_is ((rule.view b a l back).phase live_back))

  pub mapped_tree : w.is_tree f ≡ true
  mapped_tree = (rule.trees a).labels l f b comes.held

  skips : (p : LabelMessage → Bool) → p (messages.Mapping f l) ≡ false → (u n : NodeId) → filter p (transit u n) ≡ filter p (w.direction u n).transit
  skips p h u n = pop_skips w a b (messages.Mapping f l) rest front p h u n

  here : BranchView w b data_after transit a l
  here =
      along_view live_back refl refl refl (ap (filter (is_of_owner l)) (pop_here w a b rest)) (skips (is_release_of l) refl b a)
      (branch_here (w.node b) a f l comes.branch)
      (mapping_view b l f (end_of (w.node a) b) (end_of (w.node b) a) (use_of (w.node a) l) (filter (is_of_owner l) rest)
      (filter (is_release_of l) (w.direction b a).transit) (branch_trees (w.node b) a l) ((rule.session b a back).ends live_back)
      (along_view (sym live_back) refl refl refl (sym front_is) refl refl (rule.view b a l back)))

  there : (n : NodeId) (k : ℕ) → (n ≡ a → k ≡ l → ⊥) → ViewAt w b n k → BranchView w b data_after transit n k
  there n k apart v =
      along_view refl refl refl refl
      (elim (cases_eq k l) [
        | inl e ↦ ap (filter (is_of_owner k)) (pop_from w a b rest n b (λ x. apart x e))
        | inr e ↦ skips (is_of_owner k) (ne_eqb l k (λ x. e (sym x))) n b
      ])
      (skips (is_release_of k) refl b n) (branch_there (w.node b) a f l n k apart) v

  pub mapping_rule : Rule (moved w b data_after transit)
  mapping_rule =
      node_rule w b data_after transit (record {
        owner = λ u k j v. along_view refl refl refl refl (ap (filter (is_of_owner k)) (pop_from w a b rest b u back))
            (skips (is_release_of k) refl u b) refl v;
        branch = λ n k j v. elim (at_branch n k a l) [
          | inl e ↦
              let Q : NodeId → ℕ → Type 0 = λ y z. BranchView w b data_after transit y z in
              subst (λ y. Q y k) (sym e.0) (subst (λ z. Q a z) (sym e.1) here)
          | inr apart ↦ there n k apart v
        ];
        others = λ u n p q. pop_to w a b rest u n q;
        quiet = λ u n j off e. pop_quiet w a b rest live u n off e;
        ends = λ n j up. (rule.session b n j).ends up;
        covered = λ u k vpn t j past young h. h;
        trees = branch_trees_more w.is_tree (w.node b) (branch_to a f l) mapped_tree (rule.trees b);
      }) rule

-- a message that says nothing of a label is taken
pub ignored_rule : (w : LabelNetwork) (a b : NodeId) (kind : ℕ) (rest : List LabelMessage) → a ≢ b
    → (w.direction a b).transit ≡ messages.Ignored kind ∷ rest → Rule w → Rule (moved w b (w.node b) (popped w a b rest))
ignored_rule w a b kind rest ne front rule =
    let skips : (p : LabelMessage → Bool) → p (messages.Ignored kind) ≡ false → (u n : NodeId)
    → filter p (popped w a b rest u n) ≡ filter p (w.direction u n).transit =
    λ p h u n. pop_skips w a b (messages.Ignored kind) rest front p h u n in
    node_rule w b (w.node b) (popped w a b rest) (record {
      owner = λ u k j v. along_view refl refl refl refl (skips (is_of_owner k) refl b u) (skips (is_release_of k) refl u b) refl v;
      branch = λ n k j v. along_view refl refl refl refl (skips (is_of_owner k) refl n b) (skips (is_release_of k) refl b n) refl v;
      others = λ u n p q. pop_to w a b rest u n q;
      quiet = λ u n j off e. pop_quiet w a b rest (live_front w a b (messages.Ignored kind) rest ne front rule) u n off e;
      ends = λ n j up. (rule.session b n j).ends up;
      covered = λ u k vpn t j past young h. h;
      trees = rule.trees b;
    }) rule
