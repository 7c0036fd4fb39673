-- One node's data and what is in transit to and from it change, and nothing else does.
use Rattle.std.proofs.Common.{◌≡◌, ◌≢◌, ℕ, ◌+◌, ◌≤◌, true, false, inl, inr, refl, sym, ap, subst, ◌∙◌, filter, List, [], is_some}
use Rattle.std.specs.List.{AllByRecursion}
use Rattle.mv_base.specs.declared.ids.NodeId.{NodeId}
use Rattle.mldp.specs.declared.mldp_msgs.message.LabelMessage.{LabelMessage}
use Rattle.label_defs.specs.LabelData.{LabelData, use_of}
use Rattle.label_defs.proofs.KeyLemmas.{node_cases}
use Rattle.label_laws.specs.Network.{LabelNetwork, at_node}
use Rattle.label_laws.specs.Rule.{View, ViewAt, OfTrees, Covered, CopyOk, Rule, end_of, branch_trees, is_of_owner, is_release_of}
use Rattle.label_laws.proofs.Frames.{node_here, node_there, along_view, copies_along}

-- the network in which b has the data d, and this is in transit
abbrev pub moved : LabelNetwork → NodeId → LabelData → (NodeId → NodeId → List LabelMessage) → LabelNetwork
moved w b d transit = record w { node = at_node b d w.node; direction = λ u n. record (w.direction u n) { transit = transit u n } }

-- the view of u on the label l of b
abbrev pub OwnerView : LabelNetwork → NodeId → LabelData → (NodeId → NodeId → List LabelMessage) → NodeId → ℕ → Type 0
OwnerView w b d transit u l =
    View u l (w.direction u b).joined (end_of d u) (end_of (w.node u) b) (use_of d l) (filter (is_of_owner l) (transit b u))
    (filter (is_release_of l) (transit u b)) (branch_trees (w.node u) b l)

-- the view of b on the label l of n
abbrev pub BranchView : LabelNetwork → NodeId → LabelData → (NodeId → NodeId → List LabelMessage) → NodeId → ℕ → Type 0
BranchView w b d transit n l =
    View b l (w.direction b n).joined (end_of (w.node n) b) (end_of d n) (use_of (w.node n) l) (filter (is_of_owner l) (transit n b))
    (filter (is_release_of l) (transit b n)) (branch_trees d n l)

pub record Changes (w : LabelNetwork) (b : NodeId) (d : LabelData) (transit : NodeId → NodeId → List LabelMessage) : Type 0 where
  pub owner : (u : NodeId) (l : ℕ) → u ≢ b → ViewAt w u b l → OwnerView w b d transit u l
  pub branch : (n : NodeId) (l : ℕ) → b ≢ n → ViewAt w b n l → BranchView w b d transit n l
  pub others : (u n : NodeId) → u ≢ b → n ≢ b → transit u n ≡ (w.direction u n).transit
  pub quiet : (u n : NodeId) → u ≢ n → (w.direction u n).joined ≡ false → (w.direction u n).transit ≡ [] → transit u n ≡ []
  pub ends : (n : NodeId) → b ≢ n → (w.direction b n).joined ≡ true → is_some (end_of d n) ≡ true
  pub covered : (u : NodeId) (l vpn t : ℕ) → u ≢ b → t ≤ w.clock → w.clock ≤ t + w.life
      → Covered w.life w.vpn_of u (end_of (w.node b) u) (use_of (w.node b) l) vpn t → Covered w.life w.vpn_of u (end_of d u) (use_of d l) vpn t
  pub trees : OfTrees w.is_tree d

module _ (w : LabelNetwork) (b : NodeId) (d : LabelData) (transit : NodeId → NodeId → List LabelMessage) (c : Changes w b d transit) (rule : Rule w)
  where
    abbrev after : LabelNetwork
    after = moved w b d transit

    owner_at : (u : NodeId) (l : ℕ) → u ≢ b → ViewAt after u b l
    owner_at u l j =
        along_view refl
        (ap (λ (x : LabelData). end_of x u) (node_here b d w.node))
        (ap (λ (x : LabelData). end_of x b) (node_there b d w.node u j))
        (ap (λ (x : LabelData). use_of x l) (node_here b d w.node))
        refl refl
        (ap (λ (x : LabelData). branch_trees x b l) (node_there b d w.node u j))
        (c.owner u l j (rule.view u b l j))

    branch_at : (n : NodeId) (l : ℕ) → b ≢ n → ViewAt after b n l
    branch_at n l j =
        let there = node_there b d w.node n (λ e. j (sym e)) in
        along_view refl
        (ap (λ (x : LabelData). end_of x b) there)
        (ap (λ (x : LabelData). end_of x n) (node_here b d w.node))
        (ap (λ (x : LabelData). use_of x l) there)
        refl refl
        (ap (λ (x : LabelData). branch_trees x n l) (node_here b d w.node))
        (c.branch n l j (rule.view b n l j))

    view_at : (u n : NodeId) (l : ℕ) → u ≢ n → ViewAt after u n l
    view_at u n l j =
        elim (node_cases n b) [
          | inl p ↦ let P : NodeId → Type 0 = λ x. u ≢ x → ViewAt after u x l in subst P (sym p) (owner_at u l) j
          | inr p ↦ elim (node_cases u b) [
            | inl q ↦ let P : NodeId → Type 0 = λ x. x ≢ n → ViewAt after x n l in subst P (sym q) (branch_at n l) j
            | inr q ↦
                let un = node_there b d w.node u q in
                let nn = node_there b d w.node n p in
                along_view refl
                (ap (λ (x : LabelData). end_of x u) nn)
                (ap (λ (x : LabelData). end_of x n) un)
                (ap (λ (x : LabelData). use_of x l) nn)
                (ap (filter (is_of_owner l)) (c.others n u p q))
                (ap (filter (is_release_of l)) (c.others u n q p))
                (ap (λ (x : LabelData). branch_trees x n l) un)
                (rule.view u n l j)
          ]
        ]

    ends_at : (u n : NodeId) → u ≢ n → (w.direction u n).joined ≡ true → is_some (end_of (at_node b d w.node u) n) ≡ true
    ends_at u n j e =
        elim (node_cases u b) [
          | inl q ↦ let P : NodeId → Type 0 = λ x. (w.direction x n).joined ≡ true → x ≢ n → is_some (end_of (at_node b d w.node x) n) ≡ true in
              subst P (sym q) (λ up ne. ap (λ (x : LabelData). is_some (end_of x n)) (node_here b d w.node) ∙ c.ends n ne up) e j
          | inr q ↦ ap (λ (x : LabelData). is_some (end_of x n)) (node_there b d w.node u q) ∙ (rule.session u n j).ends e
        ]

    copies_at : (u n : NodeId) → u ≢ n → AllByRecursion (CopyOk w.clock w.life w.vpn_of w.origin u (at_node b d w.node n)) (w.direction u n).copies
    copies_at u n j =
        elim (node_cases n b) [
          | inl p ↦
              let P : NodeId → Type 0 =
              λ x. u ≢ x → AllByRecursion (CopyOk w.clock w.life w.vpn_of w.origin u (at_node b d w.node x)) (w.direction u x).copies in
              let Q : LabelData → Type 0 = λ x. AllByRecursion (CopyOk w.clock w.life w.vpn_of w.origin u x) (w.direction u b).copies in
              subst P (sym p) (λ ne. subst Q (sym (node_here b d w.node))
              (copies_along w.clock w.life w.vpn_of w.origin u (w.node b) d (w.direction u b).copies
              (λ l vpn t past young h. c.covered u l vpn t ne past young h) (rule.copies u b ne))) j
          | inr p ↦ let Q : LabelData → Type 0 = λ x. AllByRecursion (CopyOk w.clock w.life w.vpn_of w.origin u x) (w.direction u n).copies in
              subst Q (sym (node_there b d w.node n p)) (rule.copies u n j)
        ]

    trees_at : (n : NodeId) → OfTrees w.is_tree (at_node b d w.node n)
    trees_at n =
        let P : LabelData → Type 0 = OfTrees w.is_tree in
        elim (node_cases n b) [
          | inl p ↦ let Q : NodeId → Type 0 = λ x. OfTrees w.is_tree (at_node b d w.node x) in
              subst Q (sym p) (subst P (sym (node_here b d w.node)) c.trees)
          | inr p ↦ subst P (sym (node_there b d w.node n p)) (rule.trees n)
        ]

    pub node_rule : Rule after
    node_rule =
        record {
          view = view_at;
          session = λ u n j. let s = rule.session u n j in record { alike = s.alike; quiet = λ e. c.quiet u n j e (s.quiet e); ends = ends_at u n j };
          copies = copies_at;
          trees = trees_at;
        }
