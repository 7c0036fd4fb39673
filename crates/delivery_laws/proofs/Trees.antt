-- A flood over a tree: what one node writes is written once, if the node hangs on the tree.
use Rattle.std.proofs.Common.{◌≡◌, ℕ, zero, suc, ◌+◌, ◌≤◌, Bool, true, false, cond, List, [], ◌∷◌, refl, sym, ap, subst, inl, inr, ◌∙◌, arith}
use Rattle.std.specs.Prelude.{◌==◌, sum_by, count_by}
use Rattle.std.proofs.lemmas.Bool.{cases_Bool, eq-eqb, cond-true, cond-false}
use Rattle.std.proofs.lemmas.List.Sums.{sum_by-cons}
use Rattle.mv_base.specs.declared.ids.NodeId.{NodeId}
use Rattle.label_defs.specs.declared.branch.Branch.{Branch}
use Rattle.label_defs.proofs.KeyLemmas.{node_equal}
use Rattle.label_defs.proofs.MemberLemmas.{count-cons}
use Rattle.delivery_laws.specs.Calm.{leading_to, HangsBelow}
use Rattle.delivery_laws.proofs.Totals.{sum-alike}
use Rattle.network_laws.proofs.Lists.{each_of}

-- what one node writes, and each_of others do not
abbrev pub only_at : NodeId → ℕ → NodeId → ℕ
only_at at count n = cond (n.0 == at.0) count 0

-- what is written below a node over so many steps
abbrev pub flood : (NodeId → List Branch) → (NodeId → ℕ) → ℕ → NodeId → ℕ
flood branches own zero n = 0
flood branches own (suc steps) n = own n + sum_by (λ branch. flood branches own steps branch.node) (branches n)

-- the node hangs on the tree, so many steps below the root
abbrev pub Hangs : (NodeId → List Branch) → NodeId → ℕ → NodeId → Type 0
Hangs branches root zero n = n ≡ root
Hangs branches root (suc steps) n = (above : NodeId) × HangsBelow branches n above × Hangs branches root steps above

-- ---- sums

pub sum-two : {X : Type 0} (f g : X → ℕ) (xs : List X) → sum_by (λ x. f x + g x) xs ≡ sum_by f xs + sum_by g xs
sum-two f g [] = refl
sum-two f g (x ∷ xs) = let rest = sum-two f g xs in omega (arith, sum_by-cons (λ y. f y + g y) x xs, sum_by-cons f x xs, sum_by-cons g x xs)

pub sum-same : {X : Type 0} (f g : X → ℕ) → ((x : X) → f x ≡ g x) → (xs : List X) → sum_by f xs ≡ sum_by g xs
sum-same f g h xs = sum-alike f g xs (each_of (λ x. f x ≡ g x) h xs)

pub sum-zero : {X : Type 0} (f : X → ℕ) → ((x : X) → f x ≡ 0) → (xs : List X) → sum_by f xs ≡ 0
sum-zero f h [] = refl
sum-zero f h (x ∷ xs) = let rest = sum-zero f h xs in let one = h x in omega (arith, sum_by-cons f x xs)

-- the sum of one value at each element that passes, of which there is none, or one
sum-once_none : {X : Type 0} (test : X → Bool) (count : ℕ) (xs : List X) → count_by test xs ≡ 0 → sum_by (λ x. cond (test x) count 0) xs ≡ 0
sum-once_none test count [] h = refl
sum-once_none test count (x ∷ xs) h = elim (cases_Bool (test x)) [
  | inl t ↦ (let one : cond {A = ℕ} (test x) 1 0 ≡ 1 = cond-true (test x) 1 0 t in absurd (omega (arith, count-cons test x xs, one, h)))
  | inr f ↦
      let none : cond {A = ℕ} (test x) 1 0 ≡ 0 = cond-false (test x) 1 0 f in
      let own : cond {A = ℕ} (test x) count 0 ≡ 0 = cond-false (test x) count 0 f in
      let rest = sum-once_none test count xs (omega (arith, count-cons test x xs, none, h)) in
      omega (arith, sum_by-cons (λ y. cond (test y) count 0) x xs, own, rest)
]

sum-once_one : {X : Type 0} (test : X → Bool) (count : ℕ) (xs : List X) → count_by test xs ≡ 1 → sum_by (λ x. cond (test x) count 0) xs ≡ count
sum-once_one test count [] h = absurd (omega (arith, h))
sum-once_one test count (x ∷ xs) h = elim (cases_Bool (test x)) [
  | inl t ↦
      let one : cond {A = ℕ} (test x) 1 0 ≡ 1 = cond-true (test x) 1 0 t in
      let own : cond {A = ℕ} (test x) count 0 ≡ count = cond-true (test x) count 0 t in
      let rest = sum-once_none test count xs (omega (arith, count-cons test x xs, one, h)) in
      omega (arith, sum_by-cons (λ y. cond (test y) count 0) x xs, own, rest)
  | inr f ↦
      let none : cond {A = ℕ} (test x) 1 0 ≡ 0 = cond-false (test x) 1 0 f in
      let own : cond {A = ℕ} (test x) count 0 ≡ 0 = cond-false (test x) count 0 f in
      let rest = sum-once_one test count xs (omega (arith, count-cons test x xs, none, h)) in
      omega (arith, sum_by-cons (λ y. cond (test y) count 0) x xs, own, rest)
]

sum-once : {X : Type 0} (test : X → Bool) (count : ℕ) (xs : List X) (is : Bool) → count_by test xs ≡ cond is 1 0
    → sum_by (λ x. cond (test x) count 0) xs ≡ cond is count 0
sum-once test count xs true h = sum-once_one test count xs h
sum-once test count xs false h = sum-once_none test count xs h

-- ---- one step up

-- What a node that hangs below another one writes over the branches of any node, the other one would write there itself.
above_writes : (branches : NodeId → List Branch) (n above : NodeId) (count : ℕ) → HangsBelow branches n above → (steps : ℕ) (u : NodeId)
    → sum_by (λ branch. flood branches (only_at n count) steps branch.node) (branches u) ≡ flood branches (only_at above count) steps u
above_writes branches n above count h zero u = sum-zero (λ (branch : Branch). 0) (λ branch. refl) (branches u)
above_writes branches n above count h (suc steps) u =
    let own : sum_by (λ (branch : Branch). only_at n count branch.node) (branches u) ≡ only_at above count u =
    sum-once (λ (branch : Branch). branch.node.0 == n.0) count (branches u) (u.0 == above.0) (h u) in
    let below : sum_by (λ (branch : Branch). sum_by (λ (next : Branch). flood branches (only_at n count) steps next.node) (branches branch.node))
    (branches u) ≡ sum_by (λ (branch : Branch). flood branches (only_at above count) steps branch.node) (branches u) =
    sum-same (λ (branch : Branch). sum_by (λ (next : Branch). flood branches (only_at n count) steps next.node) (branches branch.node))
    (λ branch. flood branches (only_at above count) steps branch.node) (λ branch. above_writes branches n above count h steps branch.node)
    (branches u) in
    sum-two (λ (branch : Branch). only_at n count branch.node)
    (λ branch. sum_by (λ (next : Branch). flood branches (only_at n count) steps next.node) (branches branch.node)) (branches u)
    ∙ ap (λ x. x + sum_by (λ (branch : Branch). sum_by (λ (next : Branch). flood branches (only_at n count) steps next.node) (branches branch.node))
    (branches u)) own
    ∙ ap (λ x. only_at above count u + x) below

-- no branch leads to the root
abbrev pub IsRootOf : (NodeId → List Branch) → NodeId → Type 0
IsRootOf branches root = (u : NodeId) → leading_to root (branches u) ≡ 0

-- What the root would write is written below no node.
pub root_writes : (branches : NodeId → List Branch) (root : NodeId) (count : ℕ) → IsRootOf branches root → (steps : ℕ) (u : NodeId)
    → sum_by (λ branch. flood branches (only_at root count) steps branch.node) (branches u) ≡ 0
root_writes branches root count h zero u = sum-zero (λ (branch : Branch). 0) (λ branch. refl) (branches u)
root_writes branches root count h (suc steps) u =
    let own : sum_by (λ (branch : Branch). only_at root count branch.node) (branches u) ≡ 0 =
    sum-once_none (λ (branch : Branch). branch.node.0 == root.0) count (branches u) (h u) in
    let below : sum_by (λ (branch : Branch). sum_by (λ (next : Branch). flood branches (only_at root count) steps next.node) (branches branch.node))
    (branches u) ≡ 0 =
    sum-zero (λ (branch : Branch). sum_by (λ (next : Branch). flood branches (only_at root count) steps next.node) (branches branch.node))
    (λ branch. root_writes branches root count h steps branch.node) (branches u) in
    omega (
      arith,
      sum-two (λ (branch : Branch). only_at root count branch.node)
          (λ branch. sum_by (λ (next : Branch). flood branches (only_at root count) steps next.node) (branches branch.node)) (branches u),
      own,
      below,
    )

-- ---- from the root

not_root : (branches : NodeId → List Branch) (root n above : NodeId) → IsRootOf branches root → HangsBelow branches n above → (root.0 == n.0) ≡ false
not_root branches root n above r h = elim (cases_Bool (root.0 == n.0)) [
  | inl t ↦
      let same : root ≡ n = node_equal root n t in
      let here : leading_to n (branches above) ≡ 1 = h above ∙ cond-true (above.0 == above.0) 1 0 (eq-eqb above.0 above.0 refl) in
      let there : leading_to n (branches above) ≡ 0 = subst (λ (x : NodeId). leading_to x (branches above) ≡ 0) same (r above) in
      absurd (omega (arith, here, there))
  | inr f ↦ f
]

-- What a node that hangs on the tree writes is written once from the root, over steps enough.
pub flood_from_root : (branches : NodeId → List Branch) (root : NodeId) (count : ℕ) → IsRootOf branches root → (depth : ℕ) (n : NodeId)
    → Hangs branches root depth n → (steps : ℕ) → depth ≤ steps
    → flood branches (only_at n count) (suc steps) root ≡ count
flood_from_root branches root count r zero n h steps le =
    let same : (root.0 == n.0) ≡ true = eq-eqb root.0 n.0 (ap (λ (x : NodeId). x.0) (sym h)) in
    let own : only_at n count root ≡ count = cond-true (root.0 == n.0) count 0 same in
    let below =
    subst (λ (x : NodeId). sum_by (λ (branch : Branch). flood branches (only_at x count) steps branch.node) (branches root) ≡ 0) (sym h)
    (root_writes branches root count r steps root) in
    omega (arith, own, below)
flood_from_root branches root count r (suc depth) n h zero le = absurd (omega (arith, le))
flood_from_root branches root count r (suc depth) n h (suc steps) le =
    let own : only_at n count root ≡ 0 = cond-false (root.0 == n.0) count 0 (not_root branches root n h.0 r h.1) in
    let below = above_writes branches n h.0 count h.1 (suc steps) root in
    let rest = flood_from_root branches root count r depth h.0 h.2 steps (omega (arith, le)) in
    omega (arith, own, below, rest)

-- the same, below the root
pub flood_below_root : (branches : NodeId → List Branch) (root : NodeId) (count : ℕ) → IsRootOf branches root → (depth : ℕ) (n : NodeId)
    → Hangs branches root (suc depth) n → (steps : ℕ) → depth ≤ steps
    → sum_by (λ branch. flood branches (only_at n count) (suc steps) branch.node) (branches root) ≡ count
flood_below_root branches root count r depth n h steps le =
    above_writes branches n h.0 count h.1 (suc steps) root ∙ flood_from_root branches root count r depth h.0 h.2 steps le
