-- How deep a node stands below a root: how many nodes have a lower cost to it.
use Rattle.std.specs.Prelude.{count_by, All}
use Rattle.std.specs.List.{AllByRecursion}
use Rattle.std.proofs.Common.{◌≡◌, ℕ, zero, suc, ◌+◌, ◌<◌, ◌≤◌, ◌⊎◌, nat_lt, Bool, true, false, cond, List, [], ◌∷◌, length, inl, inr, refl, sym, ap, subst, ◌∙◌, arith}
use Rattle.std.proofs.lemmas.Bool.{cases_Bool, cases_eq, lt-ltb, ltb-true}
use Rattle.mv_base.specs.declared.ids.NodeId.{NodeId}
use Rattle.std.proofs.lemmas.List.Elements.{All-contains}
use Rattle.mv_base.specs.declared.core_link.Link.{Link}
use Rattle.mv_base.specs.core_walks.Topology.{HasCost, HasEnds}
use Rattle.mv_base.specs.core_walks.Walks.{IsLinked, IsToward}
use Rattle.scenario_defs.specs.Rules.{Rules}
use Rattle.scenario_defs.specs.declared.scenario.Scenario.{Scenario}
use Rattle.mv_base.specs.core_walks.Core.{Core, IsCoreOf}
use Rattle.network_defs.specs.Costs.{AreRepriced}
use Rattle.network_defs.specs.Counts.{node_ids, all_nodes}
use Rattle.label_defs.proofs.MemberLemmas.{count-cons}

-- how many nodes have a lower cost to the root
abbrev pub depth_of : Scenario → Core → NodeId → NodeId → ℕ
depth_of scenario core root n = count_by (λ m. nat_lt (core.cost m root) (core.cost n root)) (all_nodes scenario)

count_few : {X : Type 0} (p : X → Bool) (xs : List X) → count_by p xs ≤ length xs
count_few p [] = omega arith
count_few p (x ∷ xs) =
    (let rest = count_few p xs in let one : cond {A = ℕ} (p x) 1 0 ≤ 1 =
    elim (p x) as (λ b. cond {A = ℕ} b 1 0 ≤ 1) [ true ↦ omega arith | false ↦ omega arith ] in omega (arith, count-cons p x xs, rest, one))

ids_length : (from count : ℕ) → length (node_ids from count) ≡ count
ids_length from zero = refl
ids_length from (suc count) = (let rest = ids_length (from + 1) count in omega (arith, rest))

abbrev bit : Bool → ℕ
bit b = cond b 1 0

bit_le : (a b : Bool) → (a ≡ true → b ≡ true) → bit a ≤ bit b
bit_le true true h = omega arith
bit_le true false h = absurd (let e = h refl in cc)
bit_le false true h = omega arith
bit_le false false h = omega arith

counts_le : {X : Type 0} (p q : X → Bool) → ((x : X) → p x ≡ true → q x ≡ true) → (xs : List X) → count_by p xs ≤ count_by q xs
counts_le p q h [] = omega arith
counts_le p q h (x ∷ xs) =
    (let rest = counts_le p q h xs in let one = bit_le (p x) (q x) (h x) in omega (arith, count-cons p x xs, count-cons q x xs, rest, one))

-- one of the nodes passes the second test alone
ids_less : (p q : NodeId → Bool) → ((x : NodeId) → p x ≡ true → q x ≡ true) → (at : NodeId) → p at ≡ false → q at ≡ true → (from count : ℕ)
    → from ≤ at.0 → at.0 < from + count → count_by p (node_ids from count) < count_by q (node_ids from count)
ids_less p q h at not_low low_at from zero low high = absurd (omega (arith, low, high))
ids_less p q h at not_low low_at from (suc count) low high = elim (cases_eq from at.0) [
  | inl e ↦
      let here : NodeId = record { 0 = from } in
      let same : at ≡ here = λ i. record { 0 = sym e i } in
      let a : bit (p here) ≡ 0 = ap bit (sym (ap p same) ∙ not_low) in
      let b : bit (q here) ≡ 1 = ap bit (sym (ap q same) ∙ low_at) in
      let rest = counts_le p q h (node_ids (from + 1) count) in
      omega (arith, count-cons p here (node_ids (from + 1) count), count-cons q here (node_ids (from + 1) count), rest, a, b)
  | inr ne ↦
      let here : NodeId = record { 0 = from } in
      let rest = ids_less p q h at not_low low_at (from + 1) count (omega (arith, low, ne)) (omega (arith, high)) in
      let one = bit_le (p here) (q here) (h here) in
      omega (arith, count-cons p here (node_ids (from + 1) count), count-cons q here (node_ids (from + 1) count), rest, one)
]

pub depth_few : (scenario : Scenario) (core : Core) (root n : NodeId) → Rules scenario → depth_of scenario core root n ≤ 255
depth_few scenario core root n rules =
    let few = rules.core.topology.few_nodes in
    let counted = count_few (λ (m : NodeId). nat_lt (core.cost m root) (core.cost n root)) (all_nodes scenario) in
    omega (arith, few, counted, ids_length 0 (length scenario.nodes))

-- ---- links at other costs

-- what holds of each link by its ends, and by a cost that it may have, holds of each at its present cost
pub repriced_each : (P Q : Link → Type 0) → ((link other : Link) → other.a ≡ link.a → other.b ≡ link.b → HasCost other → P link → Q other)
    → (links others : List Link) → AreRepriced links others
    → AllByRecursion P links → AllByRecursion Q others
repriced_each P Q each [] [] h all = tt
repriced_each P Q each [] (other ∷ others) h all = absurd h
repriced_each P Q each (link ∷ more) [] h all = absurd h
repriced_each P Q each (link ∷ more) (other ∷ others) h all = (each link other h.0 h.1 h.2 all.0, repriced_each P Q each more others h.3 all.1)

same_ends : (nodes : ℕ) (link other : Link) → other.a ≡ link.a → other.b ≡ link.b → HasEnds nodes link → HasEnds nodes other
same_ends nodes link other a b h = record {
  a = subst (λ (n : NodeId). n.0 < nodes) (sym a) h.a;
  b = subst (λ (n : NodeId). n.0 < nodes) (sym b) h.b;
  two = λ e. h.two (ap (λ (n : NodeId). n.0) (sym a) ∙ e ∙ ap (λ (n : NodeId). n.0) b);
}

pub repriced_ends : (nodes : ℕ) (links others : List Link) → AreRepriced links others → AllByRecursion (HasEnds nodes) links
    → AllByRecursion (HasEnds nodes) others
repriced_ends nodes links others h all =
    repriced_each (HasEnds nodes) (HasEnds nodes) (λ link other a b cost ends. same_ends nodes link other a b ends) links others h all

pub repriced_costs : (nodes : ℕ) (links others : List Link) → AreRepriced links others → AllByRecursion (HasEnds nodes) links
    → AllByRecursion HasCost others
repriced_costs nodes links others h all = repriced_each (HasEnds nodes) HasCost (λ link other a b cost ends. cost) links others h all

good_by : (nodes a b cost : ℕ) (link : Link) → ((link.a.0 ≡ a) × (link.b.0 ≡ b)) ⊎ ((link.a.0 ≡ b) × (link.b.0 ≡ a)) → link.cost ≡ cost
    → HasEnds nodes link → HasCost link → (b < nodes) × (1 ≤ cost)
good_by nodes a b cost link (inl h) p ends price = (let y = ends.b in omega (arith, y, h.1), let dear = price.0 in omega (arith, dear, p))
good_by nodes a b cost link (inr h) p ends price = (let x = ends.a in omega (arith, x, h.0), let dear = price.0 in omega (arith, dear, p))

good : (nodes : ℕ) (links : List Link) → All (HasEnds nodes) links → All HasCost links → (a b cost : ℕ) → IsLinked links a b cost
    → (b < nodes) × (1 ≤ cost)
good nodes links ends costs a b cost is =
    good_by nodes a b cost is.link is.ends is.priced (All-contains (HasEnds nodes) links is.link ends is.listed)
    (All-contains HasCost links is.link costs is.listed)

-- the neighbour of a node on the way to the root: it is linked to the node, and nearer to the root
pub record Nearer (scenario : Scenario) (links : List Link) (core : Core) (root n next : NodeId) : Type 0 where
  pub cost : ℕ
  pub linked : IsLinked links n.0 next.0 cost
  pub less : depth_of scenario core root next < depth_of scenario core root n

pub nearer : (scenario : Scenario) (links : List Link) (core : Core) → All (HasEnds (length scenario.nodes)) links → All HasCost links
    → IsCoreOf (length scenario.nodes) links core → (root n next : NodeId) → root.0 < length scenario.nodes
    → n.0 < length scenario.nodes → IsToward links n.0 root.0 next.0 → Nearer scenario links core root n next
nearer scenario links core ends costs is root n next within here toward =
    let first = toward.first in
    let link : IsLinked links n.0 next.0 first.walk.0 = first.walk.2 in
    let g = good (length scenario.nodes) links ends costs n.0 next.0 first.walk.0 link in
    let there = is.least next root g.0 within in
    let own = is.least n root here within in
    let rest : core.cost next root ≤ first.walk.1 = there.least first.thereafter first.walk.1 first.walk.3 in
    let all : first.cost ≤ core.cost n root = first.least.least own.steps (core.cost n root) own.walk in
    let sum : first.cost ≡ first.walk.0 + first.walk.1 = first.walk.4 in
    let dear = g.1 in
    let less : core.cost next root < core.cost n root = omega (arith, rest, all, sum, dear) in
    record {
      cost = first.walk.0;
      linked = link;
      less = ids_less (λ (m : NodeId). nat_lt (core.cost m root) (core.cost next root)) (λ (m : NodeId). nat_lt (core.cost m root) (core.cost n root))
          (λ m t. (let low = ltb-true (core.cost m root) (core.cost next root) t in
          lt-ltb (core.cost m root) (core.cost n root) (omega (arith, low, less))))
          next (not_below (core.cost next root)) (lt-ltb (core.cost next root) (core.cost n root) less) 0 (length scenario.nodes) (omega arith)
          (let within_too = g.0 in omega (arith, within_too));
    }
  where
    not_below : (k : ℕ) → nat_lt k k ≡ false
    not_below k = elim (cases_Bool (nat_lt k k)) [ inl t ↦ absurd (let low = ltb-true k k t in omega (arith, low)) | inr f ↦ f ]
