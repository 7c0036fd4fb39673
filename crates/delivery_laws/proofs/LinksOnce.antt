-- Each link of a scenario is the only one between its ends.
use Rattle.std.proofs.Common.{◌≡◌, ℕ, suc, ◌+◌, true, false, cond, List, [], ◌∷◌, All, AllPairs, length, refl, sym, inl, inr, ◌⊎◌, ⊎_elim, arith}
use Rattle.std.specs.Prelude.{◌==◌, count_by}
use Rattle.std.specs.List.{flat_map, AllByRecursion}
use Rattle.std.proofs.lemmas.Bool.{and_parts, and_from, eqb-true, eq-eqb, cond-true, cond-false, false_from_ne_true}
use Rattle.std.proofs.lemmas.List.Elements.{All-head, All-tail}
use Rattle.mv_base.specs.declared.core_link.Link.{Link}
use Rattle.mv_base.specs.declared.ids.NodeId.{NodeId}
use Rattle.mv_base.specs.core_walks.Topology.{HasEnds, JoinsSamePair}
use Rattle.scenario_defs.specs.Rules.{Rules}
use Rattle.scenario_defs.specs.declared.scenario.Scenario.{Scenario}
use Rattle.delivery_laws.specs.Flood.{is_way}
use Rattle.delivery_laws.specs.Linked.{LinksOnce}
use Rattle.label_defs.proofs.MemberLemmas.{count-cons}

abbrev ways_of : List Link → List (NodeId × NodeId)
ways_of links = flat_map (λ link. (link.a, link.b) ∷ (link.b, link.a) ∷ []) links

-- how many ways lead from the one node to the other
abbrev ways_between : NodeId → NodeId → List Link → ℕ
ways_between a b links = count_by (is_way a b) (ways_of links)

more_ways : (a b : NodeId) (link : Link) (rest : List Link)
    → ways_between a b (link ∷ rest) ≡ cond (is_way a b (link.a, link.b)) 1 0 + (cond (is_way a b (link.b, link.a)) 1 0 + ways_between a b rest)
more_ways a b link rest =
    omega (arith, count-cons (is_way a b) (link.a, link.b) ((link.b, link.a) ∷ ways_of rest), count-cons (is_way a b) (link.b, link.a) (ways_of rest))

-- the ends of a way
ends_of : (a b u n : NodeId) → is_way a b (u, n) ≡ true → (a.0 ≡ u.0) × (b.0 ≡ n.0)
ends_of a b u n e = (let parts = and_parts (u.0 == a.0) (n.0 == b.0) e in (sym (eqb-true u.0 a.0 parts.0), sym (eqb-true n.0 b.0 parts.1)))

-- the link joins both nodes
abbrev Joins : NodeId → NodeId → Link → Type 0
Joins a b link = ((a.0 ≡ link.a.0) × (b.0 ≡ link.b.0)) ⊎ ((a.0 ≡ link.b.0) × (b.0 ≡ link.a.0))

passed_over : (a b : NodeId) (link : Link) → (Joins a b link → ⊥)
    → (cond {A = ℕ} (is_way a b (link.a, link.b)) 1 0 ≡ 0) × (cond {A = ℕ} (is_way a b (link.b, link.a)) 1 0 ≡ 0)
passed_over a b link h = (
  cond-false (is_way a b (link.a, link.b)) 1 0 (false_from_ne_true (is_way a b (link.a, link.b)) (λ t. h (inl (ends_of a b link.a link.b t)))),
  cond-false (is_way a b (link.b, link.a)) 1 0 (false_from_ne_true (is_way a b (link.b, link.a)) (λ t. h (inr (ends_of a b link.b link.a t)))),
)

no_ways : (a b : NodeId) (links : List Link) → AllByRecursion (λ link. Joins a b link → ⊥) links → ways_between a b links ≡ 0
no_ways a b [] h = refl
no_ways a b (link ∷ rest) h =
    (let p = passed_over a b link h.0 in let first = p.0 in let second = p.1 in let more = no_ways a b rest h.1 in
    omega (arith, more_ways a b link rest, first, second, more))

itself : (a b : NodeId) → is_way a b (a, b) ≡ true
itself a b = and_from (a.0 == a.0) (b.0 == b.0) (eq-eqb a.0 a.0 refl) (eq-eqb b.0 b.0 refl)

turned : (a b : NodeId) → (a.0 ≡ b.0 → ⊥) → is_way a b (b, a) ≡ false
turned a b two = false_from_ne_true (is_way a b (b, a)) (λ t. two (ends_of a b b a t).0)

-- the ways of the first link, which no other link has
first_link : (link : Link) (rest : List Link) → (link.a.0 ≡ link.b.0 → ⊥) → AllByRecursion (λ other. JoinsSamePair link other → ⊥) rest
    → (ways_between link.a link.b (link ∷ rest) ≡ 1) × (ways_between link.b link.a (link ∷ rest) ≡ 1)
first_link link rest two h =
    let a = link.a in
    let b = link.b in
    let ab : cond {A = ℕ} (is_way a b (a, b)) 1 0 ≡ 1 = cond-true (is_way a b (a, b)) 1 0 (itself a b) in
    let ab_turned : cond {A = ℕ} (is_way a b (b, a)) 1 0 ≡ 0 = cond-false (is_way a b (b, a)) 1 0 (turned a b two) in
    let ba : cond {A = ℕ} (is_way b a (b, a)) 1 0 ≡ 1 = cond-true (is_way b a (b, a)) 1 0 (itself b a) in
    let ba_turned : cond {A = ℕ} (is_way b a (a, b)) 1 0 ≡ 0 = cond-false (is_way b a (a, b)) 1 0 (turned b a (λ e. two (sym e))) in
    let forth = no_ways a b rest (each rest h) in
    let back = no_ways b a rest (each_back rest h) in
    (omega (arith, more_ways a b link rest, ab, ab_turned, forth), omega (arith, more_ways b a link rest, ba, ba_turned, back))
  where
    each : (list : List Link) → AllByRecursion (λ other. JoinsSamePair link other → ⊥) list
        → AllByRecursion (λ other. Joins link.a link.b other → ⊥) list
    each [] k = tt
    each (other ∷ more) k = (λ j. k.0 j, each more k.1)

    each_back : (list : List Link) → AllByRecursion (λ other. JoinsSamePair link other → ⊥) list
        → AllByRecursion (λ other. Joins link.b link.a other → ⊥) list
    each_back [] k = tt
    each_back (other ∷ more) k = (λ j. k.0 (⊎_elim (λ x. inr (x.1, x.0)) (λ x. inl (x.1, x.0)) j), each_back more k.1)

-- one more link in front, which joins other nodes
one_more : (own : Link) (links : List Link) (list : List Link) → AllByRecursion (λ other. JoinsSamePair own other → ⊥) list
    → AllByRecursion (λ link. (ways_between link.a link.b links ≡ 1) × (ways_between link.b link.a links ≡ 1)) list
    → AllByRecursion (λ link. (ways_between link.a link.b (own ∷ links) ≡ 1) × (ways_between link.b link.a (own ∷ links) ≡ 1)) list
one_more own links [] h k = tt
one_more own links (link ∷ more) h k =
    let forth = passed_over link.a link.b own (λ j. h.0 (⊎_elim (λ x. inl (sym x.0, sym x.1)) (λ x. inr (sym x.1, sym x.0)) j)) in
    let swapped : Joins link.b link.a own → JoinsSamePair own link = swap link in
    let back = passed_over link.b link.a own (λ j. h.0 (swapped j)) in
    let f0 = forth.0 in let f1 = forth.1 in let b0 = back.0 in let b1 = back.1 in
    let was = k.0 in let was0 = was.0 in let was1 = was.1 in (
      (omega (arith, more_ways link.a link.b own links, f0, f1, was0), omega (arith, more_ways link.b link.a own links, b0, b1, was1)),
      one_more own links more h.1 k.1,
    )
  where
    swap : (link : Link) → Joins link.b link.a own → JoinsSamePair own link
    swap link (inl x) = inr (sym x.0, sym x.1)
    swap link (inr x) = inl (sym x.1, sym x.0)

-- ---- the rules

by_recursion : {X : Type 0} (P : X → Type 0) (xs : List X) → All P xs → AllByRecursion P xs
by_recursion P [] h = tt
by_recursion P (x ∷ xs) h = (All-head P x xs h, by_recursion P xs (All-tail P x xs h))

ways_once : (nodes : ℕ) (links : List Link) → All (HasEnds nodes) links → AllPairs (λ own other. JoinsSamePair own other → ⊥) links
    → AllByRecursion (λ link. (ways_between link.a link.b links ≡ 1) × (ways_between link.b link.a links ≡ 1)) links
ways_once nodes [] ends once = tt
ways_once nodes (link ∷ rest) ends once =
    let others : AllByRecursion (λ other. JoinsSamePair link other → ⊥) rest =
    by_recursion (λ other. JoinsSamePair link other → ⊥) rest (λ k d lt. once 0 (suc k) d (omega arith) (omega (arith, lt))) in
    let tail =
    ways_once nodes rest (All-tail (HasEnds nodes) link rest ends)
    (λ i j d lt within. once (suc i) (suc j) d (omega (arith, lt)) (omega (arith, within))) in
    (first_link link rest (All-head (HasEnds nodes) link rest ends).two others, one_more link rest rest others tail)

pub links_once : (scenario : Scenario) → Rules scenario → LinksOnce scenario
links_once scenario rules = ways_once (length scenario.nodes) scenario.links rules.core.topology.ends rules.core.topology.once
