-- Links whose costs change join the same nodes.
use Rattle.std.proofs.Common.{◌≡◌, ◌⊎◌, ◌≤◌, ◌<◌, ℕ, Bool, true, false, List, [], ◌∷◌, length, get_or, subst, sym, refl, ap, ◌∙◌, arith}
use Rattle.std.proofs.lemmas.List.{get_or-map, length-map}
use Rattle.mv_base.specs.declared.core_link.Link.{Link}
use Rattle.mv_base.specs.declared.ids.NodeId.{NodeId}
use Rattle.mv_base.specs.core_walks.Walks.{IsLinked, IsWalk, Reaches}
use Rattle.mv_base.specs.core_walks.Topology.{HasEnds, HasCost, JoinsSamePair, IsTopology, IsConnected}
use Rattle.mv_base.specs.core_walks.Costs.{joins, priced_if, priced, with_cost}
use Rattle.mv_base.proofs.core_walks.WalkLemmas.{step_reaches, reaches_itself}

-- ---- one link

same_a : (test : Bool) (cost : ℕ) (link : Link) → (priced_if test cost link).a ≡ link.a
same_a true cost link = refl
same_a false cost link = refl

same_b : (test : Bool) (cost : ℕ) (link : Link) → (priced_if test cost link).b ≡ link.b
same_b true cost link = refl
same_b false cost link = refl

ends_kept : (nodes : ℕ) (test : Bool) (cost : ℕ) (link : Link) → HasEnds nodes link → HasEnds nodes (priced_if test cost link)
ends_kept nodes true cost link h = record { a = h.a; b = h.b; two = h.two }
ends_kept nodes false cost link h = h

cost_kept : (test : Bool) (cost : ℕ) (link : Link) → 1 ≤ cost → cost ≤ 65535 → HasCost link → HasCost (priced_if test cost link)
cost_kept true cost link least most h = (least, most)
cost_kept false cost link least most h = h

pair_kept : (test other_test : Bool) (cost : ℕ) (own other : Link) → JoinsSamePair (priced_if test cost own) (priced_if other_test cost other)
    → JoinsSamePair own other
pair_kept true true cost own other h = h
pair_kept true false cost own other h = h
pair_kept false true cost own other h = h
pair_kept false false cost own other h = h

-- ---- all links

module _ (a b : NodeId) (cost : ℕ) where
  size : (links : List Link) → length (with_cost a b cost links) ≡ length links
  size links = length-map links (priced a b cost)

  at_place : (links : List Link) (k : ℕ) (d : Link) → k < length links → get_or (with_cost a b cost links) k d ≡ priced a b cost (get_or links k d)
  at_place links k d within = get_or-map (priced a b cost) links k d d within

  pair_at : (links : List Link) (own other new next : Link) → new ≡ priced a b cost own → next ≡ priced a b cost other → JoinsSamePair new next
      → JoinsSamePair own other
  pair_at links own other new next e f same =
      pair_kept (joins a b own) (joins a b other) cost own other
      (subst (λ (x : Link). JoinsSamePair x (priced a b cost other)) e (subst (λ (y : Link). JoinsSamePair new y) f same))

  pub priced_topology : (nodes : ℕ) (links : List Link) → 1 ≤ cost → cost ≤ 65535 → IsTopology nodes links
      → IsTopology nodes (with_cost a b cost links)
  priced_topology nodes links least most h = record {
    few_nodes = h.few_nodes;
    few_links = let s = size links in let f = h.few_links in omega arith;
    ends = λ k d within. subst (HasEnds nodes) (sym (at_place links k d (inside k within))) (ends_kept nodes _ cost _ (h.ends k d (inside k within)));
    costs = λ k d within. subst HasCost (sym (at_place links k d (inside k within))) (cost_kept _ cost _ least most (h.costs k d (inside k within)));
    once = λ i j d before within same. h.once i j d before (inside j within)
        (pair_at links (get_or links i d) (get_or links j d) _ _ (at_place links i d (let w = inside j within in omega arith))
        (at_place links j d (inside j within)) same);
  }
    where
      inside : (k : ℕ) → k < length (with_cost a b cost links) → k < length links
      inside k within = let s = size links in omega arith

  -- ---- walks

  ends_of : (x y : ℕ) (link : Link) → ((link.a.0 ≡ x) × (link.b.0 ≡ y)) ⊎ ((link.a.0 ≡ y) × (link.b.0 ≡ x))
      → (((priced a b cost link).a.0 ≡ x) × ((priced a b cost link).b.0 ≡ y)) ⊎ (((priced a b cost link).a.0 ≡ y) × ((priced a b cost link).b.0 ≡ x))
  ends_of x y link h =
      subst (λ (m : NodeId). ((m.0 ≡ x) × ((priced a b cost link).b.0 ≡ y)) ⊎ ((m.0 ≡ y) × ((priced a b cost link).b.0 ≡ x)))
      (sym (same_a (joins a b link) cost link))
      (subst (λ (n : NodeId). ((link.a.0 ≡ x) × (n.0 ≡ y)) ⊎ ((link.a.0 ≡ y) × (n.0 ≡ x))) (sym (same_b (joins a b link) cost link)) h)

  linked_kept : (links : List Link) (x y old : ℕ) → IsLinked links x y old → (new : ℕ) × IsLinked (with_cost a b cost links) x y new
  linked_kept links x y old h =
      let place = h.listed in (
        (priced a b cost h.link).cost,
        record {
          link = priced a b cost h.link;
          listed = (
            place.0,
            (let s = size links in let w = place.1 in omega arith),
            get_or-map (priced a b cost) links place.0 h.link (priced a b cost h.link) place.1 ∙ ap (priced a b cost) place.2,
          );
          ends = ends_of x y h.link h.ends;
          priced = refl;
        },
      )

  walk_kept : (links : List Link) (steps : List ℕ) (from to sum : ℕ) → IsWalk links from steps to sum → Reaches (with_cost a b cost links) from to
  walk_kept links [] from to sum walk =
      subst (λ (k : ℕ). Reaches (with_cost a b cost links) from k) walk.0 (reaches_itself (with_cost a b cost links) from)
  walk_kept links (next ∷ steps) from to sum walk =
      let linked = linked_kept links from next walk.0 walk.2 in
      step_reaches (with_cost a b cost links) from next to linked.0 linked.1 (walk_kept links steps next to walk.1 walk.3)

  pub priced_connected : (nodes : ℕ) (links : List Link) → IsConnected nodes links → IsConnected nodes (with_cost a b cost links)
  priced_connected nodes links h node within = let walk = h node within in walk_kept links walk.steps 0 node walk.cost walk.walk
