-- The links of a core at other costs: whether links are these, and that they make a connected core as well.
use Rattle.std.proofs.Common.{◌≡◌, ◌⊎◌, ◌≤◌, ℕ, zero, suc, inl, inr, refl, List, [], ◌∷◌, length, get_or, sym, ap, subst, ◌∙◌, arith}
use Rattle.std.proofs.lemmas.Bool.{cases_eq, cases_lt}
use Rattle.std.proofs.lemmas.List.Elements.{All-from_recursion, recursion_from_All, Contains-get_or}
use Rattle.mv_base.specs.declared.core_link.Link.{Link}
use Rattle.mv_base.specs.declared.ids.NodeId.{NodeId}
use Rattle.mv_base.specs.core_walks.Walks.{IsLinked, IsWalk, Reaches}
use Rattle.mv_base.specs.core_walks.Topology.{HasEnds, HasCost, JoinsSamePair, IsTopology, IsConnected}
use Rattle.mv_base.proofs.core_walks.WalkLemmas.{step_reaches, reaches_itself}
use Rattle.network_defs.specs.Costs.{AreRepriced}
use Rattle.network_defs.proofs.CostLemmas.{repriced_costs, repriced_ends}

-- ---- whether links are the same ones at other costs

-- a fact in other words, and two facts
same_or_not : {P Q : Type 0} → (P → Q) → (Q → P) → P ⊎ (¬ P) → Q ⊎ (¬ Q)
same_or_not f g (inl p) = inl (f p)
same_or_not f g (inr none) = inr (λ q. none (g q))

both_or_not : {P Q : Type 0} → P ⊎ (¬ P) → Q ⊎ (¬ Q) → (P × Q) ⊎ (¬ (P × Q))
both_or_not (inl p) (inl q) = inl (p, q)
both_or_not (inr none) q = inr (λ h. none h.0)
both_or_not (inl p) (inr none) = inr (λ h. none h.1)

at_most_or_not : (a b : ℕ) → (a ≤ b) ⊎ (¬ (a ≤ b))
at_most_or_not a b = elim (cases_lt b a) [ inl lt ↦ inr (λ le. omega (arith, lt, le)) | inr le ↦ inl le ]

end_or_not : (a b : NodeId) → (a ≡ b) ⊎ (¬ (a ≡ b))
end_or_not a b = same_or_not (λ e i. record { 0 = e i }) (λ e. ap (λ (n : NodeId). n.0) e) (cases_eq a.0 b.0)

cost_or_not : (link : Link) → HasCost link ⊎ (¬ (HasCost link))
cost_or_not link = both_or_not (at_most_or_not 1 link.cost) (at_most_or_not link.cost 65535)

pub repriced_or_not : (links others : List Link) → AreRepriced links others ⊎ (¬ (AreRepriced links others))
repriced_or_not [] [] = inl tt
repriced_or_not [] (other ∷ others) = inr (λ h. h)
repriced_or_not (link ∷ more) [] = inr (λ h. h)
repriced_or_not (link ∷ more) (other ∷ others) =
    same_or_not (λ h. (h.0, h.1.0, h.1.1.0, h.1.1.1)) (λ h. (h.0, (h.1, (h.2, h.3))))
    (both_or_not (end_or_not other.a link.a) (both_or_not (end_or_not other.b link.b)
    (both_or_not (cost_or_not other) (repriced_or_not more others))))

-- ---- place by place

-- the other link joins the same nodes
record HasSameEnds (link other : Link) : Type 0 where
  a : other.a.0 ≡ link.a.0
  b : other.b.0 ≡ link.b.0

length_repriced : (links others : List Link) → AreRepriced links others → length others ≡ length links
length_repriced [] [] h = refl
length_repriced [] (other ∷ others) h = absurd h
length_repriced (link ∷ more) [] h = absurd h
length_repriced (link ∷ more) (other ∷ others) h = ap suc (length_repriced more others h.3)

ends_at : (links others : List Link) → AreRepriced links others → (k : ℕ) (d : Link) → HasSameEnds (get_or links k d) (get_or others k d)
ends_at [] [] h k d = record { a = refl; b = refl }
ends_at [] (other ∷ others) h k d = absurd h
ends_at (link ∷ more) [] h k d = absurd h
ends_at (link ∷ more) (other ∷ others) h zero d = record { a = ap (λ (n : NodeId). n.0) h.0; b = ap (λ (n : NodeId). n.0) h.1 }
ends_at (link ∷ more) (other ∷ others) h (suc k) d = ends_at more others h.3 k d

pair_kept : (own other own_now other_now : Link) → HasSameEnds own own_now → HasSameEnds other other_now → JoinsSamePair own_now other_now
    → JoinsSamePair own other
pair_kept own other own_now other_now e f (inl h) = inl (sym e.a ∙ h.0 ∙ f.a, sym e.b ∙ h.1 ∙ f.b)
pair_kept own other own_now other_now e f (inr h) = inr (sym e.a ∙ h.0 ∙ f.b, sym e.b ∙ h.1 ∙ f.a)

module _ (links others : List Link) (h : AreRepriced links others) where
  pub repriced_topology : (nodes : ℕ) → IsTopology nodes links → IsTopology nodes others
  repriced_topology nodes t = record {
    few_nodes = t.few_nodes;
    few_links = let few = t.few_links in omega (arith, few, length_repriced links others h);
    ends = All-from_recursion (HasEnds nodes) others (repriced_ends nodes links others (recursion_from_All (HasEnds nodes) links t.ends) h);
    costs = All-from_recursion HasCost others (repriced_costs links others h);
    once = λ i j d before within same. t.once i j d before (omega (arith, within, length_repriced links others h))
        (pair_kept (get_or links i d) (get_or links j d) (get_or others i d) (get_or others j d) (ends_at links others h i d)
        (ends_at links others h j d) same);
  }

  -- ---- a walk stays one, at another cost

  linked_kept : (x y cost : ℕ) → IsLinked links x y cost → (now : ℕ) × IsLinked others x y now
  linked_kept x y cost linked =
      let place = linked.listed in
      let other : Link = get_or others place.0 linked.link in
      let same : HasSameEnds linked.link other =
      subst (λ (link : Link). HasSameEnds link other) place.2 (ends_at links others h place.0 linked.link) in (
        other.cost,
        record {
          link = other;
          listed = Contains-get_or others place.0 linked.link (let within = place.1 in omega (arith, within, length_repriced links others h));
          ends = elim linked.ends [ inl e ↦ inl (same.a ∙ e.0, same.b ∙ e.1) | inr e ↦ inr (same.a ∙ e.0, same.b ∙ e.1) ];
          priced = refl;
        },
      )

  walk_kept : (steps : List ℕ) (from to cost : ℕ) → IsWalk links from steps to cost → Reaches others from to
  walk_kept [] from to cost walk = subst (λ (k : ℕ). Reaches others from k) walk.0 (reaches_itself others from)
  walk_kept (next ∷ thereafter) from to cost walk =
      let linked = linked_kept from next walk.0 walk.2 in
      step_reaches others from next to linked.0 linked.1 (walk_kept thereafter next to walk.1 walk.3)

  pub repriced_connected : (nodes : ℕ) → IsConnected nodes links → IsConnected nodes others
  repriced_connected nodes reach node within = let walk = reach node within in walk_kept walk.steps 0 node walk.cost walk.walk
