-- The links at other costs.
use Rattle.std.proofs.Common.{◌≡◌, ◌⊎◌, ◌≤◌, ◌<◌, ℕ, Bool, true, false, inl, inr, refl, List, [], ◌∷◌, length, sym, ap, subst, ◌∙◌, arith}
use Rattle.std.specs.List.{AllByRecursion}
use Rattle.std.proofs.lemmas.Bool.{cases_eq, cases_lt}
use Rattle.mv_base.specs.declared.core_link.Link.{Link}
use Rattle.mv_base.specs.declared.ids.NodeId.{NodeId}
use Rattle.mv_base.specs.core_walks.Costs.{joins, priced_if, with_cost}
use Rattle.mv_base.specs.core_walks.Topology.{HasCost, HasEnds}
use Rattle.scenario_defs.specs.declared.scenario.Scenario.{Scenario}
use Rattle.edge_defs.proofs.CoreLemmas.{one_core}
use Rattle.network_defs.specs.Costs.{AreRepriced, Cores, AreCoresOf}

-- ---- whether links are the same ones at other costs

one_end : (a b : NodeId) → (a ≡ b) ⊎ (¬ (a ≡ b))
one_end a b = elim (cases_eq a.0 b.0) [
  | inl e ↦ inl (λ i. record { 0 = e i })
  | inr ne ↦ inr (λ e. ne (ap (λ (n : NodeId). n.0) e))
]

has_cost : (link : Link) → HasCost link ⊎ (¬ (HasCost link))
has_cost link = elim (cases_lt link.cost 1) [
  | inl lt ↦ inr (λ h. omega (arith, lt, h.0))
  | inr ge ↦ elim (cases_lt 65535 link.cost) [
    | inl lt ↦ inr (λ h. omega (arith, lt, h.1))
    | inr le ↦ inl (omega (arith, ge), omega (arith, le))
  ]
]

repriced_or_not : (links others : List Link) → AreRepriced links others ⊎ (¬ (AreRepriced links others))
repriced_or_not [] [] = inl tt
repriced_or_not [] (other ∷ others) = inr (λ h. h)
repriced_or_not (link ∷ more) [] = inr (λ h. h)
repriced_or_not (link ∷ more) (other ∷ others) = elim (one_end other.a link.a) [
  | inr ne ↦ inr (λ h. ne h.0)
  | inl a ↦ elim (one_end other.b link.b) [
    | inr ne ↦ inr (λ h. ne h.1)
    | inl b ↦ elim (has_cost other) [
      | inr ne ↦ inr (λ h. ne h.2)
      | inl cost ↦ elim (repriced_or_not more others) [ inr ne ↦ inr (λ h. ne h.3) | inl rest ↦ inl (a, b, cost, rest) ]
    ]
  ]
]

-- ---- the same links

pub repriced_itself : (links : List Link) → AllByRecursion HasCost links → AreRepriced links links
repriced_itself [] h = tt
repriced_itself (link ∷ more) h = (refl, refl, h.0, repriced_itself more h.1)

-- one of them gets another cost
pub repriced_more : (links others : List Link) (a b : NodeId) (cost : ℕ) → AreRepriced links others → (1 ≤ cost) × (cost ≤ 65535)
    → AreRepriced links (with_cost a b cost others)
repriced_more [] [] a b cost h is = tt
repriced_more [] (other ∷ others) a b cost h is = absurd h
repriced_more (link ∷ more) [] a b cost h is = absurd h
repriced_more (link ∷ more) (other ∷ others) a b cost h is = by (joins a b other) (repriced_more more others a b cost h.3 is)
  where
    by : (t : Bool) → AreRepriced more (with_cost a b cost others) → AreRepriced (link ∷ more) (priced_if t cost other ∷ with_cost a b cost others)
    by true rest = (h.0, h.1, is, rest)
    by false rest = (h.0, h.1, h.2, rest)

-- they have costs, and the same ends
pub repriced_costs : (links others : List Link) → AreRepriced links others → AllByRecursion HasCost others
repriced_costs [] [] h = tt
repriced_costs [] (other ∷ others) h = absurd h
repriced_costs (link ∷ more) [] h = absurd h
repriced_costs (link ∷ more) (other ∷ others) h = (h.2, repriced_costs more others h.3)

pub repriced_ends : (nodes : ℕ) (links others : List Link) → AllByRecursion (HasEnds nodes) links → AreRepriced links others
    → AllByRecursion (HasEnds nodes) others
repriced_ends nodes [] [] ends h = tt
repriced_ends nodes [] (other ∷ others) ends h = absurd h
repriced_ends nodes (link ∷ more) [] ends h = absurd h
repriced_ends nodes (link ∷ more) (other ∷ others) ends h = (
  record {
    a = subst (λ (n : NodeId). n.0 < nodes) (sym h.0) ends.0.a;
    b = subst (λ (n : NodeId). n.0 < nodes) (sym h.1) ends.0.b;
    two = λ e. ends.0.two (ap (λ (n : NodeId). n.0) (sym h.0) ∙ e ∙ ap (λ (n : NodeId). n.0) h.1);
  },
  repriced_ends nodes more others ends.1 h.3,
)

-- ---- the cores of a scenario are one

pub same_cores : (scenario : Scenario) (cores other : Cores) → AreCoresOf scenario cores → AreCoresOf scenario other → cores ≡ other
same_cores scenario cores other h k = λ i links. by links (repriced_or_not scenario.links links) i
  where
    by : (links : List Link) → AreRepriced scenario.links links ⊎ (¬ (AreRepriced scenario.links links)) → cores links ≡ other links
    by links (inl is) = one_core (length scenario.nodes) links (cores links) (other links) (h.core links is) (k.core links is)
    by links (inr is_none) = h.other links is_none ∙ sym (k.other links is_none)
