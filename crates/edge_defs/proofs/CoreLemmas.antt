-- The links of nodes tell their costs and neighbours.
use Rattle.std.proofs.Common.{◌≡◌, ◌<◌, ℕ, inl, inr, List, Some, sym, ap, subst, ◌∙◌}
use Rattle.std.proofs.lemmas.Bool.{cases_eq, cases_lt}
use Rattle.std.proofs.Math.Nat.{le_antisymm}
use Rattle.mv_base.specs.declared.core_link.Link.{Link}
use Rattle.mv_base.specs.declared.ids.NodeId.{NodeId}
use Rattle.mv_base.specs.core_walks.Walks.{IsLeast, IsToward}
use Rattle.mv_base.specs.core_walks.Core.{Core, IsCoreOf}

one_cost : (links : List Link) (from to cost other : ℕ) → IsLeast links from to cost → IsLeast links from to other → cost ≡ other
one_cost links from to cost other h k = le_antisymm (h.least k.steps other k.walk) (k.least h.steps cost h.walk)

one_step : (links : List Link) (from to next other : ℕ) → IsToward links from to next → IsToward links from to other → next ≡ other
one_step links from to next other h k = le_antisymm (h.lowest other k.first) (k.lowest next h.first)

one_node : (node other : NodeId) → node.0 ≡ other.0 → node ≡ other
one_node node other e = λ i. record { 0 = e i }

one_toward : (count : ℕ) (links : List Link) (core other : Core) (from to : NodeId) → IsCoreOf count links core → IsCoreOf count links other
    → from.0 < count → to.0 < count → core.toward from to ≡ other.toward from to
one_toward count links core other from to h k a b = elim (cases_eq from.0 to.0) [
  | inl e ↦ subst (λ (node : NodeId). core.toward from node ≡ other.toward from node) (one_node from to e) (h.itself from ∙ sym (k.itself from))
  | inr ne ↦ (let own = h.first from to a b (λ e. ne (ap (λ (node : NodeId). node.0) e)) in
      let that = k.first from to a b (λ e. ne (ap (λ (node : NodeId). node.0) e)) in
      own.1 ∙ ap (λ (node : NodeId). Some node) (one_node own.0 that.0 (one_step links from.0 to.0 own.0.0 that.0.0 own.2 that.2)) ∙ sym that.1)
]

-- Two cores of the same links have the same costs and neighbours, between the nodes and elsewhere.
alike : (count : ℕ) (links : List Link) (core other : Core) (from to : NodeId) → IsCoreOf count links core → IsCoreOf count links other
    → (core.cost from to ≡ other.cost from to) × (core.toward from to ≡ other.toward from to)
alike count links core other from to h k = elim (cases_lt from.0 count) [
  | inr a ↦ (let own = h.outside from to (inl a) in let that = k.outside from to (inl a) in (own.0 ∙ sym that.0, own.1 ∙ sym that.1))
  | inl a ↦ elim (cases_lt to.0 count) [
    | inr b ↦ (let own = h.outside from to (inr b) in let that = k.outside from to (inr b) in (own.0 ∙ sym that.0, own.1 ∙ sym that.1))
    | inl b ↦ (
      one_cost links from.0 to.0 (core.cost from to) (other.cost from to) (h.least from to a b) (k.least from to a b),
      one_toward count links core other from to h k a b,
    )
  ]
]

pub one_core : (count : ℕ) (links : List Link) (core other : Core) → IsCoreOf count links core → IsCoreOf count links other → core ≡ other
one_core count links core other h k =
    λ i. record {
      cost = λ from to. (alike count links core other from to h k).0 i;
      toward =
          λ from to. (alike count links core other from to h k).1 i;
    }
