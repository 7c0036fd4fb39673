-- The next hop that a core gives, whichever way it is told.
use Rattle.std.proofs.Common.{◌≡◌, ◌<◌, ℕ, ◌↔◌, List, Option, Some, None, IfSome, inl, inr, refl, sym, ap, subst, ◌∙◌, arith}
use Rattle.std.proofs.lemmas.Bool.{cases_eq}
use Rattle.mv_base.specs.declared.ids.NodeId.{NodeId}
use Rattle.mv_base.specs.declared.core_link.Link.{Link}
use Rattle.mv_base.specs.core_walks.Core.{Core, IsCoreOf}
use Rattle.mv_base.specs.core_walks.Walks.{IsToward}

one_toward : (links : List Link) (from to a b : ℕ) → IsToward links from to a → IsToward links from to b → a ≡ b
one_toward links from to a b h k = (let below = h.lowest b k.first in let above = k.lowest a h.first in omega (arith, below, above))

answer : (links : List Link) (from to : NodeId) (o : Option NodeId) (next : NodeId) → IfSome o (λ n. IsToward links from.0 to.0 n.0)
    → (o ≡ None → from.0 ≡ to.0) → (from.0 ≡ to.0 → ⊥) → IsToward links from.0 to.0 next.0 → o ≡ Some next
answer links from to None next h none ne is = absurd (ne (none refl))
answer links from to (Some own) next h none ne is = (let same = one_toward links from.0 to.0 own.0 next.0 h is in λ i. Some (record { 0 = same i }))

pub toward_is : (count : ℕ) (links : List Link) (own : Core) (from to : NodeId) (o : Option NodeId) → IsCoreOf count links own → from.0 < count
    → to.0 < count
    → IfSome o (λ n. IsToward links from.0 to.0 n.0) → (o ≡ None) ↔ (from.0 ≡ to.0) → o ≡ own.toward from to
toward_is count links own from to o is near far h none = elim (cases_eq from.0 to.0) [
  | inl e ↦ none.1 e ∙ sym (ap (λ (n : NodeId). own.toward from n) (λ i. record { 0 = sym e i }) ∙ is.itself from)
  | inr ne ↦
      let first = is.first from to near far (λ e. ne (ap (λ (n : NodeId). n.0) e)) in
      answer links from to o first.0 h none.0 ne first.2 ∙ sym first.1
]

pub within_some : (o : Option NodeId) (node : NodeId) (count : ℕ) → o ≡ Some node → IfSome o (λ n. n.0 < count) → node.0 < count
within_some o node count e h = subst (λ (x : Option NodeId). IfSome x (λ n. n.0 < count)) e h
