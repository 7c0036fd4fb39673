-- The order of ways, and when two are one.
use Rattle.std.proofs.Common.{◌≡◌, ℕ, ◌==◌, true, List, [], ◌∷◌, inl, inr, refl, sym, subst, ◌∙◌}
use Rattle.std.specs.FinMap.{IsAntisymmetric, nat_cmp-IsAntisymmetric, slice_cmp-IsAntisymmetric}
use Rattle.std.specs.Cmp.{IsTotalOrder}
use Rattle.std.specs.Cmp.Lexicographic.{nat_list_cmp_total}
use Rattle.std.specs.Ordering.{eq_by_cmp}
use Rattle.std.proofs.lemmas.Bool.{cases_Bool, and_parts, and_from, true≢false}
use Rattle.std.proofs.lemmas.Cmp.{on_total}
use Rattle.mv_base.specs.declared.ids.NodeId.{NodeId}
use Rattle.label_defs.proofs.KeyLemmas.{node_equal, node_itself, ties, apart}
use Rattle.data_plane.specs.link_copies.CopiesData.{way_cmp}
use Rattle.data_plane.specs.link_copies.Kept.{is_way}

abbrev numbers : NodeId × NodeId → List ℕ
numbers way = way.0.0 ∷ way.1.0 ∷ []

pub way_cmp_total : IsTotalOrder way_cmp
way_cmp_total = on_total numbers nat_list_cmp_total

one_way : (a b : NodeId × NodeId) → numbers a ≡ numbers b → a ≡ b
one_way a b e =
    let from : a.0.0 ≡ b.0.0 = cc in
    let to : a.1.0 ≡ b.1.0 = cc in
    λ i. (record { 0 = from i }, record { 0 = to i })

pub way_cmp_exact : IsAntisymmetric way_cmp
way_cmp_exact a b h = one_way a b (slice_cmp-IsAntisymmetric nat_cmp-IsAntisymmetric (numbers a) (numbers b) h)

pub way_itself : (a : NodeId × NodeId) → is_way a a ≡ true
way_itself a = and_from _ _ (node_itself a.0 a.0 refl) (node_itself a.1 a.1 refl)

pub way_equal : (a b : NodeId × NodeId) → is_way a b ≡ true → a ≡ b
way_equal a b h =
    let parts = and_parts (a.0.0 == b.0.0) (a.1.0 == b.1.0) h in
    let from = node_equal a.0 b.0 parts.0 in
    let to = node_equal a.1 b.1 parts.1 in
    λ i. (from i, to i)

pub turned : (a b : NodeId × NodeId) → is_way a b ≡ is_way b a
turned a b = elim (cases_Bool (is_way a b)) [
  | inl t ↦ t ∙ sym (subst (λ (x : NodeId × NodeId). is_way x a ≡ true) (way_equal a b t) (way_itself a))
  | inr f ↦ elim (cases_Bool (is_way b a)) [
    | inl t ↦ absurd (true≢false (sym (subst (λ (x : NodeId × NodeId). is_way x b ≡ true) (way_equal b a t) (way_itself b)) ∙ f))
    | inr g ↦ f ∙ sym g
  ]
]

-- how the order tells two ways apart
pub tied : (a b : NodeId × NodeId) → eq_by_cmp way_cmp a b ≡ is_way a b
tied a b = elim (cases_Bool (is_way a b)) [
  | inl t ↦ ties way_cmp way_cmp_total a b (way_equal a b t) ∙ sym t
  | inr f ↦ apart way_cmp way_cmp_exact a b (λ e. true≢false (sym (subst (λ (x : NodeId × NodeId). is_way a x ≡ true) e (way_itself a)) ∙ f)) ∙ sym f
]
