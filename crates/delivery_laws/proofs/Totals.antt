-- Sums over the copies on the links.
use Rattle.std.proofs.Common.{◌≡◌, ℕ, ◌+◌, Bool, true, false, cond, ◌++◌, List, [], ◌∷◌, refl, ap, inl, inr, ◌∙◌, arith}
use Rattle.std.specs.Prelude.{◌==◌, ◌&&◌, sum_by, count_by}
use Rattle.std.specs.List.{AllByRecursion}
use Rattle.std.proofs.lemmas.Bool.{cases_Bool, and_parts}
use Rattle.std.proofs.lemmas.List.Sums.{sum_by-cons, sum_by-append}
use Rattle.mv_base.specs.declared.ids.NodeId.{NodeId}
use Rattle.network_defs.specs.World.{LinkCopy}
use Rattle.delivery_laws.specs.Flood.{total, is_way}
use Rattle.label_defs.proofs.KeyLemmas.{node_equal}
use Rattle.label_defs.proofs.MemberLemmas.{count-cons}

-- ---- counts and sums

pub count-append : {X : Type 0} (test : X → Bool) (xs ys : List X) → count_by test (xs ++ ys) ≡ count_by test xs + count_by test ys
count-append test xs ys = sum_by-append (λ y. cond (test y) 1 0) xs ys

-- sums of terms that are equal at each element
pub sum-alike : {X : Type 0} (f g : X → ℕ) (xs : List X) → AllByRecursion (λ x. f x ≡ g x) xs → sum_by f xs ≡ sum_by g xs
sum-alike f g [] h = refl
sum-alike f g (x ∷ xs) h = let rest = sum-alike f g xs h.1 in let one = h.0 in omega (arith, sum_by-cons f x xs, sum_by-cons g x xs)

pub sum-none : {X : Type 0} (f : X → ℕ) (xs : List X) → AllByRecursion (λ x. f x ≡ 0) xs → sum_by f xs ≡ 0
sum-none f [] h = refl
sum-none f (x ∷ xs) h = let rest = sum-none f xs h.1 in let one = h.0 in omega (arith, sum_by-cons f x xs)

-- ---- one direction

abbrev pub replaced : NodeId → NodeId → List LinkCopy → (NodeId → NodeId → List LinkCopy) → NodeId → NodeId → List LinkCopy
replaced from to new copies = λ u n. cond ((u.0 == from.0) && (n.0 == to.0)) new (copies u n)

module _ (weight : NodeId → NodeId → LinkCopy → ℕ) (from to : NodeId) (new : List LinkCopy) (copies : NodeId → NodeId → List LinkCopy) where
  -- the sum on one direction
  abbrev on : (NodeId → NodeId → List LinkCopy) → NodeId × NodeId → ℕ
  on c way = sum_by (weight way.0 way.1) (c way.0 way.1)

  other : (way : NodeId × NodeId) → is_way from to way ≡ false → on (replaced from to new copies) way ≡ on copies way
  other way e = ap (λ b. sum_by (weight way.0 way.1) (cond b new (copies way.0 way.1))) e

  own : (way : NodeId × NodeId) → is_way from to way ≡ true
      → (on (replaced from to new copies) way ≡ sum_by (weight from to) new) × (on copies way ≡ sum_by (weight from to) (copies from to))
  own way e =
      let parts = and_parts (way.0.0 == from.0) (way.1.0 == to.0) e in
      let near : way.0 ≡ from = node_equal way.0 from parts.0 in
      let far : way.1 ≡ to = node_equal way.1 to parts.1 in (
        ap (λ b. sum_by (weight way.0 way.1) (cond b new (copies way.0 way.1))) e ∙ (λ i. sum_by (weight (near i) (far i)) new),
        λ i. sum_by (weight (near i) (far i)) (copies (near i) (far i)),
      )

  none : (ways : List (NodeId × NodeId)) → count_by (is_way from to) ways ≡ 0
      → total weight ways (replaced from to new copies) ≡ total weight ways copies
  none [] h = refl
  none (way ∷ more) h = elim (cases_Bool (is_way from to way)) [
    | inl t ↦ (let one : cond {A = ℕ} (is_way from to way) 1 0 ≡ 1 = ap (λ b. cond b 1 0) t in
        absurd (omega (arith, count-cons (is_way from to) way more, one, h)))
    | inr f ↦
        let zero_here : cond {A = ℕ} (is_way from to way) 1 0 ≡ 0 = ap (λ b. cond b 1 0) f in
        let rest = none more (omega (arith, count-cons (is_way from to) way more, zero_here, h)) in
        omega (arith, sum_by-cons (on (replaced from to new copies)) way more, sum_by-cons (on copies) way more, other way f, rest)
  ]

  -- Other copies on one direction, which stands once in the list.
  pub total-replaced : (ways : List (NodeId × NodeId)) → count_by (is_way from to) ways ≡ 1 →
      total weight ways (replaced from to new copies) + sum_by (weight from to) (copies from to)
      ≡ total weight ways copies + sum_by (weight from to) new
  total-replaced [] h = absurd (omega (arith, h))
  total-replaced (way ∷ more) h = elim (cases_Bool (is_way from to way)) [
    | inl t ↦
        let one : cond {A = ℕ} (is_way from to way) 1 0 ≡ 1 = ap (λ b. cond b 1 0) t in
        let rest = none more (omega (arith, count-cons (is_way from to) way more, one, h)) in
        let here = own way t in
        omega (arith, sum_by-cons (on (replaced from to new copies)) way more, sum_by-cons (on copies) way more, here.0, here.1, rest)
    | inr f ↦
        let zero_here : cond {A = ℕ} (is_way from to way) 1 0 ≡ 0 = ap (λ b. cond b 1 0) f in
        let rest = total-replaced more (omega (arith, count-cons (is_way from to) way more, zero_here, h)) in
        omega (arith, sum_by-cons (on (replaced from to new copies)) way more, sum_by-cons (on copies) way more, other way f, rest)
  ]
