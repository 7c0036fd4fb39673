-- Walks end to end and back.
use Rattle.std.proofs.Common.{◌≡◌, ◌⊎◌, ◌+◌, ◌≤◌, ◌<◌, ℕ, List, [], ◌∷◌, inl, inr, subst, sym, refl, arith}
use Rattle.std.specs.List.{Contains}
use Rattle.std.proofs.lemmas.List.Elements.{All-contains}
use Rattle.mv_base.specs.declared.core_link.Link.{Link}
use Rattle.mv_base.specs.core_walks.Walks.{IsLinked, IsWalk, Reaches}
use Rattle.mv_base.specs.core_walks.Topology.{HasEnds, HasCost, IsTopology}

turned : (a b c d : ℕ) → (p q : ℕ) → ((p ≡ a) × (q ≡ b)) ⊎ ((p ≡ b) × (q ≡ a)) → ((p ≡ b) × (q ≡ a)) ⊎ ((p ≡ a) × (q ≡ b))
turned a b c d p q (inl h) = inr h
turned a b c d p q (inr h) = inl h

pub linked_back : (links : List Link) (a b cost : ℕ) → IsLinked links a b cost → IsLinked links b a cost
linked_back links a b cost h = record { link = h.link; listed = h.listed; ends = turned a b 0 0 _ _ h.ends; priced = h.priced }

-- the walk after the first link
pub further : (links : List Link) (from next to first rest : ℕ) (steps : List ℕ) → IsLinked links from next first → IsWalk links next steps to rest
    → IsWalk links from (next ∷ steps) to (first + rest)
further links from next to first rest steps linked walk = (first, rest, linked, walk, refl)

pub step_reaches : (links : List Link) (from next to first : ℕ) → IsLinked links from next first → Reaches links next to → Reaches links from to
step_reaches links from next to first linked h =
    record { steps = next ∷ h.steps; cost = first + h.cost; walk = further links from next to first h.cost h.steps linked h.walk }

pub reaches_itself : (links : List Link) (node : ℕ) → Reaches links node node
reaches_itself links node = record { steps = []; cost = 0; walk = (refl, refl) }

-- One walk after another.
both : (links : List Link) (steps : List ℕ) (from middle to cost : ℕ) → IsWalk links from steps middle cost → Reaches links middle to
    → Reaches links from to
both links [] from middle to cost walk thereafter = subst (λ (k : ℕ). Reaches links k to) (sym walk.0) thereafter
both links (next ∷ steps) from middle to cost walk thereafter =
    step_reaches links from next to walk.0 walk.2 (both links steps next middle to walk.1 walk.3 thereafter)

pub reaches_through : (links : List Link) (from middle to : ℕ) → Reaches links from middle → Reaches links middle to → Reaches links from to
reaches_through links from middle to h thereafter = both links h.steps from middle to h.cost h.walk thereafter

-- A walk the other way round.
back : (links : List Link) (steps : List ℕ) (from to cost : ℕ) → IsWalk links from steps to cost → Reaches links to from
back links [] from to cost walk = subst (λ (k : ℕ). Reaches links k from) walk.0 (reaches_itself links from)
back links (next ∷ steps) from to cost walk =
    reaches_through links to next from (back links steps next to walk.1 walk.3)
    (step_reaches links next from from walk.0 (linked_back links from next walk.0 walk.2) (reaches_itself links from))

pub reaches_back : (links : List Link) (from to : ℕ) → Reaches links from to → Reaches links to from
reaches_back links from to h = back links h.steps from to h.cost h.walk

-- what the conditions say of a link
pub record IsGood (nodes a b cost : ℕ) : Type 0 where
  pub a_within : a < nodes
  pub b_within : b < nodes
  pub dear : 1 ≤ cost
  pub cheap : cost ≤ 65535

good_by : (nodes a b cost : ℕ) (link : Link) → ((link.a.0 ≡ a) × (link.b.0 ≡ b)) ⊎ ((link.a.0 ≡ b) × (link.b.0 ≡ a)) → link.cost ≡ cost
    → HasEnds nodes link → HasCost link → IsGood nodes a b cost
good_by nodes a b cost link (inl h) p ends price = let x = ends.a in let y = ends.b in
    record { a_within = omega arith; b_within = omega arith; dear = omega arith; cheap = omega arith }
good_by nodes a b cost link (inr h) p ends price = let x = ends.a in let y = ends.b in
    record { a_within = omega arith; b_within = omega arith; dear = omega arith; cheap = omega arith }

pub good : (nodes : ℕ) (links : List Link) (a b cost : ℕ) → IsTopology nodes links → IsLinked links a b cost → IsGood nodes a b cost
good nodes links a b cost h linked =
    good_by nodes a b cost linked.link linked.ends linked.priced (All-contains (HasEnds nodes) links linked.link h.ends linked.listed)
    (All-contains HasCost links linked.link h.costs linked.listed)

pub linked_there : (links : List Link) (link : Link) → Contains links link → IsLinked links link.a.0 link.b.0 link.cost
linked_there links link h = record { link = link; listed = h; ends = inl (refl, refl); priced = refl }

pub linked_here : (links : List Link) (link : Link) → Contains links link → IsLinked links link.b.0 link.a.0 link.cost
linked_here links link h = record { link = link; listed = h; ends = inr (refl, refl); priced = refl }
