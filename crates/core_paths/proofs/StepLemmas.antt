-- Rows of first steps.
use Rattle.std.proofs.Common.{◌≡◌, ◌≢◌, ◌⊎◌, ◌+◌, ◌≤◌, ◌<◌, ◌&&◌, ℕ, Bool, true, false, cond, eqb, ltb, List, [], ◌∷◌, length, ◌++◌, get_or, set, take, drop, replicate, inl, inr, subst, sym, refl, ap, ◌∙◌, arith}
use Rattle.std.specs.List.{All, Contains}
use Rattle.std.proofs.lemmas.List.{get_or-set_same, get_or-set_other, length-set, length-replicate, get_or-replicate}
use Rattle.std.proofs.lemmas.List.Elements.{All-nil, All-cons, All-contains, All-contains_itself, All-head, All-tail}
use Rattle.std.proofs.lemmas.Bool.{cases_eq}
use Rattle.std.proofs.lemmas.Bool.Decides.{nat_tests}
use Rattle.mv_base.specs.declared.core_link.Link.{Link}
use Rattle.mv_base.specs.core_walks.Walks.{IsLinked, IsWalk, IsLeast, IsFirstStep, IsToward}
use Rattle.mv_base.specs.core_walks.Topology.{IsTopology}
use Rattle.core_paths.specs.Rows.{far, noted, noted_link, noted_all, IsCostRow, IsStepRow}
use Rattle.mv_base.proofs.core_walks.WalkLemmas.{good, further, linked_there, linked_here}
use Rattle.core_paths.proofs.RowLemmas.{whole}

-- the entry for which no first step is known
abbrev nobody : ℕ
nobody = 65535

-- a link to `via` is the first of a walk of least cost from `from`
record IsStep (links : List Link) (row : List ℕ) (from via : ℕ) : Type 0 where
  first : ℕ
  linked : IsLinked links from via first
  exact : get_or row via 0 + first ≡ get_or row from 0

-- each entry is a step, or none is known; so many entries
record IsSoundStep (links : List Link) (nodes : ℕ) (row nexts : List ℕ) : Type 0 where
  size : length nexts ≡ nodes
  steps : (k : ℕ) → k < nodes → (get_or nexts k 0 ≡ nobody) ⊎ IsStep links row k (get_or nexts k 0)

-- no entry is higher, and the length is the same
record IsBelow (nexts other : List ℕ) : Type 0 where
  size : length other ≡ length nexts
  below : (k : ℕ) → get_or other k 0 ≤ get_or nexts k 0

set_sound : (links : List Link) (nodes : ℕ) (row nexts : List ℕ) (from via : ℕ) → IsSoundStep links nodes row nexts → from < nodes
    → IsStep links row from via → IsSoundStep links nodes row (set nexts from via)
set_sound links nodes row nexts from via h within step = record { size = length-set nexts from via ∙ h.size; steps = steps }
  where
    steps : (k : ℕ) → k < nodes → (get_or (set nexts from via) k 0 ≡ nobody) ⊎ IsStep links row k (get_or (set nexts from via) k 0)
    steps k l = elim (cases_eq k from) [
      | inl e ↦ inr (subst (λ (j : ℕ). IsStep links row j (get_or (set nexts from via) j 0)) (sym e)
          (subst (λ (x : ℕ). IsStep links row from x) (sym (get_or-set_same nexts from via 0 (let s = h.size in omega arith))) step))
      | inr n ↦ subst (λ (x : ℕ). (x ≡ nobody) ⊎ IsStep links row k x) (sym (get_or-set_other nexts from k via 0 n)) (h.steps k l)
    ]

set_below : (nexts : List ℕ) (from via : ℕ) → from < length nexts → via < get_or nexts from 0 → IsBelow nexts (set nexts from via)
set_below nexts from via within less = record { size = length-set nexts from via; below = below }
  where
    below : (k : ℕ) → get_or (set nexts from via) k 0 ≤ get_or nexts k 0
    below k = elim (cases_eq k from) [
      | inl e ↦ subst (λ (j : ℕ). get_or (set nexts from via) j 0 ≤ get_or nexts j 0) (sym e) (omega (arith, get_or-set_same nexts from via 0 within))
      | inr n ↦ omega (arith, get_or-set_other nexts from k via 0 n)
    ]

-- what one look at a link leaves
record IsNoted (links : List Link) (nodes : ℕ) (row nexts other : List ℕ) (from via cost : ℕ) : Type 0 where
  sound : IsSoundStep links nodes row other
  below : IsBelow nexts other
  done : get_or row via 0 + cost ≡ get_or row from 0 → get_or other from 0 ≤ via

noted_by : (links : List Link) (nodes : ℕ) (row nexts : List ℕ) (from via cost : ℕ) (b d : Bool)
    → eqb (get_or row via 0 + cost) (get_or row from 0) ≡ b → ltb via (get_or nexts from 0) ≡ d →
    IsSoundStep links nodes row nexts → IsLinked links from via cost → from < nodes
    → IsNoted links nodes row nexts (cond (b && d) (set nexts from via) nexts) from via cost
noted_by links nodes row nexts from via cost false d e f h linked within =
    record { sound = h; below = record { size = refl; below = λ k. omega arith }; done = λ same. absurd (differs _ _ e same) }
  where
    differs : (x y : ℕ) → eqb x y ≡ false → x ≡ y → ⊥
    differs x y q p = grind (arith, nat_tests)
noted_by links nodes row nexts from via cost true false e f h linked within =
    record { sound = h; below = record { size = refl; below = λ k. omega arith }; done = λ same. at_most _ _ f }
  where
    at_most : (x y : ℕ) → ltb x y ≡ false → y ≤ x
    at_most x y q = grind (arith, nat_tests)
noted_by links nodes row nexts from via cost true true e f h linked within =
    let less : via < get_or nexts from 0 = grind (arith, nat_tests) in
    let exact : get_or row via 0 + cost ≡ get_or row from 0 = grind (arith, nat_tests) in
    let inside : from < length nexts = (let s = h.size in omega arith) in
    record {
      sound = set_sound links nodes row nexts from via h within (record { first = cost; linked = linked; exact = exact });
      below = set_below nexts from via inside less;
      done = λ same. omega (arith, get_or-set_same nexts from via 0 inside);
    }

noted_one : (links : List Link) (nodes : ℕ) (row nexts : List ℕ) (from via cost : ℕ) → IsTopology nodes links → IsSoundStep links nodes row nexts
    → IsLinked links from via cost → IsNoted links nodes row nexts (noted row nexts from via cost) from via cost
noted_one links nodes row nexts from via cost t h linked =
    noted_by links nodes row nexts from via cost _ _ refl refl h linked (good nodes links from via cost t linked).a_within

below_through : (nexts other third : List ℕ) → IsBelow nexts other → IsBelow other third → IsBelow nexts third
below_through nexts other third h k = record { size = k.size ∙ h.size; below = λ j. omega (arith, h.below j, k.below j) }

-- both directions of the link are looked at
record IsDone (row nexts : List ℕ) (link : Link) : Type 0 where
  there : get_or row link.b.0 0 + link.cost ≡ get_or row link.a.0 0 → get_or nexts link.a.0 0 ≤ link.b.0
  here : get_or row link.a.0 0 + link.cost ≡ get_or row link.b.0 0 → get_or nexts link.b.0 0 ≤ link.a.0

done_below : (row nexts other : List ℕ) (link : Link) → IsBelow nexts other → IsDone row nexts link → IsDone row other link
done_below row nexts other link h d = record {
  there = λ e. omega (arith, d.there e, h.below link.a.0);
  here = λ e. omega (arith, d.here e, h.below link.b.0);
}

record IsLinkNoted (links : List Link) (nodes : ℕ) (row nexts other : List ℕ) (link : Link) : Type 0 where
  sound : IsSoundStep links nodes row other
  below : IsBelow nexts other
  done : IsDone row other link

link_noted : (links : List Link) (nodes : ℕ) (row nexts : List ℕ) (link : Link) → IsTopology nodes links → Contains links link
    → IsSoundStep links nodes row nexts → IsLinkNoted links nodes row nexts (noted_link row nexts link) link
link_noted links nodes row nexts link t c h =
    let first = noted_one links nodes row nexts link.a.0 link.b.0 link.cost t h (linked_there links link c) in
    let second =
    noted_one links nodes row (noted row nexts link.a.0 link.b.0 link.cost) link.b.0 link.a.0 link.cost t first.sound (linked_here links link c)
    in
    record {
      sound = second.sound;
      below = below_through nexts (noted row nexts link.a.0 link.b.0 link.cost) (noted_link row nexts link) first.below second.below;
      done = record { there = λ e. omega (arith, first.done e, second.below.below link.a.0); here = second.done };
    }

record IsAllNoted (links : List Link) (nodes : ℕ) (row nexts other : List ℕ) (some : List Link) : Type 0 where
  sound : IsSoundStep links nodes row other
  below : IsBelow nexts other
  done : All (IsDone row other) some

all_noted : (links : List Link) (nodes : ℕ) (row : List ℕ) (some : List Link) (nexts : List ℕ) → IsTopology nodes links → All (Contains links) some
    → IsSoundStep links nodes row nexts → IsAllNoted links nodes row nexts (noted_all row nexts some) some
all_noted links nodes row [] nexts t c h =
    record { sound = h; below = record { size = refl; below = λ k. omega arith }; done = All-nil (IsDone row nexts) }
all_noted links nodes row (link ∷ more) nexts t c h =
    let first = link_noted links nodes row nexts link t (All-head (Contains links) link more c) h in
    let rest = all_noted links nodes row more (noted_link row nexts link) t (All-tail (Contains links) link more c) first.sound in
    record {
      sound = rest.sound;
      below = below_through nexts (noted_link row nexts link) (noted_all row (noted_link row nexts link) more) first.below rest.below;
      done = All-cons (IsDone row (noted_all row (noted_link row nexts link) more)) link more
          (done_below row (noted_link row nexts link) (noted_all row (noted_link row nexts link) more) link rest.below first.done) rest.done;
    }

-- the first row, in which no first step is known
start_sound : (links : List Link) (nodes : ℕ) (row : List ℕ) → IsSoundStep links nodes row (replicate nodes nobody)
start_sound links nodes row = record { size = length-replicate nodes nobody; steps = λ k l. inl (get_or-replicate nodes k nobody 0 l) }

-- ---- the steps of walks of least cost

-- The first step of a walk of least cost is a step.
step_of : (links : List Link) (nodes root : ℕ) (row : List ℕ) (from next : ℕ) → IsTopology nodes links → IsCostRow links nodes root row
    → ((k : ℕ) → k < nodes → get_or row k 0 < far) → from < nodes → IsFirstStep links from root next → IsStep links row from next
step_of links nodes root row from next t h near within step =
    let w = step.walk in
    let g = good nodes links from next w.0 t w.2 in
    let own = h.least from within (near from within) in
    let others = h.least next g.b_within (near next g.b_within) in
    let rest : get_or row next 0 ≤ w.1 = others.least step.thereafter w.1 w.3 in
    let way : get_or row from 0 ≤ w.0 + get_or row next 0 =
    own.least (next ∷ others.steps) (w.0 + get_or row next 0) (further links from next root w.0 (get_or row next 0) others.steps w.2 others.walk)
    in
    let exact : step.cost ≡ w.0 + w.1 = w.4 in
    let least : step.cost ≤ get_or row from 0 = step.least.least own.steps (get_or row from 0) own.walk in
    record { first = w.0; linked = w.2; exact = omega arith }

-- A step is the first of a walk of least cost.
first_of_step : (links : List Link) (nodes root : ℕ) (row : List ℕ) (from next : ℕ) → IsTopology nodes links → IsCostRow links nodes root row
    → ((k : ℕ) → k < nodes → get_or row k 0 < far) → from < nodes → IsStep links row from next → IsFirstStep links from root next
first_of_step links nodes root row from next t h near within step =
    let g = good nodes links from next step.first t step.linked in
    let own = h.least from within (near from within) in
    let others = h.least next g.b_within (near next g.b_within) in
    let e : step.first + get_or row next 0 ≡ get_or row from 0 = (let x = step.exact in omega arith) in
    record {
      thereafter = others.steps;
      cost = get_or row from 0;
      walk = subst (λ (x : ℕ). IsWalk links from (next ∷ others.steps) root x) e
          (further links from next root step.first (get_or row next 0) others.steps step.linked others.walk);
      least = own;
    }

-- a walk from a node to another one has a first step
some_first : (links : List Link) (from root cost : ℕ) (steps : List ℕ) → from ≢ root → IsWalk links from steps root cost
    → IsLeast links from root cost → (next : ℕ) × IsFirstStep links from root next
some_first links from root cost [] n walk least = absurd (n walk.0)
some_first links from root cost (next ∷ thereafter) n walk least = (next, record { thereafter = thereafter; cost = cost; walk = walk; least = least })

-- the entry is at most each step from its node
lowest_at : (links : List Link) (row nexts : List ℕ) (from next : ℕ) → All (IsDone row nexts) links → IsStep links row from next
    → get_or nexts from 0 ≤ next
lowest_at links row nexts from next done step =
    by_ends step.linked.link.a.0 step.linked.link.b.0 step.linked.link.cost here.there here.here step.linked.priced step.linked.ends
  where
    here : IsDone row nexts step.linked.link
    here = All-contains (IsDone row nexts) links step.linked.link done step.linked.listed

    by_ends : (a b cost : ℕ) → (get_or row b 0 + cost ≡ get_or row a 0 → get_or nexts a 0 ≤ b)
        → (get_or row a 0 + cost ≡ get_or row b 0 → get_or nexts b 0 ≤ a) → cost ≡ step.first →
        ((a ≡ from) × (b ≡ next)) ⊎ ((a ≡ next) × (b ≡ from)) → get_or nexts from 0 ≤ next
    by_ends a b cost there back p (inl e) =
        subst (λ (x : ℕ). get_or nexts x 0 ≤ next) e.0 (subst (λ (y : ℕ). get_or nexts a 0 ≤ y) e.1 (there (exact a b e.0 e.1)))
      where
        exact : (x y : ℕ) → x ≡ from → y ≡ next → get_or row y 0 + cost ≡ get_or row x 0
        exact x y d f =
            subst (λ (u : ℕ). get_or row y 0 + cost ≡ get_or row u 0) (sym d)
            (subst (λ (v : ℕ). get_or row v 0 + cost ≡ get_or row from 0) (sym f)
            (subst (λ (z : ℕ). get_or row next 0 + z ≡ get_or row from 0) (sym p) step.exact))
    by_ends a b cost there back p (inr e) =
        subst (λ (x : ℕ). get_or nexts x 0 ≤ next) e.1 (subst (λ (y : ℕ). get_or nexts b 0 ≤ y) e.0 (back (exact b a e.1 e.0)))
      where
        exact : (x y : ℕ) → x ≡ from → y ≡ next → get_or row y 0 + cost ≡ get_or row x 0
        exact x y d f =
            subst (λ (u : ℕ). get_or row y 0 + cost ≡ get_or row u 0) (sym d)
            (subst (λ (v : ℕ). get_or row v 0 + cost ≡ get_or row from 0) (sym f)
            (subst (λ (z : ℕ). get_or row next 0 + z ≡ get_or row from 0) (sym p) step.exact))

toward_at : (links : List Link) (nodes root : ℕ) (row nexts : List ℕ) → IsTopology nodes links → IsCostRow links nodes root row
    → ((k : ℕ) → k < nodes → get_or row k 0 < far) →
    IsSoundStep links nodes row nexts → All (IsDone row nexts) links → (from : ℕ) → from < nodes → from ≢ root
    → IsToward links from root (get_or nexts from 0)
toward_at links nodes root row nexts t h near sound done from within n = by_entry (sound.steps from within)
  where
    own : IsLeast links from root (get_or row from 0)
    own = h.least from within (near from within)

    lowest : (other : ℕ) → IsFirstStep links from root other → get_or nexts from 0 ≤ other
    lowest other first = lowest_at links row nexts from other done (step_of links nodes root row from other t h near within first)

    by_entry : (get_or nexts from 0 ≡ nobody) ⊎ IsStep links row from (get_or nexts from 0) → IsToward links from root (get_or nexts from 0)
    by_entry (inl e) =
        let some = some_first links from root (get_or row from 0) own.steps n own.walk own in
        let step = step_of links nodes root row from some.0 t h near within some.1 in
        let g = (good nodes links from some.0 step.first t step.linked).b_within in
        let few = t.few_nodes in
        absurd (omega (arith, lowest some.0 some.1))
    by_entry (inr step) = record { first = first_of_step links nodes root row from (get_or nexts from 0) t h near within step; lowest = lowest }

-- After a look at all links each entry is the lowest first step.
step_row : (links : List Link) (nodes root : ℕ) (row : List ℕ) → IsTopology nodes links → IsCostRow links nodes root row
    → ((k : ℕ) → k < nodes → get_or row k 0 < far) → IsStepRow links nodes root (noted_all row (replicate nodes 65535) links)
step_row links nodes root row t h near =
    let all = all_noted links nodes row links (replicate nodes nobody) t (All-contains_itself links) (start_sound links nodes row) in
    record {
      size = all.sound.size;
      toward =
          toward_at links nodes root row (noted_all row (replicate nodes nobody) links) t h near all.sound all.done;
    }

pub steps_written : (links : List Link) (nodes root : ℕ) (row items nexts : List ℕ) (len : ℕ) → IsTopology nodes links
    → IsCostRow links nodes root row → ((k : ℕ) → k < nodes → get_or row k 0 < far) →
    items ≡ replicate nodes 65535 → nexts ≡ noted_all row items links → len ≡ length items
    → IsStepRow links nodes root (take len (nexts ++ drop (length nexts) items))
steps_written links nodes root row items nexts len t h near e f k =
    let first = step_row links nodes root row t h near in
    let same : nexts ≡ noted_all row (replicate nodes 65535) links = f ∙ ap (λ (l : List ℕ). noted_all row l links) e in
    let size : length nexts ≡ length items =
    ap (λ (l : List ℕ). length l) same ∙ first.size ∙ sym (length-replicate nodes 65535) ∙ sym (ap (λ (l : List ℕ). length l) e) in
    subst (IsStepRow links nodes root) (sym (whole items nexts len size k ∙ same)) first
