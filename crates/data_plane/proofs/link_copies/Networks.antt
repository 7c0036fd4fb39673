-- What calls leave on the ways is what the network's own changes leave there.
use Rattle.std.proofs.Common.{◌≡◌, ℕ, zero, suc, ◌+◌, ◌-◌, ◌==◌, ◌&&◌, Bool, true, false, cond, List, [], ◌∷◌, ◌++◌, map, filter, nat_le, Some, refl, sym, ap, ◌∙◌}
use Rattle.std.specs.List.{remove}
use Rattle.std.proofs.lemmas.List.{append-nil, append_assoc, map-append}
use Rattle.mv_base.specs.declared.ids.NodeId.{NodeId}
use Rattle.label_defs.specs.declared.branch.Branch.{Branch as TreeBranch}
use Rattle.network_defs.specs.Acts as acts
use Rattle.network_defs.specs.Acts.{with_branches, without_copy, aged}
use Rattle.network_defs.specs.World.{World, LinkCopy, clock_of, scenario_of, with_copies}
use Rattle.data_plane.proofs.link_copies.WayOrder.{way_equal}
use Rattle.data_plane.specs.link_copies.CopiesData.{KeptCopy, Current, CopiesData, HasCopies, kept_at, is_at, is_recent, copy_on, hop_of, sent}

abbrev copy_of : KeptCopy → LinkCopy
copy_of k = k.copy

-- ---- a copy leaves its link

module _ {X Y : Type 0} (f : X → Y) where
  map-removed : (xs : List X) (i : ℕ) → map f (remove xs i) ≡ remove (map f xs) i
  map-removed [] zero = refl
  map-removed [] (suc i) = refl
  map-removed (x ∷ xs) zero = refl
  map-removed (x ∷ xs) (suc i) = ap (λ (ys : List Y). f x ∷ ys) (map-removed xs i)

  map-filtered : (p : X → Bool) (q : Y → Bool) → ((x : X) → p x ≡ q (f x)) → (xs : List X) → map f (filter p xs) ≡ filter q (map f xs)
  map-filtered p q same [] = refl
  map-filtered p q same (x ∷ xs) = by (p x) (map-filtered p q same xs) ∙ (λ i. cond (same x i) (f x ∷ filter q (map f xs)) (filter q (map f xs)))
    where
      by : (b : Bool) → map f (filter p xs) ≡ filter q (map f xs)
          → map f (cond b (x ∷ filter p xs) (filter p xs)) ≡ cond b (f x ∷ filter q (map f xs)) (filter q (map f xs))
      by true rest = ap (λ (ys : List Y). f x ∷ ys) rest
      by false rest = rest

pub left_as : (old new : CopiesData) (world : World) (from to : NodeId) (place : ℕ) → HasCopies old world
    → ((u n : NodeId) → kept_at new u n ≡ cond (is_at from to u n) (remove (kept_at old from to) (place - 1)) (kept_at old u n))
    → HasCopies new (without_copy world from to place)
left_as old new world from to place has each u n = ap (map copy_of) (each u n) ∙ by (is_at from to u n)
  where
    by : (b : Bool) → map copy_of (cond b (remove (kept_at old from to) (place - 1)) (kept_at old u n))
        ≡ cond b (remove (world.copies from to) (place - 1)) (world.copies u n)
    by true = map-removed copy_of (kept_at old from to) (place - 1) ∙ ap (λ (copies : List LinkCopy). remove copies (place - 1)) (has from to)
    by false = has u n

pub aged_as : (old new : CopiesData) (world : World) → HasCopies old world
    → ((u n : NodeId) → kept_at new u n ≡ filter (is_recent (clock_of world) (scenario_of world).life) (kept_at old u n)) → HasCopies new (aged world)
aged_as old new world has each u n =
    ap (map copy_of) (each u n)
    ∙ map-filtered copy_of (is_recent (clock_of world) (scenario_of world).life)
    (λ copy. nat_le (clock_of world) (copy.put_at + (scenario_of world).life)) (λ k. refl) (kept_at old u n)
    ∙ ap (filter (λ copy. nat_le (clock_of world) (copy.put_at + (scenario_of world).life))) (has u n)

-- ---- copies on branches

module _ (current : Current) (from : NodeId) (ttl now : ℕ) where
  abbrev pub put_on : List TreeBranch → NodeId → NodeId → List LinkCopy
  put_on branches u n = map copy_of (sent (Some current) from ttl now (map hop_of branches) u n)

  -- the first branch, and the others
  pub put-cons : (branch : TreeBranch) (more : List TreeBranch) (u n : NodeId)
      → put_on (branch ∷ more) u n ≡ cond (is_at from branch.node u n) (copy_of (copy_on ttl now current (hop_of branch)) ∷ put_on more u n)
      (put_on more u n)
  put-cons branch more u n = by (u.0 == from.0) (n.0 == branch.node.0)
    where
      by : (a b : Bool) → map copy_of (cond a (map (copy_on ttl now current)
          (cond b (hop_of branch ∷ filter (λ b. n.0 == b.node.0) (map hop_of more)) (filter (λ b. n.0 == b.node.0) (map hop_of more)))) [])
          ≡ cond (a && b) (copy_of (copy_on ttl now current (hop_of branch))
          ∷ map copy_of (cond a (map (copy_on ttl now current) (filter (λ b. n.0 == b.node.0) (map hop_of more))) []))
          (map copy_of (cond a (map (copy_on ttl now current) (filter (λ b. n.0 == b.node.0) (map hop_of more))) []))
      by true true = refl
      by true false = refl
      by false b = refl

  pub branches_put : (branches : List TreeBranch) (world : World) → clock_of world ≡ now → (u n : NodeId)
      → (with_branches from ttl current.number branches world).copies u n ≡ world.copies u n ++ put_on branches u n
  branches_put [] world clock u n =
      sym (append-nil (world.copies u n)) ∙ ap (λ (more : List LinkCopy). world.copies u n ++ more) (nothing (u.0 == from.0))
    where
      nothing : (b : Bool) → [] ≡ map copy_of (cond b [] [])
      nothing true = refl
      nothing false = refl
  branches_put (branch ∷ more) world clock u n =
      branches_put more (with_copies from branch.node (world.copies from branch.node ++ acts.copy_on world ttl current.number branch ∷ []) world)
      clock u n
      ∙ by (is_at from branch.node u n) refl
      ∙ ap (λ (copies : List LinkCopy). world.copies u n ++ copies) (sym (put-cons branch more u n))
    where
      same : acts.copy_on world ttl current.number branch ≡ copy_of (copy_on ttl now current (hop_of branch))
      same i = record { label = branch.label; ttl = ttl; put_at = clock i; number = current.number }

      by : (b : Bool) → is_at from branch.node u n ≡ b
          → cond b (world.copies from branch.node ++ acts.copy_on world ttl current.number branch ∷ []) (world.copies u n) ++ put_on more u n
          ≡ world.copies u n ++ cond b (copy_of (copy_on ttl now current (hop_of branch)) ∷ put_on more u n) (put_on more u n)
      by true e =
          append_assoc (world.copies from branch.node) (acts.copy_on world ttl current.number branch ∷ []) (put_on more u n)
          ∙ (λ i. world.copies (sym (way_equal (u, n) (from, branch.node) e) i).0 (sym (way_equal (u, n) (from, branch.node) e) i).1 ++ same i
          ∷ put_on more u n)
      by false e = refl

pub sent_as : (old new : CopiesData) (world : World) (current : Current) (from : NodeId) (ttl : ℕ) (branches : List TreeBranch) → HasCopies old world
    → ((u n : NodeId) → kept_at new u n ≡ kept_at old u n ++ sent (Some current) from ttl (clock_of world) (map hop_of branches) u n)
    → HasCopies new (with_branches from ttl current.number branches world)
sent_as old new world current from ttl branches has each u n =
    ap (map copy_of) (each u n)
    ∙ map-append copy_of (kept_at old u n) (sent (Some current) from ttl (clock_of world) (map hop_of branches) u n)
    ∙ ap (λ (copies : List LinkCopy). copies ++ put_on current from ttl (clock_of world) branches u n) (has u n)
    ∙ sym (branches_put current from ttl (clock_of world) branches world refl u n)
