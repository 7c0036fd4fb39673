-- What is seen of the ways, as a copy lands or is put.
use Rattle.std.proofs.Common.{◌≡◌, ℕ, ◌-◌, ◌==◌, ◌&&◌, map, Bool, true, false, cond, List, [], ◌∷◌, ◌++◌, slice_get, Option, None, Some, option_map, refl, sym, ap, ◌∙◌}
use Rattle.std.specs.FinMap as maps
use Rattle.std.specs.List.{remove}
use Rattle.std.proofs.lemmas.List.{append-nil}
use Rattle.buf_pool.specs.Held.{Buffers}
use Rattle.indexmap.specs.IndexMap as kept
use Rattle.mv_base.specs.declared.ids.NodeId.{NodeId}
use Rattle.label_forwarding.specs.declared.branch.Branch.{Branch}
use Rattle.data_plane.specs.link_copies.CopiesData.{KeptCopy, Current, CopiesData, kept_at, is_at, copy_on, sent}
use Rattle.data_plane.specs.link_copies.Kept.{WayMap, is_way, copies_on, ways_of, data_of}
use Rattle.data_plane.proofs.link_copies.WayOrder.{way_equal, turned}
use Rattle.data_plane.proofs.link_copies.Sums.{copies_in, copies_seen}
use Rattle.data_plane.proofs.link_copies.Lists.{remove-past, removed_in}

pub kept_seen : (m : WayMap) (current : Option Current) (buffers : Buffers) (d : CopiesData) → data_of m current buffers ≡ d → (u n : NodeId)
    → kept_at d u n ≡ copies_on m (u, n)
kept_seen m current buffers d is u n = ap (λ (x : CopiesData). kept_at x u n) (sym is) ∙ copies_seen m (u, n)

module _ (m : WayMap) (current : Option Current) (buffers : Buffers) (d : CopiesData) (is : data_of m current buffers ≡ d) (from to : NodeId)
    (place i : ℕ) (at : i ≡ place - 1) where
  pub copy_seen : (o : Option KeptCopy) → o ≡ slice_get (copies_on m (from, to)) i → slice_get (kept_at d from to) (place - 1) ≡ o
  copy_seen o e =
      ap (λ (copies : List KeptCopy). slice_get copies (place - 1)) (kept_seen m current buffers d is from to)
      ∙ ap (slice_get (copies_on m (from, to))) (sym at) ∙ sym e

  -- where there is no such copy, all stays
  pub none_lands : slice_get (kept_at d from to) (place - 1) ≡ None → (u n : NodeId)
      → kept_at d u n ≡ cond (is_at from to u n) (remove (kept_at d from to) (place - 1)) (kept_at d u n)
  none_lands none u n = by (is_at from to u n) refl
    where
      by : (b : Bool) → is_at from to u n ≡ b → kept_at d u n ≡ cond b (remove (kept_at d from to) (place - 1)) (kept_at d u n)
      by true e =
          ap (λ (w : NodeId × NodeId). kept_at d w.0 w.1) (way_equal (u, n) (from, to) e) ∙ sym (remove-past (kept_at d from to) (place - 1) none)
      by false e = refl

  pub one_lands : (new : WayMap) → ((q : NodeId × NodeId)
      → kept.get is_way new q ≡ cond (is_way (from, to) q) (option_map (λ copies. remove copies i) (kept.get is_way m q)) (kept.get is_way m q))
      → (u n : NodeId) → copies_in (maps.get (ways_of new) (u, n)) ≡ cond (is_at from to u n) (remove (kept_at d from to) (place - 1)) (kept_at d u n)
  one_lands new each u n = copies_seen new (u, n) ∙ ap copies_in (each (u, n)) ∙ by (is_at from to u n) refl (turned (from, to) (u, n))
    where
      by : (b : Bool) → is_at from to u n ≡ b → is_way (from, to) (u, n) ≡ is_at from to u n
          → copies_in (cond (is_way (from, to) (u, n)) (option_map (λ copies. remove copies i) (kept.get is_way m (u, n))) (kept.get is_way m (u, n)))
          ≡ cond b (remove (kept_at d from to) (place - 1)) (kept_at d u n)
      by true e same =
          (λ j. copies_in (cond ((same ∙ e) j) (option_map (λ copies. remove copies i) (kept.get is_way m (u, n))) (kept.get is_way m (u, n))))
          ∙ removed_in i (kept.get is_way m (u, n))
          ∙ (λ j. remove (copies_on m (way_equal (u, n) (from, to) e j)) (at j))
          ∙ ap (λ (copies : List KeptCopy). remove copies (place - 1)) (sym (kept_seen m current buffers d is from to))
      by false e same =
          (λ j. copies_in (cond ((same ∙ e) j) (option_map (λ copies. remove copies i) (kept.get is_way m (u, n))) (kept.get is_way m (u, n))))
          ∙ sym (kept_seen m current buffers d is u n)

-- ---- copies are put

-- one copy more is on its way, after the others
module _ (m new : WayMap) (from to : NodeId) (k : KeptCopy)
    (each : (q : NodeId × NodeId) → kept.get is_way new q
    ≡ cond (is_way (from, to) q) (Some (copies_on m (from, to) ++ k ∷ [])) (kept.get is_way m q)) where
  pub one_after : (u n : NodeId) → copies_on new (u, n) ≡ copies_on m (u, n) ++ cond (is_at from to u n) (k ∷ []) []
  one_after u n = ap copies_in (each (u, n)) ∙ by (is_at from to u n) refl (turned (from, to) (u, n))
    where
      by : (b : Bool) → is_at from to u n ≡ b → is_way (from, to) (u, n) ≡ is_at from to u n
          → copies_in (cond (is_way (from, to) (u, n)) (Some (copies_on m (from, to) ++ k ∷ [])) (kept.get is_way m (u, n)))
          ≡ copies_on m (u, n) ++ cond (is_at from to u n) (k ∷ []) []
      by true e same =
          (λ j. copies_in (cond ((same ∙ e) j) (Some (copies_on m (from, to) ++ k ∷ [])) (kept.get is_way m (u, n))))
          ∙ (λ j. copies_on m (sym (way_equal (u, n) (from, to) e) j) ++ cond (sym e j) (k ∷ []) [])
      by false e same =
          (λ j. copies_in (cond ((same ∙ e) j) (Some (copies_on m (from, to) ++ k ∷ [])) (kept.get is_way m (u, n))))
          ∙ sym (append-nil (copies_on m (u, n)))
          ∙ (λ j. copies_on m (u, n) ++ cond (sym e j) (k ∷ []) [])

one_sent : {X Y : Type 0} (f : X → Y) (x : X) (a b : Bool) → cond a (map f (cond b (x ∷ []) [])) [] ≡ cond (a && b) (f x ∷ []) []
one_sent f x true true = refl
one_sent f x true false = refl
one_sent f x false b = refl

module _ (m new : WayMap) (current : Current) (buffers : Buffers) (d : CopiesData) (is : data_of m (Some current) buffers ≡ d) (from : NodeId)
    (ttl now : ℕ) (branch : Branch) (k : KeptCopy)
    (on : k ≡ copy_on ttl now current branch)
    (each : (q : NodeId × NodeId) → kept.get is_way new q
    ≡ cond (is_way (from, branch.node) q) (Some (copies_on m (from, branch.node) ++ k ∷ [])) (kept.get is_way m q)) where
  pub one_put : (u n : NodeId) → copies_in (maps.get (ways_of new) (u, n)) ≡ kept_at d u n ++ sent d.current from ttl now (branch ∷ []) u n
  one_put u n =
      copies_seen new (u, n) ∙ one_after m new from branch.node k each u n
      ∙ (λ j. sym (kept_seen m (Some current) buffers d is u n) j ++ there j)
    where
      there : cond (is_at from branch.node u n) (k ∷ []) [] ≡ sent d.current from ttl now (branch ∷ []) u n
      there =
          ap (λ (x : KeptCopy). cond (is_at from branch.node u n) (x ∷ []) []) on
          ∙ sym (one_sent (copy_on ttl now current) branch (u.0 == from.0) (n.0 == branch.node.0))
          ∙ ap (λ (x : CopiesData). sent x.current from ttl now (branch ∷ []) u n) is
