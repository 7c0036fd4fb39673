-- The made core is connected: each core node is reached over the ring, and each edge over its link.
use Rattle.std.proofs.Common.{◌≡◌, ◌⊎◌, ℕ, zero, suc, ◌+◌, ◌-◌, ◌%◌, ◌<◌, ◌≤◌, ◌==◌, ◌&&◌, Bool, true, List, [], refl, subst, arith, inl, inr}
use Rattle.std.proofs.lemmas.Bool.{and_from, or_left, or_right, eq-eqb, cases_lt}
use Rattle.mv_base.specs.declared.core_link.Link.{Link}
use Rattle.mv_base.specs.core_walks.Reached.{joins_to, reached_within, all_below, is_connected}
use Rattle.made_laws.specs.MadeScript.{ring_link, spur_link}
use Rattle.made_laws.proofs.ListLemmas.{thereafter, any_some, any_kept}
use Rattle.made_laws.proofs.Drafts.{made_links}

all_from : (test : ℕ → Bool) (count : ℕ) → ((k : ℕ) → k < count → test k ≡ true) → all_below test count ≡ true
all_from test zero h = refl
all_from test (suc count) h = and_from _ _ (all_from test count (λ k w. h k (omega arith))) (h count (omega arith))

still : (links : List Link) (node some more : ℕ) → some ≤ more → reached_within links some node ≡ true → reached_within links more node ≡ true
still links node some zero le h = subst (λ (k : ℕ). reached_within links k node ≡ true) (let e : some ≡ 0 = omega arith in e) h
still links node some (suc more) le h = by_order (still links node some more) (cases_lt more some)
  where
    by_order : (some ≤ more → reached_within links some node ≡ true → reached_within links more node ≡ true) → (more < some) ⊎ (some ≤ more)
        → reached_within links (suc more) node ≡ true
    by_order earlier (inl l) = subst (λ (k : ℕ). reached_within links k node ≡ true) (let e : some ≡ suc more = omega arith in e) h
    by_order earlier (inr l) = or_left _ _ (earlier l h)

-- One link more, from either end.
joined_there : (passes : ℕ → Bool) (node : ℕ) (link : Link) → link.b.0 ≡ node → passes link.a.0 ≡ true → joins_to passes node link ≡ true
joined_there passes node link e h = or_right (link.a.0 == node && passes link.b.0) _ (and_from _ _ (eq-eqb link.b.0 node e) h)

joined_here : (passes : ℕ → Bool) (node : ℕ) (link : Link) → link.a.0 ≡ node → passes link.b.0 ≡ true → joins_to passes node link ≡ true
joined_here passes node link e h = or_left _ _ (and_from _ _ (eq-eqb link.a.0 node e) h)

module _ (edges cores : ℕ) (all_edges : edges ≡ 32) (all_cores : cores ≡ 16) where
  over_ring : (count k node : ℕ) → k < 16 → suc k % 16 + 1 + 31 ≡ node → reached_within (made_links cores edges) count (suc k + 31) ≡ true
      → reached_within (made_links cores edges) (suc count) node ≡ true
  over_ring count k node w e h =
      or_right (reached_within (made_links cores edges) count node) _
      (any_kept (joins_to (reached_within (made_links cores edges) count) node) (thereafter [] ring_link cores) spur_link edges
      (any_some (joins_to (reached_within (made_links cores edges) count) node) [] ring_link cores k (omega arith)
      (joined_there (reached_within (made_links cores edges) count) node (ring_link (suc k)) e h)))

  up_spur : (count k : ℕ) → k < 32 → reached_within (made_links cores edges) count (suc k - 1) ≡ true
      → reached_within (made_links cores edges) (suc count) ((suc k - 1) % 16 + 1 + 31) ≡ true
  up_spur count k w h =
      or_right (reached_within (made_links cores edges) count ((suc k - 1) % 16 + 1 + 31)) _
      (any_some (joins_to (reached_within (made_links cores edges) count) ((suc k - 1) % 16 + 1 + 31)) (thereafter [] ring_link cores) spur_link edges k
      (omega arith)
      (joined_there (reached_within (made_links cores edges) count) ((suc k - 1) % 16 + 1 + 31) (spur_link (suc k)) refl h))

  down_spur : (count k : ℕ) → k < 32 → reached_within (made_links cores edges) count ((suc k - 1) % 16 + 1 + 31) ≡ true
      → reached_within (made_links cores edges) (suc count) (suc k - 1) ≡ true
  down_spur count k w h =
      or_right (reached_within (made_links cores edges) count (suc k - 1)) _
      (any_some (joins_to (reached_within (made_links cores edges) count) (suc k - 1)) (thereafter [] ring_link cores) spur_link edges k (omega arith)
      (joined_here (reached_within (made_links cores edges) count) (suc k - 1) (spur_link (suc k)) refl h))

  core_reached : (k : ℕ) → k < 16 → reached_within (made_links cores edges) (suc k) (suc k + 31) ≡ true
  core_reached zero w = up_spur 0 0 (omega arith) refl
  core_reached (suc k) w = over_ring (suc k) k (suc (suc k) + 31) (omega arith) (omega arith) (core_reached k (omega arith))

  edge_reached : (k : ℕ) → k < 32 → reached_within (made_links cores edges) 17 (suc k - 1) ≡ true
  edge_reached k w =
      down_spur 16 k w
      (still (made_links cores edges) ((suc k - 1) % 16 + 1 + 31) (suc ((suc k - 1) % 16)) 16 (omega arith)
      (subst (λ (n : ℕ). reached_within (made_links cores edges) (suc ((suc k - 1) % 16)) n ≡ true)
      (let e : suc ((suc k - 1) % 16) + 31 ≡ (suc k - 1) % 16 + 1 + 31 = omega arith in e)
      (core_reached ((suc k - 1) % 16) (omega arith))))

  each_reached : (count node : ℕ) → count ≡ 48 → node < count → reached_within (made_links cores edges) count node ≡ true
  each_reached count node e w = by_kind (cases_lt node 32)
    where
      by_kind : (node < 32) ⊎ (32 ≤ node) → reached_within (made_links cores edges) count node ≡ true
      by_kind (inl l) =
          let same : suc node - 1 ≡ node = omega arith in
          subst (λ (n : ℕ). reached_within (made_links cores edges) count n ≡ true) same
          (still (made_links cores edges) (suc node - 1) 17 count (omega arith) (edge_reached node l))
      by_kind (inr l) =
          let same : suc (node - 32) + 31 ≡ node = omega arith in
          subst (λ (n : ℕ). reached_within (made_links cores edges) count n ≡ true) same
          (still (made_links cores edges) (suc (node - 32) + 31) (suc (node - 32)) count (omega arith) (core_reached (node - 32) (omega arith)))

  pub connected : (count : ℕ) → count ≡ 48 → is_connected count (made_links cores edges) ≡ true
  connected count e = all_from (reached_within (made_links cores edges) count) count (λ node w. each_reached count node e w)
