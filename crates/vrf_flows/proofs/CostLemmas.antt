-- In a connected core there are least costs.
use Rattle.std.proofs.Common.{◌≡◌, ◌⊎◌, ℕ, ◌<◌, ◌≤◌, ◌*◌, Bool, true, false, zero, suc, ltb, List, [], ◌∷◌, length, get_or, sum, inl, inr, refl, sym, ap, subst, arith}
use Rattle.std.specs.List.{list_all, All}
use Rattle.std.proofs.lemmas.Bool.Decides.{nat_tests}
use Rattle.mv_base.specs.declared.core_link.Link.{Link}
use Rattle.mv_base.specs.declared.ids.NodeId.{NodeId}
use Rattle.mv_base.specs.core_walks.Walks.{IsLeast}
use Rattle.mv_base.specs.core_walks.Topology.{HasEnds, IsTopology, IsConnected}
use Rattle.core_paths.specs.Rows.{far, relaxed_all, is_tight, IsCostRow}
use Rattle.core_paths.proofs.RowLemmas.{HasWalk, IsSound, reached, relaxed_all_sound, relaxed_all_falls, cost_row}
use Rattle.core_paths.proofs.TableLemmas.{all_near}

-- a row of costs
abbrev Row : List Link → ℕ → ℕ → Type 0
Row links nodes root = (row : List ℕ) × IsCostRow links nodes root row

-- Sound rows are relaxed until they are tight.
tightened : (links : List Link) (nodes root : ℕ) (fuel : ℕ) (row : List ℕ) → IsTopology nodes links → IsSound links nodes root row → sum row < fuel
    → Row links nodes root
tightened links nodes root zero row t sound h = absurd (omega (arith, h))
tightened links nodes root (suc fuel) row t sound h = by (λ more s l. tightened links nodes root fuel more t s l) (list_all (is_tight row) links) refl
  where
    ends : All (HasEnds (length row)) links
    ends = subst (λ (n : ℕ). All (HasEnds n) links) (sym sound.size) t.ends

    by : ((more : List ℕ) → IsSound links nodes root more → sum more < fuel → Row links nodes root) → (b : Bool) → list_all (is_tight row) links ≡ b
        → Row links nodes root
    by rest true e = (row, cost_row links nodes root row t sound e)
    by rest false e =
        let falls : sum (relaxed_all row links) < sum row = relaxed_all_falls links row ends e in
        rest (relaxed_all row links) (relaxed_all_sound links nodes root row t sound) (omega (arith, h, falls))

-- the row in which a walk is known from the root alone
abbrev all-far : ℕ → List ℕ
all-far zero = []
all-far (suc nodes) = far ∷ all-far nodes

abbrev first : ℕ → ℕ → List ℕ
first zero root = []
first (suc nodes) zero = 0 ∷ all-far nodes
first (suc nodes) (suc root) = far ∷ first nodes root

length-far : (nodes : ℕ) → length (all-far nodes) ≡ nodes
length-far zero = refl
length-far (suc nodes) = ap suc (length-far nodes)

length-first : (nodes root : ℕ) → length (first nodes root) ≡ nodes
length-first zero root = refl
length-first (suc nodes) zero = ap suc (length-far nodes)
length-first (suc nodes) (suc root) = ap suc (length-first nodes root)

far-at : (nodes k : ℕ) → k < nodes → get_or (all-far nodes) k 0 ≡ far
far-at zero k h = absurd (omega (arith, h))
far-at (suc nodes) zero h = refl
far-at (suc nodes) (suc k) h = far-at nodes k (omega (arith, h))

far-top : (nodes k : ℕ) → get_or (all-far nodes) k 0 ≤ far
far-top zero k = omega arith
far-top (suc nodes) zero = omega arith
far-top (suc nodes) (suc k) = far-top nodes k

first-top : (nodes root k : ℕ) → get_or (first nodes root) k 0 ≤ far
first-top zero root k = omega arith
first-top (suc nodes) zero zero = omega arith
first-top (suc nodes) zero (suc k) = far-top nodes k
first-top (suc nodes) (suc root) zero = omega arith
first-top (suc nodes) (suc root) (suc k) = first-top nodes root k

first-here : (nodes root : ℕ) → root < nodes → get_or (first nodes root) root 0 ≡ 0
first-here zero root h = absurd (omega (arith, h))
first-here (suc nodes) zero h = refl
first-here (suc nodes) (suc root) h = first-here nodes root (omega (arith, h))

-- the entry is that of the root, or none is known
abbrev IsAt : ℕ → ℕ → ℕ → Type 0
IsAt nodes root k = ((root ≡ k) × (get_or (first nodes root) k 0 ≡ 0)) ⊎ (get_or (first nodes root) k 0 ≡ far)

first-at : (nodes root k : ℕ) → k < nodes → IsAt nodes root k
first-at zero root k h = absurd (omega (arith, h))
first-at (suc nodes) zero zero h = inl (refl, refl)
first-at (suc nodes) zero (suc k) h = inr (far-at nodes k (omega (arith, h)))
first-at (suc nodes) (suc root) zero h = inr refl
first-at (suc nodes) (suc root) (suc k) h = by (first-at nodes root k (omega (arith, h)))
  where
    by : ((root ≡ k) × (get_or (first nodes root) k 0 ≡ 0)) ⊎ (get_or (first nodes root) k 0 ≡ far)
        → ((suc root ≡ suc k) × (get_or (first nodes root) k 0 ≡ 0)) ⊎ (get_or (first nodes root) k 0 ≡ far)
    by (inl both) = inl (ap suc both.0, both.1)
    by (inr e) = inr e

first-sound : (links : List Link) (nodes root : ℕ) → root < nodes → IsSound links nodes root (first nodes root)
first-sound links nodes root within = record {
  size = length-first nodes root;
  here = first-here nodes root within;
  top = first-top nodes root;
  walks = λ k h low. walk k low (first-at nodes root k h);
  near = λ k h low. near k low (first-at nodes root k h);
}
  where
    walk : (k : ℕ) → get_or (first nodes root) k 0 < far → IsAt nodes root k → HasWalk links k root (get_or (first nodes root) k 0)
    walk k low (inl both) = record { steps = []; walk = (sym both.0, both.1) }
    walk k low (inr e) = absurd (omega (arith, low, e))

    near : (k : ℕ) → get_or (first nodes root) k 0 < far → IsAt nodes root k → get_or (first nodes root) k 0 ≤ 65535 * reached (first nodes root)
    near k low (inl both) = omega (arith, both.1)
    near k low (inr e) = absurd (omega (arith, low, e))

-- The least costs from a node.
pub least_costs : (nodes : ℕ) (links : List Link) (me : NodeId) → IsTopology nodes links → IsConnected nodes links → me.0 < nodes →
    (cost : NodeId → ℕ) × ((node : NodeId) → node.0 < nodes → IsLeast links me.0 node.0 (cost node))
least_costs nodes links me t connected within = (
  λ node. by node.0 (ltb node.0 nodes) refl,
  λ node h. least node.0 (ltb node.0 nodes) refl h,
)
  where
    row : (root : ℕ) → root < nodes → Row links nodes root
    row root h = tightened links nodes root (suc (sum (first nodes root))) (first nodes root) t (first-sound links nodes root h) (omega arith)

    below : (root : ℕ) → ltb root nodes ≡ true → root < nodes
    below root e = grind (arith, nat_tests)

    by : (root : ℕ) (b : Bool) → ltb root nodes ≡ b → ℕ
    by root true e = get_or (row root (below root e)).0 me.0 0
    by root false e = 0

    least : (root : ℕ) (b : Bool) (e : ltb root nodes ≡ b) → root < nodes → IsLeast links me.0 root (by root b e)
    least root true e h =
        let own = row root (below root e) in
        own.1.least me.0 within (all_near links nodes root own.0 connected h own.1 me.0 within)
    least root false e h = absurd (above root e h)
      where
        above : (root : ℕ) → ltb root nodes ≡ false → root < nodes → ⊥
        above root e h = grind (arith, nat_tests)
