-- Walks through the core, and which of them cost least. The upstream LSR of a node in a multipoint LSP is the next hop on
-- the best path to the root (RFC 6388 section 2.4.1.1). Which path is best is left to routing there; here it is a walk of
-- least cost. Nodes are given by their numbers.
use Rattle.std.specs.Prelude.{◌≡◌, ◌⊎◌, ◌+◌, ◌≤◌, ℕ, List, [], ◌∷◌, Contains}
use Rattle.mv_base.specs.declared.core_link.Link.{Link}

-- a link of the list has these two ends, in either order, and this cost
pub record IsLinked (links : List Link) (a b cost : ℕ) : Type 0 where
  pub link : Link
  pub listed : Contains links link
  pub ends : ((link.a.0 ≡ a) × (link.b.0 ≡ b)) ⊎ ((link.a.0 ≡ b) × (link.b.0 ≡ a))
  pub priced : link.cost ≡ cost

-- The nodes after `from` are a walk to `to`: each is linked to the one before it, and the last is `to`. The cost of a
-- walk is the sum of its links' costs.
abbrev pub IsWalk : List Link → ℕ → List ℕ → ℕ → ℕ → Type 0
IsWalk links from [] to cost = (from ≡ to) × (cost ≡ 0)
IsWalk links from (next ∷ thereafter) to cost =
    (first : ℕ) × (rest : ℕ) × IsLinked links from next first × IsWalk links next thereafter to rest × (cost ≡ first + rest)

-- a walk leads from the one node to the other
pub record Reaches (links : List Link) (from to : ℕ) : Type 0 where
  pub steps : List ℕ
  pub cost : ℕ
  pub walk : IsWalk links from steps to cost

-- some walk has this cost, and every walk costs at least that
pub record IsLeast (links : List Link) (from to cost : ℕ) : Type 0 where
  pub steps : List ℕ
  pub walk : IsWalk links from steps to cost
  pub least : (steps : List ℕ) (other : ℕ) → IsWalk links from steps to other → cost ≤ other

-- the first step of a walk of least cost
pub record IsFirstStep (links : List Link) (from to next : ℕ) : Type 0 where
  pub thereafter : List ℕ
  pub cost : ℕ
  pub walk : IsWalk links from (next ∷ thereafter) to cost
  pub least : IsLeast links from to cost

-- the lowest first step of the walks of least cost
pub record IsToward (links : List Link) (from to next : ℕ) : Type 0 where
  pub first : IsFirstStep links from to next
  pub lowest : (other : ℕ) → IsFirstStep links from to other → next ≤ other
