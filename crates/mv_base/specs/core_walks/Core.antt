-- A core as nodes know it: what it costs to reach a node, and the next hop towards it (RFC 6388 section 2.4.1.1).
use Rattle.std.specs.Prelude.{◌≡◌, ◌≢◌, ◌<◌, ◌≤◌, ◌⊎◌, ℕ, List, Option, None, Some}
use Rattle.mv_base.specs.declared.core_link.Link.{Link}
use Rattle.mv_base.specs.declared.ids.NodeId.{NodeId}
use Rattle.mv_base.specs.core_walks.Walks.{IsLeast, IsToward}

-- The least cost from one node to another, and the neighbour on such a walk, none where both are one node.
pub record Core : Type 0 where
  pub cost : NodeId → NodeId → ℕ
  pub toward : NodeId → NodeId → Option NodeId

-- Costs and neighbours of so many nodes are those of the links. Between numbers that are no nodes there are none.
pub record IsCoreOf (count : ℕ) (links : List Link) (core : Core) : Type 0 where
  pub least : (from to : NodeId) → from.0 < count → to.0 < count → IsLeast links from.0 to.0 (core.cost from to)
  pub itself : (node : NodeId) → core.toward node node ≡ None
  pub first : (from to : NodeId) → from.0 < count → to.0 < count → from ≢ to
      → (next : NodeId) × (core.toward from to ≡ Some next) × IsToward links from.0 to.0 next.0
  pub outside : (from to : NodeId) → (count ≤ from.0) ⊎ (count ≤ to.0) → (core.cost from to ≡ 0) × (core.toward from to ≡ None)
