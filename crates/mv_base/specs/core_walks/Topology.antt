-- The nodes and links of a core, and what is asked of them.
use Rattle.std.specs.Prelude.{◌≡◌, ◌⊎◌, ◌≢◌, ◌≤◌, ◌<◌, ℕ, List, length, All}
use Rattle.std.specs.List.{AllPairs}
use Rattle.mv_base.specs.declared.core_link.Link.{Link}
use Rattle.mv_base.specs.core_walks.Walks.{Reaches}

-- how many nodes there are, which have the numbers below that, and the links between them
pub record Topology : Type 0 where
  pub nodes : ℕ
  pub links : List Link

-- the ends are two of so many nodes
pub record HasEnds (nodes : ℕ) (link : Link) : Type 0 where
  pub a : link.a.0 < nodes
  pub b : link.b.0 < nodes
  pub two : link.a.0 ≢ link.b.0

abbrev pub HasCost : Link → Type 0
HasCost link = (1 ≤ link.cost) × (link.cost ≤ 65535)

abbrev pub JoinsSamePair : Link → Link → Type 0
JoinsSamePair own other =
    ((own.a.0 ≡ other.a.0) × (own.b.0 ≡ other.b.0)) ⊎ ((own.a.0 ≡ other.b.0) × (own.b.0 ≡ other.a.0))

-- at most 64 nodes and 256 links; each link joins two nodes, at a cost of 1 to 65535, and no other link joins them
pub record IsTopology (nodes : ℕ) (links : List Link) : Type 0 where
  pub few_nodes : nodes ≤ 64
  pub few_links : length links ≤ 256
  pub ends : All (HasEnds nodes) links
  pub costs : All HasCost links
  pub once : AllPairs (λ own other. ¬ (JoinsSamePair own other)) links

-- each node is reached from node 0
abbrev pub IsConnected : ℕ → List Link → Type 0
IsConnected nodes links = (node : ℕ) → node < nodes → Reaches links 0 node

-- the lowest node that is not reached from node 0
pub record IsFirstUnreached (nodes : ℕ) (links : List Link) (node : ℕ) : Type 0 where
  pub within : node < nodes
  pub unreached : ¬ (Reaches links 0 node)
  pub lower : (other : ℕ) → other < node → Reaches links 0 other
