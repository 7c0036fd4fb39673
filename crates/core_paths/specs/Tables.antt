-- The tables of a core: the rows toward node 0, node 1 and so on, end to end.
use Rattle.std.specs.Prelude.{◌≡◌, ◌≢◌, ◌+◌, ◌*◌, ◌<◌, ℕ, List, length, slice_index}
use Rattle.mv_base.specs.declared.core_link.Link.{Link}
use Rattle.mv_base.specs.core_walks.Walks.{IsLeast, IsToward}
use Rattle.mv_base.specs.core_walks.Topology.{IsTopology, IsConnected}

-- the least costs toward each node below `upto`
pub record IsCostTable (links : List Link) (nodes upto : ℕ) (costs : List ℕ) : Type 0 where
  pub size : length costs ≡ upto * nodes
  pub least : (from to : ℕ) → from < nodes → to < upto → IsLeast links from to (slice_index costs (to * nodes + from))

-- the first steps toward each node below `upto`
pub record IsStepTable (links : List Link) (nodes upto : ℕ) (nexts : List ℕ) : Type 0 where
  pub size : length nexts ≡ upto * nodes
  pub toward : (from to : ℕ) → from < nodes → to < upto → from ≢ to → IsToward links from to (slice_index nexts (to * nodes + from))

-- what holds of the parts of each core
pub record IsCore (nodes : ℕ) (links : List Link) (costs nexts : List ℕ) : Type 0 where
  pub topology : IsTopology nodes links
  pub connected : IsConnected nodes links
  pub least : IsCostTable links nodes nodes costs
  pub toward : IsStepTable links nodes nodes nexts
