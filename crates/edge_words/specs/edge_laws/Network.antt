-- A network of edges at the level of messages, each of which is one change of a table.
use Rattle.std.specs.Prelude.{ℕ, ◌==◌, ◌&&◌, Bool, List, ◌++◌, if◌then◌else◌}
use Rattle.mv_base.specs.declared.ids.NodeId.{NodeId}
use Rattle.bgp_messages.specs.declared.bgp_attributes.key.Key.{Key}
use Rattle.scenario_defs.specs.declared.scenario.Scenario.{Scenario}
use Rattle.mv_base.specs.declared.table_defs.change.Change.{Change}
use Rattle.edge_defs.specs.Edge.{Control}
use Rattle.edge_defs.specs.Held.{put_to}
use Rattle.edge_defs.specs.Keys.{Value}
use Rattle.edge_defs.specs.Place.{EdgePlace}
use Rattle.mv_base.specs.core_walks.Core.{Core}

-- What is between two edges in one direction: whether their BGP session is joined, and the changes in transit, each in a message of
-- its own.
pub record Direction : Type 0 where
  pub joined : Bool
  pub transit : List (Change Key Value)

-- A network: its clock and its scenario; the core that each edge knows; what each edge keeps; and what is between each two of them.
pub record EdgeNetwork : Type 0 where
  pub clock : ℕ
  pub scenario : Scenario
  pub core : NodeId → Core
  pub node : NodeId → Control
  pub direction : NodeId → NodeId → Direction

-- the place of an edge in the network
abbrev pub place_of : EdgeNetwork → NodeId → EdgePlace
place_of network n = record { scenario = network.scenario; core = network.core n; me = n }

-- one edge knows another core, and all others know theirs
abbrev pub core_at : NodeId → Core → (NodeId → Core) → NodeId → Core
core_at at new core n = if n.0 == at.0 then new else core n

-- one edge becomes another, and all others stay
abbrev pub at_node : NodeId → Control → (NodeId → Control) → NodeId → Control
at_node at new node n = if n.0 == at.0 then new else node n

-- The network once an edge has stepped: to each peer it puts what changes in the table that it told that peer. It is lost where the
-- session is not joined.
abbrev pub thereafter : EdgeNetwork → NodeId → Control → EdgeNetwork
thereafter network n new =
    record network {
      node = at_node n new network.node;
      direction = λ from to. record (network.direction from to) {
        transit =
            if (from.0 == n.0) && (network.direction from to).joined
            then (network.direction from to).transit ++ put_to (place_of network n) (network.node n) new to
            else (network.direction from to).transit;
      };
    }
