-- The control plane of a network as its callers see it.
use Rattle.std.specs.Prelude.{ℕ, List, refl}
use Rattle.std.specs.Coded.{Coded, code_by, coded×, coded_list, coded_ℕ}
use Rattle.mv_base.specs.core_walks.Topology.{Topology}
use Rattle.core_paths.specs.contracts.paths.Core as cores
use Rattle.network_defs.specs.declared.session_defs.direction.Direction.{Direction}
use Rattle.network_defs.specs.contracts.session_defs.direction.Direction as directions
use Rattle.net_sessions.specs.session_transit.TransitData.{TransitData, transit_code}
use Rattle.network_nodes.specs.declared.node.NetworkNode.{NetworkNode}
use Rattle.network_nodes.specs.contracts.node.NetworkNode as nodes

-- The nodes, by number; the directions that lead away from each, in order; the octets in transit; the links at their present costs; and
-- the clock.
pub record PlaneView : Type 0 where
  pub nodes : List NetworkNode
  pub ways : List (List Direction)
  pub transit : TransitData
  pub core : Topology
  pub clock : ℕ

abbrev pub plane_code : Coded PlaneView
plane_code = code_by (List NetworkNode × (List (List Direction) × (TransitData × (Topology × ℕ))))
    (coded× (coded_list nodes.the_row.coded)
    (coded× (coded_list (coded_list directions.the_row.coded)) (coded× transit_code (coded× cores.the_row.coded coded_ℕ))))
    (λ p. (p.nodes, (p.ways, (p.transit, (p.core, p.clock)))))
    (λ q. record { nodes = q.0; ways = q.1.0; transit = q.1.1.0; core = q.1.1.1.0; clock = q.1.1.1.1 }) (λ _. refl)
