-- What is kept of customers and peers, its code, and what holds of it.
use Rattle.std.specs.Prelude.{◌≡◌, ◌<◌, true, List, length, map, is_some, refl}
use Rattle.std.specs.Coded.{Coded, code_by, coded×, coded_list}
use Rattle.std.specs.List.{AllByRecursion}
use Rattle.std.specs.FinMap as maps
use Rattle.std.specs.FinMap.{FinMap}
use Rattle.std.specs.FinSet.{FinSet}
use Rattle.mv_base.specs.declared.ids.NodeId.{NodeId}
use Rattle.label_defs.specs.Keys.{fec_cmp, node_cmp}
use Rattle.edge_defs.specs.Edge.{Taken}
use Rattle.edge_routes.specs.edge_home.Home.{Home, home_code, IsHome}
use Rattle.vrf_words.specs.tree_defs.Trees.{TreeData}
use Rattle.vrf_trees.specs.Trees.{tree_code}
use Rattle.edge_tables.specs.taken_tables.Tables.{tables_code}
use Rattle.control_laws.specs.Control.{Kept, AreTrees, control_of, with_trees}
use Rattle.control_laws.specs.Customers.{AreSingle}
use Rattle.control_laws.specs.Peers.{AreWritable, as_wanted}

abbrev pub kept_of : Home → List TreeData → FinMap node_cmp Taken → Kept
kept_of home trees peers = record { home = home; trees = trees; peers = peers }

abbrev pub kept_code : Coded Kept
kept_code = code_by (Home × (List TreeData × FinMap node_cmp Taken)) (coded× home_code (coded× (coded_list tree_code) tables_code))
    (λ k. (k.home, (k.trees, k.peers))) (λ p. record { home = p.0; trees = p.1.0; peers = p.1.1 }) (λ _. refl)

-- the tunnels that each of the trees wants
abbrev pub wants_of : List TreeData → List (FinSet fec_cmp)
wants_of trees = map (λ tree. tree.wants) trees

-- no pattern is selected twice in the VRF
abbrev pub IsSingle : TreeData → Type 0
IsSingle tree = AreSingle tree.root.selections

-- The edge is one of its scenario; each tree is that of its VRF, but that what it wants is what its last refresh left; no pattern is
-- selected twice in a VRF; each key of a route that was taken has a spelling; and each peer is a node.
pub record IsSound (kept : Kept) : Type 0 where
  pub home : IsHome kept.home.scenario kept.home.me
  pub trees : AreTrees (with_trees as_wanted kept)
  pub single : AllByRecursion IsSingle kept.trees
  pub spelled : AreWritable (control_of kept)
  pub peers : (peer : NodeId) → is_some (maps.get kept.peers peer) ≡ true → peer.0 < length kept.home.scenario.nodes
