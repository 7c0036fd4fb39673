-- What an edge keeps between two refreshes of its flows, and after one (RFC 6513 section 5.1; RFC 6514 section 12.3).
use Rattle.std.specs.Prelude.{◌≡◌, ℕ, ◌+◌, count_by, map}
use Rattle.std.specs.List.{AllByRecursion}
use Rattle.std.specs.FinMap as maps
use Rattle.std.specs.FinMap.{FinMap}
use Rattle.mv_base.specs.declared.ids.NodeId.{NodeId}
use Rattle.mv_base.specs.core_walks.Core.{Core}
use Rattle.label_defs.specs.Keys.{node_cmp}
use Rattle.pim_defs.specs.Entries as entries
use Rattle.selective.specs.Leaves as leaves
use Rattle.selective.specs.Roots as roots
use Rattle.vrf_words.specs.declared.tree_defs.flow.Flow.{Flow}
use Rattle.vrf_words.specs.tree_defs.Flows.{flow_of}
use Rattle.vrf_words.specs.tree_defs.Trees.{TreeData}
use Rattle.edge_defs.specs.Edge.{Control, Taken}
use Rattle.edge_defs.specs.Place.{vrfs_from}
use Rattle.edge_routes.specs.edge_home.Home.{place_of}
use Rattle.vrf_words.specs.tree_laws.Refreshed.{with_flows}
use Rattle.control_laws.specs.Control.{Kept, OwnTree, control_of, trees_of}
use Rattle.control_laws.specs.Peers.{IsTreeBetween}

-- There is a tree for each VRF, and it keeps what all of this says of the VRF, but for what its flows want.
pub record AreTreesBetween (kept : Kept) : Type 0 where
  pub each : (core : Core) →
      AllByRecursion (λ it. IsTreeBetween (place_of kept.home core) (control_of kept) it.own it.tree) (trees_of kept)
  pub full : map (λ it. it.tree) (trees_of kept) ≡ kept.trees
  pub all : map (λ it. it.own) (trees_of kept) ≡ vrfs_from kept.home.me 0 kept.home.scenario.vrfs

-- What is kept is this, and the trees are those of it, but for what their flows want.
pub record MakesBetween (kept : Kept) (control : Control) : Type 0 where
  pub is : control_of kept ≡ control
  pub trees : AreTreesBetween kept

-- The second tree is the first one after a refresh at the clock: it has the flows for which some interface asks, each with its choice by
-- what it costs to reach each edge, and wants what these want. All else is as it was.
pub record IsRefreshed (cost : NodeId → ℕ) (now : ℕ) (old new : TreeData) : Type 0 where
  pub flows : (flow : Flow) → maps.get new.vrf.flows flow ≡ flow_of old.vrf cost now flow
  pub rest : new ≡ with_flows old new.vrf.flows

-- The second tree has the entries, the notes, the flows and the selections of the first one.
pub record KeepsCustomers (old new : TreeData) : Type 0 where
  pub entries : new.vrf.entries ≡ old.vrf.entries
  pub notes : new.vrf.notes ≡ old.vrf.notes
  pub flows : new.vrf.flows ≡ old.vrf.flows
  pub selections : new.root.selections ≡ old.root.selections

-- The second tree keeps these of the VRF's tree, and of the VRF what the edge keeps with those tables of peers.
pub record HasRoutes (kept : Kept) (peers : FinMap node_cmp Taken) (it : OwnTree) (new : TreeData) : Type 0 where
  pub customers : KeepsCustomers it.tree new
  pub tree : (core : Core) → IsTreeBetween (place_of kept.home core) (record (control_of kept) { peers = peers }) it.own new

-- how many timers of a tree are due: of its entries, of its selections, and of the selective routes that it learned
abbrev pub tree_due : ℕ → TreeData → ℕ
tree_due now tree =
    entries.due tree.vrf.entries now
    + (count_by (roots.is_waiting tree.root.delay now) tree.root.selections
    + count_by (leaves.is_waiting tree.leaf.delay now) (maps.values tree.leaf.routes))
