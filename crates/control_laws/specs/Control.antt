-- What an edge keeps of its customers and of its peers, VRF by VRF, and that these are the parts of what the definitions say it keeps.
use Rattle.std.specs.Prelude.{◌≡◌, ℕ, List, [], ◌∷◌, map, slice_set, Option, None, Some}
use Rattle.std.specs.List.{flat_map, AllByRecursion}
use Rattle.std.specs.FinMap as maps
use Rattle.std.specs.FinMap.{FinMap}
use Rattle.std.specs.FinSet as sets
use Rattle.mv_base.specs.declared.ids.VrfId.{VrfId}
use Rattle.selective_defs.specs.declared.selection.Selection.{Selection}
use Rattle.umh_select.specs.declared.route.Choice.{Choice}
use Rattle.umh_select.specs.declared.route.Choice.TheVariants as choices
use Rattle.label_defs.specs.Keys.{node_cmp}
use Rattle.edge_defs.specs.Edge.{VrfPattern, Selected, VrfFlow, Upstream, Site, Remote, Taken, Control}
use Rattle.edge_defs.specs.Place.{OwnVrf, vrfs_from}
use Rattle.edge_routes.specs.edge_home.Home.{Home, place_of}
use Rattle.mv_base.specs.core_walks.Core.{Core}
use Rattle.vrf_words.specs.declared.tree_defs.flow.Flow.{Flow}
use Rattle.vrf_words.specs.tree_defs.Trees.{TreeData}
use Rattle.vrf_words.specs.tree_laws.TreeOf.{IsTreeOf, edge_note, flow_in}

-- What is kept: where the edge is, a tree for each of its VRFs, in their order, and the peers whose session is up, each with the table
-- that was taken from it.
pub record Kept : Type 0 where
  pub home : Home
  pub trees : List TreeData
  pub peers : FinMap node_cmp Taken

-- a VRF with its tree
pub record OwnTree : Type 0 where
  pub own : OwnVrf
  pub tree : TreeData

abbrev pub own_trees : List OwnVrf → List TreeData → List OwnTree
own_trees [] trees = []
own_trees (own ∷ more) [] = []
own_trees (own ∷ more) (tree ∷ trees) = record { own = own; tree = tree } ∷ own_trees more trees

-- the VRFs of the edge, with their trees
abbrev pub trees_of : Kept → List OwnTree
trees_of kept = own_trees (vrfs_from kept.home.me 0 kept.home.scenario.vrfs) kept.trees

-- ---- the parts together

-- the choice of a tree's flow, as the upstream of an edge's flow
abbrev pub upstream_by : Choice → Option Upstream
upstream_by choices.None = None
upstream_by (choices.Local site) = Some (Site site)
upstream_by (choices.Remote edge rd import source_as) =
    Some (Remote edge rd (record { addr = import.0; number = import.1 }) source_as)

abbrev pub flows_by : OwnTree → List (VrfFlow × Option Upstream)
flows_by it = map (λ (entry : Flow × Choice). (flow_in it.own.id entry.0, upstream_by entry.1)) (maps.entries it.tree.vrf.flows)

abbrev pub selected_by : VrfId → Selection → VrfPattern × Selected
selected_by vrf selection = (
  record { vrf = vrf; pattern = selection.pattern },
  record { number = selection.number; since = selection.since; run = selection.run },
)

-- what the definitions of an edge keep, put together from the trees
abbrev pub control_of : Kept → Control
control_of kept = record {
  entries = maps.from_entries (flat_map (λ it. maps.entries it.tree.vrf.entries) (trees_of kept));
  notes = sets.from_list (flat_map (λ it. map edge_note (sets.items it.tree.vrf.notes)) (trees_of kept));
  selections = maps.from_entries (flat_map (λ it. map (selected_by it.own.id) it.tree.root.selections) (trees_of kept));
  flows = maps.from_entries (flat_map flows_by (trees_of kept));
  peers = kept.peers;
}

-- ---- the invariant

-- There is a tree for each VRF, and it keeps what all of this says of the VRF.
pub record AreTrees (kept : Kept) : Type 0 where
  pub each : (core : Core) →
      AllByRecursion (λ it. IsTreeOf (place_of kept.home core) (control_of kept) it.own it.tree) (trees_of kept)
  pub full : map (λ it. it.tree) (trees_of kept) ≡ kept.trees
  pub all : map (λ it. it.own) (trees_of kept) ≡ vrfs_from kept.home.me 0 kept.home.scenario.vrfs

-- the same with another tree of the VRF at that place
abbrev pub with_tree : ℕ → TreeData → Kept → Kept
with_tree number tree kept = record kept { trees = slice_set kept.trees number tree }

-- with each tree changed so
abbrev pub with_trees : (TreeData → TreeData) → Kept → Kept
with_trees change kept = record kept { trees = map change kept.trees }
