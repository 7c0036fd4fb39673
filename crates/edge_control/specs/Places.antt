-- Which of the trees of an edge a call is for, and a change of one of them.
use Rattle.std.specs.Prelude.{◌≡◌, ℕ, ◌==◌, ◌&&◌, Bool, true, not, nat_le, List, slice_get, slice_set, None, Some}
use Rattle.std.specs.List.{list_any}
use Rattle.std.specs.FinMap as maps
use Rattle.std.specs.FinSet as sets
use Rattle.mv_base.specs.Lists.{Among}
use Rattle.mv_base.specs.declared.addr.Addr.{Addr}
use Rattle.mv_base.specs.declared.ids.IfaceId.{IfaceId}
use Rattle.mv_base.specs.declared.ids.VrfId.{VrfId}
use Rattle.selective_defs.specs.Selective.{free_number}
use Rattle.vrf_words.specs.tree_defs.Trees.{TreeData}
use Rattle.edge_defs.specs.Edge.{Control}
use Rattle.edge_defs.specs.Originated.{is_iface_of}
use Rattle.edge_defs.specs.Place.{OwnVrf, vrfs_from}
use Rattle.edge_defs.specs.Steps.{is_used}
use Rattle.edge_routes.specs.edge_home.Home.{Home}
use Rattle.control_laws.specs.Control.{Kept, OwnTree, trees_of}

-- the VRFs of the edge, in order
abbrev pub vrfs_of : Home → List OwnVrf
vrfs_of home = vrfs_from home.me 0 home.scenario.vrfs

-- whether the interface is one of a VRF of the edge, and whether the VRF is one
abbrev pub is_own_iface : Home → IfaceId → Bool
is_own_iface home iface = list_any (λ own. is_iface_of home.scenario own.id iface) (vrfs_of home)

abbrev pub is_own_vrf : Home → VrfId → Bool
is_own_vrf home vrf = list_any (λ own. own.id.0 == vrf.0) (vrfs_of home)

-- At that place of the edge's VRFs is one that passes the test.
pub record IsPlace (home : Home) (place : ℕ) (test : OwnVrf → Bool) : Type 0 where
  pub own : OwnVrf
  pub at : slice_get (vrfs_of home) place ≡ Some own
  pub passes : test own ≡ true

-- the trees with the one at that place changed
abbrev pub changed_at : ℕ → (TreeData → TreeData) → List TreeData → List TreeData
changed_at place change trees = elim (slice_get trees place) [ None ↦ trees | Some tree ↦ slice_set trees place (change tree) ]

-- ---- readings and limits

-- The tree is that of the VRF.
pub record IsTreeAt (kept : Kept) (vrf : VrfId) (tree : TreeData) : Type 0 where
  pub it : OwnTree
  pub among : Among it (trees_of kept)
  pub id : it.own.id ≡ vrf
  pub is : it.tree ≡ tree

-- the most notes and the most selections of an edge
abbrev pub note_limit : ℕ
note_limit = 256

abbrev pub selection_limit : ℕ
selection_limit = 256

-- whether a note would be one more than an edge holds
abbrev pub is_note_too_many : Control → IfaceId → Addr → Addr → Bool
is_note_too_many control iface source group =
    not (sets.contains control.notes (record { iface = iface; source = source; group = group }))
    && nat_le note_limit (sets.len control.notes)

-- whether a selection would be
abbrev pub is_selection_too_many : Control → Bool
is_selection_too_many control = nat_le selection_limit (maps.len control.selections)

-- the number that a new selection of the VRF gets
abbrev pub number_after : Control → VrfId → ℕ
number_after control vrf =
    free_number (λ number. list_any (is_used vrf number) (maps.entries control.selections)) (maps.len control.selections) 1
