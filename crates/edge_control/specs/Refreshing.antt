-- What a refresh of all flows changes: joins of flows towards other edges, and tunnels that are wanted (RFC 6514 section 11.1.3).
use Rattle.std.specs.Prelude.{◌≡◌, ◌⊎◌, false, List, option_map, Option, None, Some}
use Rattle.std.specs.List.{AllZip, list_any}
use Rattle.std.specs.FinMap.{FinMap, get}
use Rattle.std.specs.FinSet as sets
use Rattle.mv_base.specs.Lists.{Among}
use Rattle.mldp.specs.declared.mldp_fec.fec.Fec.{Fec}
use Rattle.label_defs.specs.LabelData.{same_fec}
use Rattle.vrf_words.specs.declared.tree_defs.flow.Flow.{Flow}
use Rattle.vrf_words.specs.tree_defs.Flows.{upstream_of}
use Rattle.vrf_words.specs.tree_defs.Trees.{TreeData}
use Rattle.vrf_trees.specs.declared.changes.TreeJoin.{TreeJoin}
use Rattle.vrf_trees.specs.Changes.{join_of}
use Rattle.edge_defs.specs.Edge.{Remote, Upstream, VrfFlow, flow_cmp}

-- ---- all flows of an edge

-- the join of an edge's flow with that upstream
abbrev pub join_at : VrfFlow → Option (Option Upstream) → Option TreeJoin
join_at flow (Some (Some (Remote edge rd import source_as))) =
    Some (record {
      edge = edge;
      rd = rd;
      import = (import.addr, import.number);
      source_as = source_as;
      source = flow.source;
      group = flow.group;
    })
join_at flow other = None

-- Each join that a flow has after the refresh and had not before is listed, and so is each that it had and has no more; and each that is
-- listed is one of a flow before or after.
pub record AreChanged (old new : FinMap flow_cmp (Option Upstream)) (joins : List TreeJoin) : Type 0 where
  pub made : (flow : VrfFlow) (join : TreeJoin) → join_at flow (get new flow) ≡ Some join
      → (join_at flow (get old flow) ≡ Some join) ⊎ Among join joins
  pub left : (flow : VrfFlow) (join : TreeJoin) → join_at flow (get old flow) ≡ Some join
      → (join_at flow (get new flow) ≡ Some join) ⊎ Among join joins
  pub each : (join : TreeJoin) → Among join joins
      → (flow : VrfFlow) × ((join_at flow (get old flow) ≡ Some join) ⊎ (join_at flow (get new flow) ≡ Some join))

-- Each tunnel that one of the trees wants before and none after, or the other way round, is listed.
abbrev pub AreTold : List TreeData → List TreeData → List Fec → Type 0
AreTold old new fecs = (fec : Fec) → list_any (same_fec fec) fecs ≡ false
    → list_any (λ tree. sets.contains tree.wants fec) old ≡ list_any (λ tree. sets.contains tree.wants fec) new

-- ---- tree by tree

-- the join of a tree's flow
abbrev pub tree_join : TreeData → Flow → Option TreeJoin
tree_join tree flow = option_map (λ up. join_of (flow, up)) (upstream_of (get tree.vrf.flows flow))

-- Each join that one of the two trees has and the other one has not is listed.
pub record AreMoved (joins : List TreeJoin) (old new : TreeData) : Type 0 where
  pub made : (flow : Flow) (join : TreeJoin) → tree_join new flow ≡ Some join → (tree_join old flow ≡ Some join) ⊎ Among join joins
  pub left : (flow : Flow) (join : TreeJoin) → tree_join old flow ≡ Some join → (tree_join new flow ≡ Some join) ⊎ Among join joins

-- One of the trees has the join.
pub record HasJoin (trees : List TreeData) (join : TreeJoin) : Type 0 where
  pub tree : TreeData
  pub among : Among tree trees
  pub flow : Flow
  pub has : tree_join tree flow ≡ Some join

-- So of the trees one by one; and each join that is listed is one of them before or after.
pub record AreAllMoved (old new : List TreeData) (joins : List TreeJoin) : Type 0 where
  pub moved : AllZip (AreMoved joins) old new
  pub each : (join : TreeJoin) → Among join joins → HasJoin old join ⊎ HasJoin new join

-- The second tree is the first one but for its flows and for what they want.
abbrev pub IsRestOf : TreeData → TreeData → Type 0
IsRestOf old new = new ≡ record old { vrf = record old.vrf { flows = new.vrf.flows }; wants = new.wants }
