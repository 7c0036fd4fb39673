-- What changed since the last refresh, as lists.
use Rattle.std.specs.Prelude.{◌≡◌, ◌&&◌, not, List, [], ◌∷◌, map, Option, None, Some, if◌then◌else◌}
use Rattle.std.specs.List.{IsDistinct}
use Rattle.std.specs.FinSet as sets
use Rattle.std.specs.FinSet.{FinSet}
use Rattle.mldp.specs.declared.mldp_fec.fec.Fec.{Fec}
use Rattle.label_defs.specs.Keys.{fec_cmp}
use Rattle.vrf_words.specs.declared.tree_defs.flow.Flow.{Flow}
use Rattle.vrf_words.specs.declared.tree_defs.flow.Upstream.{Upstream}
use Rattle.vrf_words.specs.tree_defs.Keys.{same_flow}
use Rattle.vrf_trees.specs.declared.changes.TreeJoin.{TreeJoin}
use Rattle.vrf_trees.specs.Wants.{is_fec, is_in}

-- ---- joins

-- the flow of a join, and the upstream that it is for
abbrev pub flow_in : TreeJoin → Flow
flow_in join = record { source = join.source; group = join.group }

abbrev pub up_in : TreeJoin → Upstream
up_in join = record { edge = join.edge; rd = join.rd; import = join.import; source_as = join.source_as }

-- the join of a flow for its upstream
abbrev pub join_of : Flow × Upstream → TreeJoin
join_of entry = record {
  edge = entry.1.edge;
  rd = entry.1.rd;
  import = entry.1.import;
  source_as = entry.1.source_as;
  source = entry.0.source;
  group = entry.0.group;
}

-- the upstream of the first join of the flow
abbrev pub joined_at : List TreeJoin → Flow → Option Upstream
joined_at [] flow = None
joined_at (join ∷ more) flow = if same_flow flow (flow_in join) then Some (up_in join) else joined_at more flow

-- The joins are those of all flows for which an upstream is given, each for that upstream and once.
pub record AreJoins (joins : List TreeJoin) (given : Flow → Option Upstream) : Type 0 where
  pub each : (q : Flow) → joined_at joins q ≡ given q
  pub once : IsDistinct same_flow (map flow_in joins)

-- ---- tunnels

-- The tunnels are those that are wanted after a change and were not before it, each once.
pub record AreNew (fecs : List Fec) (before after : FinSet fec_cmp) : Type 0 where
  pub each : (fec : Fec) → is_in fec fecs ≡ (sets.contains after fec && not (sets.contains before fec))
  pub once : IsDistinct is_fec fecs
