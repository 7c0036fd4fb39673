-- The selective tunnels that flows want of other edges, kept flow by flow.
use Rattle.std.specs.Prelude.{◌≡◌, ℕ, ◌==◌, ◌&&◌, ◌||◌, not, Bool, false, List, map, Option, None, Some}
use Rattle.std.specs.List.{list_any, flat_map}
use Rattle.std.specs.FinMap as maps
use Rattle.std.specs.FinMap.{FinMap}
use Rattle.std.specs.declared.hash.FoldHasher.{FoldHasher}
use Rattle.std.specs.declared.hash.BuildHasherDefault.{BuildHasherDefault}
use Rattle.indexmap.specs.IndexMap.{IndexMap, get, IsUnique}
use Rattle.mv_base.specs.declared.ids.NodeId.{NodeId}
use Rattle.mldp.specs.declared.mldp_fec.fec.Fec.{Fec}
use Rattle.mldp.specs.contracts.mldp_fec.fec.FecPartialEq.TheImpl as fecs_equal
use Rattle.selective_defs.specs.Selective.{matches, wanted}
use Rattle.selective.specs.declared.route_key.Learned.{Learned}
use Rattle.selective.specs.declared.route_key.RouteKey.{RouteKey}
use Rattle.selective.specs.Leaves.{Leaf, is_waiting, peer_routes}
use Rattle.umh_select.specs.declared.route.Choice.{Choice}
use Rattle.vrf_words.specs.declared.tree_defs.flow.Flow.{Flow}
use Rattle.vrf_words.specs.declared.tree_defs.flow.Upstream.{Upstream}
use Rattle.vrf_words.specs.tree_defs.Keys.{flow_cmp, same_flow}
use Rattle.vrf_words.specs.tree_defs.Flows.{upstream_of}
use Rattle.vrf_trees.specs.declared.wants.Wants.{Wants}
use Rattle.vrf_trees.specs.declared.wants.Cause.{Cause}
use Rattle.vrf_trees.specs.declared.wants.Cause.TheVariants as causes

-- a table of what flows want
abbrev pub WantTable : Type 0
WantTable = IndexMap Flow Wants (BuildHasherDefault FoldHasher)

-- whether both are one tunnel, as `==` tells it
abbrev pub is_fec : Fec → Fec → Bool
is_fec = fecs_equal.ghosts.eq

-- whether the tunnel is one of these
abbrev pub is_in : Fec → List Fec → Bool
is_in fec fecs = list_any (is_fec fec) fecs

-- whether a flow wants the tunnel
abbrev pub has_fec : Fec → Wants → Bool
has_fec fec own = is_in fec own.fecs

-- whether what the flow wants is not stale, and the tunnel is one that it wants of the edge
abbrev pub is_known : NodeId → Fec → Option Wants → Bool
is_known edge fec None = false
is_known edge fec (Some own) = not own.stale && (own.edge.0 == edge.0 && has_fec fec own)

-- the tunnels of all flows
abbrev pub tunnels_in : List (Flow × Wants) → List Fec
tunnels_in entries = flat_map (λ (e : Flow × Wants). e.1.fecs) entries

-- ---- what is wanted of an edge

-- the tunnels of the edge that a flow wants, by the routes that were learned
abbrev pub tunnels_of : Leaf → NodeId → Flow → List Fec
tunnels_of leaf edge flow = map (λ route. route.fec) (wanted (peer_routes edge leaf.routes) flow.source flow.group)

abbrev pub wants_of : Leaf → NodeId → Flow → Wants
wants_of leaf edge flow = record { edge = edge; stale = false; fecs = tunnels_of leaf edge flow }

-- what a flow wants by its upstream
abbrev pub wants_by : Leaf → Flow → Option Upstream → Option Wants
wants_by leaf flow None = None
wants_by leaf flow (Some up) = Some (wants_of leaf up.edge flow)

-- ---- marks

-- whether the cause touches the flow, where its upstream is that edge
abbrev pub touches : Cause → Flow → NodeId → Bool
touches (causes.Routes peer pattern) flow edge = edge.0 == peer.0 && matches pattern flow.source flow.group
touches (causes.Peer peer) flow edge = edge.0 == peer.0

-- what the flow wants, marked where a flow whose upstream is its edge is touched
abbrev pub marked_by : (Flow → NodeId → Bool) → Flow → Option Wants → Option Wants
marked_by touched flow None = None
marked_by touched flow (Some own) = Some (record { edge = own.edge; stale = own.stale || touched flow own.edge; fecs = own.fecs })

abbrev pub mark : Cause → Flow → Wants → Wants
mark cause flow own = record { edge = own.edge; stale = own.stale || touches cause flow own.edge; fecs = own.fecs }

abbrev pub marked : Cause → Flow → Option Wants → Option Wants
marked cause = marked_by (touches cause)

-- whether what the flow wants is not stale, and the cause touches it
abbrev pub is_news : Cause → Flow → Wants → Bool
is_news cause flow own = not own.stale && touches cause flow own.edge

-- whether the delay of the route is due and was not run, and the flow is one of its edge and pattern
abbrev pub waits_for : ℕ → ℕ → Flow → NodeId → RouteKey × Learned → Bool
waits_for delay now flow edge route = is_waiting delay now route.1 && touches (causes.Routes route.0.peer route.0.pattern) flow edge

-- what the flow wants, marked where one of the routes is such a one
abbrev pub marked_waiting : ℕ → ℕ → List (RouteKey × Learned) → Flow → Option Wants → Option Wants
marked_waiting delay now routes = marked_by (λ flow edge. list_any (waits_for delay now flow edge) routes)

-- ---- the invariant

abbrev pub edge_in : Option Wants → Option NodeId
edge_in None = None
edge_in (Some own) = Some own.edge

abbrev pub edge_to : Option Upstream → Option NodeId
edge_to None = None
edge_to (Some up) = Some up.edge

abbrev pub is_stale : Option Wants → Bool
is_stale None = false
is_stale (Some own) = own.stale

-- whether what the flow wants is stale in the table
abbrev pub is_stale_in : WantTable → Flow → Bool
is_stale_in wants flow = is_stale (get same_flow wants flow)

-- A flow is there exactly where its upstream is another edge, with that edge; and where it is not stale, it is what is wanted.
pub record Holds (leaf : Leaf) (ups : Flow → Option Upstream) (held : Flow → Option Wants) : Type 0 where
  pub edges : (q : Flow) → edge_in (held q) ≡ edge_to (ups q)
  pub fresh : (q : Flow) → is_stale (held q) ≡ false → held q ≡ wants_by leaf q (ups q)

-- the upstream of each flow
abbrev pub ups_in : FinMap flow_cmp Choice → Flow → Option Upstream
ups_in flows q = upstream_of (maps.get flows q)

-- The table is in step with the flows and with the routes that were learned.
pub record IsSound (leaf : Leaf) (flows : FinMap flow_cmp Choice) (wants : WantTable) : Type 0 where
  pub unique : IsUnique same_flow wants
  pub holds : Holds leaf (ups_in flows) (get same_flow wants)
