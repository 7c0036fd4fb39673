-- What one VRF keeps besides its flows: what it selected as a root, the selective routes that it learned as an egress, the joins of other
-- edges, and the selective tunnels that its flows want (RFC 6514 sections 11.1.3 and 12; RFC 6513 section 7).
use Rattle.std.specs.Prelude.{ℕ, List, [], ◌∷◌, map, Option, None, Some}
use Rattle.std.specs.declared.cmp.Ordering.{Ordering}
use Rattle.std.specs.List.{flat_map}
use Rattle.std.specs.FinMap as maps
use Rattle.std.specs.FinMap.{FinMap}
use Rattle.std.specs.FinSet as sets
use Rattle.std.specs.FinSet.{FinSet}
use Rattle.selective_defs.specs.mldp.declared.mldp_fec.fec.Fec.{Fec}
use Rattle.edge_words.specs.label_defs.Keys.{fec_cmp}
use Rattle.selective_defs.specs.Selective.{wanted}
use Rattle.selective.specs.Roots.{Root}
use Rattle.selective.specs.Leaves.{Leaf, peer_routes}
use Rattle.umh_select.specs.declared.route.Choice.{Choice}
use Rattle.umh_select.specs.declared.route.Choice.TheVariants as choices
use Rattle.vrf_words.specs.declared.tree_defs.flow.Flow.{Flow}
use Rattle.vrf_words.specs.declared.tree_defs.flow.TakenJoin.{TakenJoin}
use Rattle.vrf_words.specs.tree_defs.Flows.{VrfData}
use Rattle.vrf_words.specs.tree_defs.Keys.{parts_cmp, flow_parts, flow_cmp}

-- the order of the joins of other edges
abbrev pub join_cmp : TakenJoin → TakenJoin → Ordering
join_cmp a b = parts_cmp ((a.peer.0 ∷ []) ∷ flow_parts a.flow) ((b.peer.0 ∷ []) ∷ flow_parts b.flow)

-- What one VRF keeps: its customers, its routes and its flows; its selections as a root; the selective routes that it learned as an
-- egress; the Source Tree Joins of other edges; and the selective tunnels that its flows wanted at the last refresh.
pub record TreeData : Type 0 where
  pub vrf : VrfData
  pub root : Root
  pub leaf : Leaf
  pub joined : FinSet join_cmp
  pub wants : FinSet fec_cmp

-- the selective tunnels that a flow wants: those of the edge that it chooses alone
abbrev pub flow_wants : Leaf → Flow → Choice → List Fec
flow_wants leaf flow (choices.Remote edge rd import source_as) =
    map (λ route. route.fec) (wanted (peer_routes edge leaf.routes) flow.source flow.group)
flow_wants leaf flow other = []

-- those that the flows want, each with its choice
abbrev pub wanted_by : Leaf → FinMap flow_cmp Choice → List Fec
wanted_by leaf flows = flat_map (λ entry. flow_wants leaf entry.0 entry.1) (maps.entries flows)
