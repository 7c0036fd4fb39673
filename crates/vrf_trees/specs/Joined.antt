-- The joins of other edges, and their flows.
use Rattle.std.specs.Prelude.{◌≡◌, Bool, List}
use Rattle.std.specs.List.{list_any}
use Rattle.std.specs.FinSet as sets
use Rattle.std.specs.FinSet.{FinSet}
use Rattle.std.specs.Coded.{Coded}
use Rattle.mv_base.specs.declared.addr.Addr.{Addr}
use Rattle.mv_base.specs.declared.ids.NodeId.{NodeId}
use Rattle.vrf_words.specs.declared.tree_defs.flow.Flow.{Flow}
use Rattle.vrf_words.specs.declared.tree_defs.flow.TakenJoin.{TakenJoin}
use Rattle.vrf_words.specs.contracts.tree_defs.flow.TakenJoin as joins
use Rattle.vrf_words.specs.tree_defs.Keys.{same_flow}
use Rattle.vrf_words.specs.tree_defs.Trees.{join_cmp}
use Rattle.vrf_flows.specs.State.{flow_by_addrs}

abbrev pub joins_code : Coded (FinSet join_cmp)
joins_code = sets.code joins.the_row.coded

-- the join of the peer
abbrev pub join_by : NodeId → Addr → Addr → TakenJoin
join_by peer source group = record { peer = peer; flow = flow_by_addrs source group }

-- whether the join is for the flow
abbrev pub is_for : Flow → TakenJoin → Bool
is_for flow join = same_flow join.flow flow

-- whether some peer has joined the flow
abbrev pub is_joined : FinSet join_cmp → Flow → Bool
is_joined joined flow = list_any (is_for flow) (sets.items joined)

-- The flows are those of the joins.
abbrev pub AreFlowsOf : List Flow → List TakenJoin → Type 0
AreFlowsOf flows taken = (q : Flow) → list_any (same_flow q) flows ≡ list_any (is_for q) taken
