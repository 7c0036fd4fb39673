-- What the calls of an edge answer, and what they leave.
use Rattle.std.specs.Prelude.{◌≡◌, ℕ, List, ◌∷◌, Option, None, Some, Result, Ok, Err, OnOk}
use Rattle.std.specs.FinMap as maps
use Rattle.std.specs.FinMap.{FinMap}
use Rattle.mv_base.specs.Lists.{Among}
use Rattle.mv_base.specs.core_walks.Core.{Core, IsCoreOf}
use Rattle.mv_base.specs.core_walks.Topology.{Topology}
use Rattle.mv_base.specs.framing.Feed.{unfed}
use Rattle.label_defs.specs.Node.{Spent, LacksLabel, LacksMemory}
use Rattle.mldp_node.specs.NodeData.{KeepsWaitingTowardRoots}
use Rattle.network_defs.specs.session_defs.Octets.{Stream}
use Rattle.network_defs.specs.session_defs.PeerSession.{peer_cmp}
use Rattle.edge_defs.specs.Steps.{Call, Raised, Noticed}
use Rattle.edge_routes.specs.edge_home.Home.{place_of}
use Rattle.network_defs.specs.node_defs.EdgeState.{EdgeState, called}
use Rattle.edge_core.specs.declared.fault.EdgeFault.{EdgeFault}
use Rattle.edge_core.specs.declared.fault.EdgeFault.TheVariants as faults
use Rattle.edge_core.specs.State.{IsIn, home_of}
use Rattle.edge_core.specs.View.{EdgeView}

-- what an edge answers that is spent
abbrev pub fault_of : Spent → EdgeFault
fault_of LacksLabel = faults.NoLabel
fault_of LacksMemory = faults.NoMemory

-- why an edge is spent after an answer, if it is
abbrev pub spent_by : EdgeFault → Option Spent
spent_by faults.NoLabel = Some LacksLabel
spent_by faults.NoMemory = Some LacksMemory
spent_by other = None

-- the streams after a call: an end that comes up has a fresh one, and one that notices a loss has none
abbrev pub streams_after : Call → FinMap peer_cmp Stream → FinMap peer_cmp Stream
streams_after (Raised kind peer) streams = maps.insert streams (record { kind = kind; peer = peer }) unfed
streams_after (Noticed kind peer) streams = maps.remove streams (record { kind = kind; peer = peer })
streams_after other streams = streams

-- each edge that it is in the definitions becomes this one by the step, whichever core of these links it is given
abbrev pub Makes : Topology → (Core → EdgeState → EdgeState) → EdgeView → EdgeView → Type 0
Makes core step old new =
    (own : Core) → IsCoreOf core.nodes core.links own → (state : EdgeState) → IsIn state old → IsIn (step own state) new

-- each edge that it is in the definitions lacks a label after the step
abbrev pub Lacks : Topology → (Core → EdgeState → EdgeState) → EdgeView → Type 0
Lacks core step old =
    (own : Core) → IsCoreOf core.nodes core.links own → (state : EdgeState) → IsIn state old → (step own state).spent ≡ Some LacksLabel

-- What a call answers and leaves. A spent edge answers the same as before, and stays. Otherwise an edge that answers Ok made the step.
-- `NoLabel` comes only where there is none; of want of memory no more is said than that the edge is spent. Where each tree that waits for a
-- label did so towards its root, it does so still.
pub record Answers (core : Topology) (step : Core → EdgeState → EdgeState) (old new : EdgeView)
    (result : Result (Unit {0}) EdgeFault) : Type 0 where
  pub home : home_of new ≡ home_of old
  pub before : (spent : Spent) → old.spent ≡ Some spent → (result ≡ Err (fault_of spent)) × (new ≡ old)
  pub unspent : OnOk result (old.spent ≡ None)
  pub made : OnOk result (Makes core step old new)
  pub goes_on : OnOk result (new.spent ≡ None)
  pub toward : new.spent ≡ None → KeepsWaitingTowardRoots core old.labels new.labels
  pub lacks : result ≡ Err faults.NoLabel → old.spent ≡ None → Lacks core step old
  pub spends : (fault : EdgeFault) → result ≡ Err fault → old.spent ≡ None → new.spent ≡ spent_by fault

-- the step of a call, at a clock
abbrev pub step_of : EdgeView → ℕ → Call → Core → EdgeState → EdgeState
step_of edge now call own state = called (place_of (home_of edge) own) now state call

-- each fault is one of these, or one by which the edge is spent
abbrev pub IsOneOf : List EdgeFault → Result (Unit {0}) EdgeFault → Type 0
IsOneOf refusals result = (fault : EdgeFault) → result ≡ Err fault → Among fault (faults.NoLabel ∷ faults.NoMemory ∷ refusals)

-- this holds where the call is made, and where a label is wanted for it
abbrev pub OnTaken : Result (Unit {0}) EdgeFault → Type 0 → Type 0
OnTaken (Ok done) Fact = Fact
OnTaken (Err faults.NoLabel) Fact = Fact
OnTaken (Err other) Fact = Unit {0}
