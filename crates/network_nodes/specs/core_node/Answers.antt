-- What the calls of a core node answer, and what they leave.
use Rattle.std.specs.Prelude.{◌≡◌, ℕ, [], ◌∷◌, Option, None, Some, Result, Err, OnOk}
use Rattle.mv_base.specs.Lists.{Among}
use Rattle.mv_base.specs.core_walks.Core.{Core, IsCoreOf}
use Rattle.mv_base.specs.core_walks.Topology.{Topology}
use Rattle.label_defs.specs.Node.{Spent, LacksLabel, LacksMemory}
use Rattle.label_defs.specs.Steps.{Call}
use Rattle.mldp_node.specs.NodeData.{KeepsWaitingTowardRoots}
use Rattle.wire_laws.specs.CoreNodes.{CoreState, core_called}
use Rattle.network_nodes.specs.declared.core_node.fault.CoreFault.{CoreFault}
use Rattle.network_nodes.specs.declared.core_node.fault.CoreFault.TheVariants as faults
use Rattle.network_nodes.specs.core_node.View.{CoreView, state_of}

-- what a node answers that is spent
abbrev pub fault_of : Spent → CoreFault
fault_of LacksLabel = faults.NoLabel
fault_of LacksMemory = faults.NoMemory

-- why a node is spent after an answer, if it is
abbrev pub spent_by : CoreFault → Option Spent
spent_by faults.NoLabel = Some LacksLabel
spent_by faults.NoMemory = Some LacksMemory
spent_by other = None

-- the node became this one by the step, whichever core of these links it is given
abbrev pub Makes : Topology → (Core → CoreState → CoreState) → CoreView → CoreView → Type 0
Makes core step old new = (own : Core) → IsCoreOf core.nodes core.links own → state_of new ≡ step own (state_of old)

-- What a call answers and leaves. A spent node answers the same as before, and stays. Otherwise a node that answers Ok made the step.
-- `NoLabel` comes only where there is none; of want of memory no more is said than that the node is spent. Where each tree that waits for a
-- label did so towards its root, it does so still.
pub record Answers (core : Topology) (step : Core → CoreState → CoreState) (old new : CoreView)
    (result : Result (Unit {0}) CoreFault) : Type 0 where
  pub place : new.labels.place ≡ old.labels.place
  pub before : (spent : Spent) → old.labels.node.spent ≡ Some spent → (result ≡ Err (fault_of spent)) × (new ≡ old)
  pub unspent : OnOk result (old.labels.node.spent ≡ None)
  pub made : OnOk result (Makes core step old new)
  pub goes_on : OnOk result (new.labels.node.spent ≡ None)
  pub toward : new.labels.node.spent ≡ None → KeepsWaitingTowardRoots core old.labels new.labels
  pub lacks : result ≡ Err faults.NoLabel → old.labels.node.spent ≡ None →
      (own : Core) → IsCoreOf core.nodes core.links own → (step own (state_of old)).node.spent ≡ Some LacksLabel
  pub spends : (fault : CoreFault) → result ≡ Err fault → old.labels.node.spent ≡ None → new.labels.node.spent ≡ spent_by fault

-- the step of a call, at a clock
abbrev pub step_of : CoreView → ℕ → Call → Core → CoreState → CoreState
step_of view now call own state = core_called view.labels.place own now state call

-- each fault is one by which the node is spent
abbrev pub IsSpending : Result (Unit {0}) CoreFault → Type 0
IsSpending result = (fault : CoreFault) → result ≡ Err fault → Among fault (faults.NoLabel ∷ faults.NoMemory ∷ [])
