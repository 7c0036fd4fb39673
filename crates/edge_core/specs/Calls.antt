-- The calls of an edge that are handed on as values: which calls of the definitions they are, what each asks for, when there is no room for
-- it, and what it answers.
use Rattle.std.specs.Prelude.{◌≡◌, ℕ, Bool, true, false, List, [], ◌∷◌, None, Result, Err, OnOk}
use Rattle.std.specs.FinMap as maps
use Rattle.bgp_messages.specs.bgp_update.Written.{afi_of}
use Rattle.bgp_values.specs.mvpn_nlri.Spelling.{IsAnyOr, IsGroup}
use Rattle.mv_base.specs.core_walks.Topology.{Topology}
use Rattle.pim_defs.specs.Entries.{applied, are_too_many}
use Rattle.edge_defs.specs.Edge.{Control}
use Rattle.edge_defs.specs.Originated.{afi_by}
use Rattle.edge_defs.specs.Steps.{Call, Customer, Active, Idle, Label, Noticed, Pim, Raised, Rerouted, Select, Timers, Unselect, Update}
use Rattle.edge_routing.specs.control_laws.group_laws.Groups.{HasGroups}
use Rattle.edge_routing.specs.edge_control.Places.{is_note_too_many, is_own_iface, is_own_vrf, is_selection_too_many}
use Rattle.mldp_node.specs.NodeData.{NodeData, WaitsTowardRootsOf}
use Rattle.edge_core.specs.declared.edge_call.CustomerCall.{CustomerCall}
use Rattle.edge_core.specs.declared.edge_call.CustomerCall.TheVariants as customers
use Rattle.edge_core.specs.declared.edge_call.EdgeCall.{EdgeCall}
use Rattle.edge_core.specs.declared.edge_call.EdgeCall.TheVariants as edges
use Rattle.edge_core.specs.declared.fault.EdgeFault.{EdgeFault}
use Rattle.edge_core.specs.declared.fault.EdgeFault.TheVariants as faults
use Rattle.edge_core.specs.declared.parts.Parts.{Parts}
use Rattle.edge_core.specs.Answers.{Answers, IsOneOf, OnTaken, step_of}
use Rattle.edge_core.specs.Called.{SettlesCall, going}
use Rattle.edge_core.specs.State.{IsPeer, data_of, home_of, is_up}
use Rattle.edge_core.specs.View.{EdgeView}

-- ---- which calls they are

abbrev pub customer_call : CustomerCall → Call
customer_call (customers.Pim iface message) = Customer (Pim iface message.now)
customer_call (customers.Active iface source group) = Customer (Active iface source group)
customer_call (customers.Idle iface source group) = Customer (Idle iface source group)
customer_call (customers.Select vrf pattern) = Customer (Select vrf pattern)
customer_call (customers.Unselect vrf pattern) = Customer (Unselect vrf pattern)

abbrev pub call_of : EdgeCall → Call
call_of (edges.Customer call) = customer_call call
call_of (edges.Raised kind peer) = Raised kind peer
call_of (edges.Noticed kind peer) = Noticed kind peer
call_of edges.Timers = Timers
call_of edges.Rerouted = Rerouted

-- ---- what they ask for

-- What a call asks of the edge. Interfaces, VRFs and peers are its own; groups are those of their sources' families; a pattern that is to be
-- selected is not, and an end that is to come up is down.
abbrev pub Fits : EdgeView → Call → Type 0
Fits edge (Customer (Pim iface message)) = (is_own_iface (home_of edge) iface ≡ true) × HasGroups message
Fits edge (Customer (Active iface source group)) = (is_own_iface (home_of edge) iface ≡ true) × IsGroup (afi_of source) group
Fits edge (Customer (Idle iface source group)) = (is_own_iface (home_of edge) iface ≡ true) × IsGroup (afi_of source) group
Fits edge (Customer (Select vrf pattern)) =
    (is_own_vrf (home_of edge) vrf ≡ true) × IsAnyOr (IsGroup (afi_by pattern.source pattern.group)) pattern.group
    × (edge.spent ≡ None → maps.get (data_of edge).control.selections (record { vrf = vrf; pattern = pattern }) ≡ None)
Fits edge (Customer (Unselect vrf pattern)) =
    (is_own_vrf (home_of edge) vrf ≡ true) × IsAnyOr (IsGroup (afi_by pattern.source pattern.group)) pattern.group
Fits edge (Raised kind peer) = IsPeer edge kind peer × (edge.spent ≡ None → is_up edge kind peer ≡ false)
Fits edge (Noticed kind peer) = Unit {0}
Fits edge Timers = Unit {0}
Fits edge Rerouted = Unit {0}
Fits edge (Update peer message) = ⊥
Fits edge (Label neighbour message) = ⊥

-- ---- whether there is room

-- whether an edge that keeps this would hold too many entries, notes or selections after the call at the clock
abbrev pub is_full : Control → ℕ → Call → Bool
is_full control now (Customer (Pim iface message)) = are_too_many (applied control.entries iface message now)
is_full control now (Customer (Active iface source group)) = is_note_too_many control iface source group
is_full control now (Customer (Select vrf pattern)) = is_selection_too_many control
is_full control now other = false

-- the faults by which the call may be refused
abbrev pub refusals_of : Call → List EdgeFault
refusals_of (Customer (Pim iface message)) = faults.Full ∷ []
refusals_of (Customer (Active iface source group)) = faults.Full ∷ []
refusals_of (Customer (Select vrf pattern)) = faults.Full ∷ []
refusals_of other = []

-- ---- what they answer

-- after other costs each tree that waits for a label does so towards its root, by them
abbrev pub IsToward : Topology → Call → NodeData → Result (Unit {0}) EdgeFault → Type 0
IsToward core Rerouted labels result = OnOk result (WaitsTowardRootsOf core labels)
IsToward core other labels result = Unit {0}

-- What a call answers and leaves. It is made where there is room, and labels run out only there; it is refused with no change exactly
-- where there is none.
pub record AnswersCall (core : Topology) (now : ℕ) (call : Call) (old new : EdgeView) (result : Result (Unit {0}) EdgeFault) : Type 0 where
  pub answers : Answers core (step_of old now call) old new result
  pub only : IsOneOf (refusals_of call) result
  pub fits : old.spent ≡ None → OnTaken result (is_full (data_of old).control now call ≡ false)
  pub full : result ≡ Err faults.Full → (is_full (data_of old).control now call ≡ true) × (new ≡ old)
  pub toward : IsToward core call new.labels result

-- The same of an edge of these parts, which is not spent.
pub record MakesCall (core : Topology) (now : ℕ) (call : Call) (old new : Parts) (result : Result (Unit {0}) EdgeFault) : Type 0 where
  pub settles : SettlesCall core now call (going old) new result
  pub only : IsOneOf (refusals_of call) result
  pub fits : OnTaken result (is_full (data_of (going old)).control now call ≡ false)
  pub full : result ≡ Err faults.Full → (is_full (data_of (going old)).control now call ≡ true) × (new ≡ old)
  pub toward : IsToward core call new.labels result
