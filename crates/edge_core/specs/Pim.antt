-- What taking the octets of a Join/Prune message answers.
use Rattle.std.specs.Prelude.{◌≡◌, ℕ, Bool, not, List, Option, None, Some, Result, Ok, Err, if◌then◌else◌}
use Rattle.mv_base.specs.Address.{same_addr}
use Rattle.mv_base.specs.declared.ids.IfaceId.{IfaceId}
use Rattle.mv_base.specs.core_walks.Topology.{Topology}
use Rattle.label_defs.specs.Node.{Spent}
use Rattle.scenario_defs.specs.declared.scenario.Scenario.{Scenario}
use Rattle.pim_joinprune.specs.declared.fault.PimFault.{PimFault}
use Rattle.pim_joinprune.specs.declared.message.JoinPrune.{JoinPrune}
use Rattle.pim_joinprune.specs.Reading.{decoded}
use Rattle.pim_defs.specs.Entries.{applied, are_too_many}
use Rattle.network_defs.specs.mvpn_model.Messages.{own_addr}
use Rattle.edge_defs.specs.Steps.{Customer, Pim}
use Rattle.edge_core.specs.declared.fault.EdgeFault.{EdgeFault}
use Rattle.edge_core.specs.declared.fault.EdgeFault.TheVariants as faults
use Rattle.edge_core.specs.Answers.{Answers, OnTaken, fault_of, spent_by, step_of}
use Rattle.edge_core.specs.State.{data_of, home_of}
use Rattle.edge_core.specs.View.{EdgeView}

-- whether the message is for the interface: its upstream neighbour is that interface's own address (RFC 7761 section 4.9.5)
abbrev pub is_ours : Scenario → IfaceId → JoinPrune → Bool
is_ours scenario iface message = same_addr message.neighbour (own_addr scenario iface)

-- whether the edge would hold too many entries after the message
abbrev pub is_over : EdgeView → ℕ → IfaceId → JoinPrune → Bool
is_over edge now iface message = are_too_many (applied (data_of edge).control.entries iface message now)

-- the fault is the first one of the octets, by what they are read as
abbrev pub IsPimFault : EdgeFault → Result JoinPrune (ℕ × PimFault) → Type 0
IsPimFault told read = (place : ℕ) × (fault : PimFault) × (told ≡ faults.Pim place fault) × (read ≡ Err (place, fault))

-- Why the octets are refused, if they are: the first fault, a message for another router, or too many entries.
abbrev pub refusal : EdgeView → ℕ → IfaceId → Result JoinPrune (ℕ × PimFault) → Option EdgeFault
refusal edge now iface (Err fault) = Some (faults.Pim fault.0 fault.1)
refusal edge now iface (Ok message) =
    if not (is_ours (home_of edge).scenario iface message) then Some faults.NotOurs else
    if is_over edge now iface message then Some faults.Full else None

-- What is answered and left. A spent edge answers the same as before, and stays. Octets that are refused are answered so, unless memory is
-- wanted, and change nothing. Others are a message, and its step is made.
pub record AnswersPim (core : Topology) (now : ℕ) (iface : IfaceId) (octets : List ℕ) (old new : EdgeView)
    (result : Result (Unit {0}) EdgeFault) : Type 0 where
  pub answers : (message : JoinPrune) → decoded octets ≡ Ok message → Answers core (step_of old now (Customer (Pim iface message))) old new result
  pub home : home_of new ≡ home_of old
  pub before : (spent : Spent) → old.spent ≡ Some spent → (result ≡ Err (fault_of spent)) × (new ≡ old)
  pub spends : (fault : EdgeFault) → result ≡ Err fault → old.spent ≡ None → new.spent ≡ spent_by fault
  pub made : old.spent ≡ None →
      OnTaken result ((message : JoinPrune) × (decoded octets ≡ Ok message) × (refusal old now iface (decoded octets) ≡ None))
  pub refused : (fault : EdgeFault) → result ≡ Err fault → spent_by fault ≡ None →
      (refusal old now iface (decoded octets) ≡ Some fault) × (new ≡ old)
