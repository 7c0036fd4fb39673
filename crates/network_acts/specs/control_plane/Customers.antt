-- Calls of customers and of the operator at the edge of an interface or of a VRF: what they leave and write, and when there is no room.
use Rattle.std.specs.Prelude.{◌≡◌, Bool, true, false, List, [], ◌∷◌, None, Some, Result, Ok, Err}
use Rattle.std.specs.FinMap as maps
use Rattle.mv_base.specs.declared.ids.IfaceId.{IfaceId}
use Rattle.mv_base.specs.declared.ids.NodeId.{NodeId}
use Rattle.mv_base.specs.declared.ids.VrfId.{VrfId}
use Rattle.pim_joinprune.specs.Spelling.{IsJoinPrune}
use Rattle.scenario_defs.specs.Vpn.{edge_of}
use Rattle.scenario_defs.specs.declared.report.ReportLine.{ReportLine}
use Rattle.network_defs.specs.session_defs.Octets as octets
use Rattle.network_defs.specs.session_defs.Octets.{octet_run}
use Rattle.edge_defs.specs.Edge.{Control}
use Rattle.edge_defs.specs.Steps.{Call, Customer, Active, Idle, Pim, Select, Unselect}
use Rattle.mldp_node.specs.declared.fault.NodeFault.{NodeFault}
use Rattle.mldp_node.specs.declared.fault.NodeFault.TheVariants as halts
use Rattle.network_defs.specs.Refusals.{control_of, edge_of_vrf}
use Rattle.network_defs.specs.System.{Own, system}
use Rattle.network_laws.specs.Honest.{SoundMessage}
use Rattle.network_laws.specs.Sound.{IsFlow, SoundPattern}
use Rattle.network_nodes.specs.Edges.{is_full}
use Rattle.network_nodes.specs.Faults as faults
use Rattle.network_nodes.specs.Faults.{EdgeFault}
use Rattle.network_acts.specs.control_plane.Acted.{Acted, IsCurrent, IsIn, Settles, Standing}
use Rattle.network_acts.specs.control_plane.PlaneView.{PlaneView}
use Rattle.network_acts.specs.declared.control_plane.customers.Verdict.{Verdict}
use Rattle.network_acts.specs.declared.control_plane.customers.Verdict.TheVariants as verdicts

-- ---- at which edge

-- the node is the edge of the interface, and has acted on the present costs
pub record IsIfaceEdge (n : NodeId) (iface : IfaceId) (at : Standing) : Type 0 where
  pub node : IsCurrent n at
  pub edge : edge_of at.scenario iface ≡ Some n

-- the node is the edge of the VRF, and has acted on the present costs
pub record IsVrfEdge (n : NodeId) (vrf : VrfId) (at : Standing) : Type 0 where
  pub node : IsCurrent n at
  pub edge : edge_of_vrf at.scenario vrf ≡ Some n

-- what the node keeps
abbrev pub control_at : NodeId → Standing → Control
control_at n at = control_of (at.network.state.node n)

-- What a call asks of the network. The node is the edge of the interface or of the VRF, and the call is of sound values; a message can be
-- written, and a pattern that is to be selected is not.
abbrev pub FitsAt : NodeId → Call → Standing → Type 0
FitsAt n (Customer (Pim iface message)) at = IsIfaceEdge n iface at × IsJoinPrune message × SoundMessage message
FitsAt n (Customer (Active iface source group)) at = IsIfaceEdge n iface at × IsFlow source group
FitsAt n (Customer (Idle iface source group)) at = IsIfaceEdge n iface at × IsFlow source group
FitsAt n (Customer (Select vrf pattern)) at =
    IsVrfEdge n vrf at × SoundPattern pattern
    × (maps.get (control_at n at).selections (record { vrf = vrf; pattern = pattern }) ≡ None)
FitsAt n (Customer (Unselect vrf pattern)) at = IsVrfEdge n vrf at × SoundPattern pattern
FitsAt n other at = ⊥

-- whether the node has no room for the call
abbrev pub is_full_at : NodeId → Call → Standing → Bool
is_full_at n call at = is_full (control_at n at) at.network.state.clock call

-- ---- what a call does

-- A call at the node, from every network of which it is the plane and which it fits. It is made where there is room, and is refused with
-- no change where there is none. `NoLabel` comes exactly where there is room and the definitions have no network after the call, and
-- then no line is written. Of want of memory nothing is said.
pub record CustomerActs (n : NodeId) (call : Call) (old new : PlaneView) (lines new_lines : List ReportLine)
    (result : Result Verdict NodeFault) : Type 0 where
  pub made : result ≡ Ok verdicts.Made → (at : Standing) → FitsAt n call at → IsIn at old →
      (is_full_at n call at ≡ false) × Acted at at.moment (octets.Call (Own n call) ∷ []) [] lines new_lines new
  pub full : result ≡ Ok verdicts.Full →
      ((at : Standing) → FitsAt n call at → IsIn at old → is_full_at n call at ≡ true) × (new ≡ old) × (new_lines ≡ lines)
  pub lacks : result ≡ Err halts.NoLabel → (at : Standing) → FitsAt n call at → IsIn at old →
      (is_full_at n call at ≡ false) × (octet_run system at.network (octets.Call (Own n call) ∷ []) ≡ None) × (new_lines ≡ lines)

-- What comes of such a call by what the node answered: it is refused where there is no room, and otherwise the node's answer is settled.
pub record SettlesCustomer (n : NodeId) (answer : Result (Unit {0}) EdgeFault) (old new : PlaneView) (lines new_lines : List ReportLine)
    (result : Result Verdict NodeFault) : Type 0 where
  pub made : result ≡ Ok verdicts.Made → Settles n answer old new lines new_lines (Ok tt)
  pub full : result ≡ Ok verdicts.Full → (answer ≡ Err faults.Full) × (new ≡ old) × (new_lines ≡ lines)
  pub lacks : result ≡ Err halts.NoLabel → (answer ≡ Err faults.NoLabel) × (new_lines ≡ lines)
