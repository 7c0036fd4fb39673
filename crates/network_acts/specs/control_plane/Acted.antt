-- What an act of the control plane leaves and writes.
use Rattle.std.specs.Prelude.{◌≡◌, ◌<◌, ◌++◌, ◌==◌, false, List, [], length, None, Some, Result, Ok, Err, OnOk, if◌then◌else◌}
use Rattle.mv_base.specs.declared.ids.NodeId.{NodeId}
use Rattle.mv_base.specs.declared.memory.NoMemory.{NoMemory}
use Rattle.scenario_defs.specs.declared.report.ReportLine.{ReportLine}
use Rattle.scenario_defs.specs.declared.scenario.Scenario.{Scenario}
use Rattle.network_defs.specs.session_defs.Octets.{OctetAct, OctetNetwork, octet_run}
use Rattle.network_defs.specs.session_defs.System.{Behind, Put}
use Rattle.mldp_node.specs.declared.fault.NodeFault.{NodeFault}
use Rattle.mldp_node.specs.declared.fault.NodeFault.TheVariants as halts
use Rattle.network_defs.specs.Acts.{put_lines}
use Rattle.network_defs.specs.Costs.{Cores}
use Rattle.network_defs.specs.Nodes.{Nodes}
use Rattle.network_defs.specs.System.{NodeCall, system}
use Rattle.network_nodes.specs.Faults as faults
use Rattle.network_nodes.specs.Faults.{EdgeFault}
use Rattle.network_acts.specs.control_plane.Plane.{IsMidway, IsPlane, Moment}
use Rattle.network_acts.specs.control_plane.PlaneView.{PlaneView}

-- ---- which network it is

-- A network of the definitions at a moment, with its scenario and the cores by the costs of links.
pub record Standing : Type 0 where
  pub scenario : Scenario
  pub cores : Cores
  pub moment : Moment
  pub network : OctetNetwork Nodes

abbrev pub IsIn : Standing → PlaneView → Type 0
IsIn at plane = IsPlane at.scenario at.cores at.moment at.network plane

-- the plane is that of some network with which this holds
abbrev pub IsSome : (Standing → Type 0) → PlaneView → Type 0
IsSome Fits plane = (at : Standing) × Fits at × IsIn at plane

-- the node is one of the scenario, and has acted on the present costs
pub record IsCurrent (n : NodeId) (at : Standing) : Type 0 where
  pub within : n.0 < length at.scenario.nodes
  pub current : at.moment.late n ≡ false

-- the node is one of the scenario
abbrev pub IsWithin : NodeId → Standing → Type 0
IsWithin n at = n.0 < length at.scenario.nodes

-- ---- what an act does

-- The acts of the definitions from the network lead to one that the plane is, at that moment; the lines are those of before, these first
-- ones, and those of what was put.
pub record Acted (at : Standing) (moment : Moment) (acts : List (OctetAct NodeCall)) (first lines new_lines : List ReportLine)
    (plane : PlaneView) : Type 0 where
  pub new : Behind (OctetNetwork Nodes)
  pub run : octet_run system at.network acts ≡ Some new
  pub is : IsPlane at.scenario at.cores moment new.network plane
  pub told : new_lines ≡ lines ++ (first ++ put_lines at.scenario new.puts)

-- An act of a node, from every network of which it is the plane and with which this holds. Where it answers Ok it is made; `NoLabel` comes
-- exactly where the definitions have no network after it, and then no line is written. Of want of memory nothing is said.
pub record Acts (Fits : Standing → Type 0) (moment : Moment → Moment) (acts : List (OctetAct NodeCall))
    (first : Standing → List ReportLine) (old new : PlaneView) (lines new_lines : List ReportLine) (result : Result (Unit {0}) NodeFault)
    : Type 0 where
  pub made : OnOk result ((at : Standing) → Fits at → IsIn at old → Acted at (moment at.moment) acts (first at) lines new_lines new)
  pub lacks : result ≡ Err halts.NoLabel →
      (at : Standing) → Fits at → IsIn at old → (octet_run system at.network acts ≡ None) × (new_lines ≡ lines)

-- the moment stays as it is, and no line stands first
abbrev pub same_moment : Moment → Moment
same_moment moment = moment

abbrev pub no_lines : Standing → List ReportLine
no_lines at = []

-- the node has acted on the present costs
abbrev pub with_current : NodeId → Moment → Moment
with_current n moment = record moment { late = λ m. if m.0 == n.0 then false else moment.late m }

-- why the plane goes no further, where a node is spent by the fault
abbrev pub halt_of : EdgeFault → NodeFault
halt_of faults.NoLabel = halts.NoLabel
halt_of other = halts.NoMemory

-- ---- handing out

-- Node n has put something in a network that the plane is, and not handed it out.
abbrev pub IsSomeMidway : NodeId → PlaneView → Type 0
IsSomeMidway n plane =
    (scenario : Scenario) × (cores : Cores) × (moment : Moment) × (puts : List Put) × (network : OctetNetwork Nodes)
    × IsMidway scenario cores moment n puts network plane

-- The node hands out all that it put, and the lines say so; or memory is wanted.
abbrev pub HandsOutAt : NodeId → PlaneView → PlaneView → List ReportLine → List ReportLine → Result (Unit {0}) NoMemory → Type 0
HandsOutAt n old new lines new_lines result =
    OnOk result ((scenario : Scenario) (cores : Cores) (moment : Moment) (puts : List Put) (network : OctetNetwork Nodes) →
    IsMidway scenario cores moment n puts network old →
    IsPlane scenario cores moment network new × (new_lines ≡ lines ++ put_lines scenario puts))

-- what comes of an act of the node by what the node answered
pub record Settles (n : NodeId) (answer : Result (Unit {0}) EdgeFault) (old new : PlaneView) (lines new_lines : List ReportLine)
    (result : Result (Unit {0}) NodeFault) : Type 0 where
  pub answered : OnOk result (answer ≡ Ok tt)
  pub made : OnOk result ((scenario : Scenario) (cores : Cores) (moment : Moment) (puts : List Put) (network : OctetNetwork Nodes) →
      IsMidway scenario cores moment n puts network old →
      IsPlane scenario cores moment network new × (new_lines ≡ lines ++ put_lines scenario puts))
  pub lacks : result ≡ Err halts.NoLabel → (answer ≡ Err faults.NoLabel) × (new_lines ≡ lines)
