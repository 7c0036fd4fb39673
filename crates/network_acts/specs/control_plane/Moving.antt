-- Octets that are moved over a direction of a session.
use Rattle.std.specs.Prelude.{◌≡◌, ◌<◌, ◌++◌, ℕ, true, false, List, [], ◌∷◌, length, take, Result, Ok, Err, OnOk}
use Rattle.scenario_defs.specs.declared.report.ReportLine.{ReportLine}
use Rattle.scenario_defs.specs.declared.report.ReportLine.TheVariants as lines
use Rattle.scenario_defs.specs.declared.scenario.Scenario.{Scenario}
use Rattle.network_defs.specs.session_defs.Octets.{OctetNetwork}
use Rattle.network_defs.specs.session_defs.System.{Put}
use Rattle.network_defs.specs.declared.session_defs.direction.Direction.{Direction}
use Rattle.mldp_node.specs.declared.fault.NodeFault.{NodeFault}
use Rattle.mldp_node.specs.declared.fault.NodeFault.TheVariants as halts
use Rattle.network_defs.specs.Acts.{put_lines}
use Rattle.network_defs.specs.Costs.{Cores}
use Rattle.network_defs.specs.Nodes.{Nodes}
use Rattle.network_nodes.specs.Faults as faults
use Rattle.network_nodes.specs.Faults.{EdgeFault}
use Rattle.network_acts.specs.control_plane.Acted.{Standing}
use Rattle.network_acts.specs.control_plane.Plane.{IsMidway, IsPlane, Moment}
use Rattle.network_acts.specs.control_plane.PlaneView.{PlaneView}

-- the session of the direction is joined, the receiver's end is up, and the receiver has acted on the present costs
pub record IsMovable (over : Direction) (at : Standing) : Type 0 where
  pub within : over.to.0 < length at.scenario.nodes
  pub current : at.moment.late over.to ≡ false
  pub joined : at.network.joined over ≡ true
  pub up : at.moment.rising over ≡ false

-- the line of octets that are taken over the direction
abbrev pub line_of : Direction → List ℕ → ReportLine
line_of over octets = lines.Take over.kind over.from over.to octets

-- that of the first so many octets in transit
abbrev pub taken_line : Direction → ℕ → Standing → List ReportLine
taken_line over count at = line_of over (take count (at.network.transit over)) ∷ []

-- What comes of a move by what the receiver answered: the line of what it took, and after it the lines of what it puts.
pub record SettlesTaken (over : Direction) (octets : List ℕ) (answer : Result (Unit {0}) EdgeFault) (old new : PlaneView)
    (lines new_lines : List ReportLine) (result : Result (Unit {0}) NodeFault) : Type 0 where
  pub answered : OnOk result (answer ≡ Ok tt)
  pub made : OnOk result ((scenario : Scenario) (cores : Cores) (moment : Moment) (puts : List Put) (network : OctetNetwork Nodes) →
      IsMidway scenario cores moment over.to puts network old →
      IsPlane scenario cores moment network new × (new_lines ≡ (lines ++ line_of over octets ∷ []) ++ put_lines scenario puts))
  pub lacks : result ≡ Err halts.NoLabel → (answer ≡ Err faults.NoLabel) × (new_lines ≡ lines)
