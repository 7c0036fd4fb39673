-- Octets that a node hands out over its directions, one after another.
use Rattle.std.specs.Prelude.{◌≡◌, ℕ, ◌++◌, List, [], ◌∷◌, if◌then◌else◌}
use Rattle.scenario_defs.specs.declared.report.ReportLine.{ReportLine}
use Rattle.scenario_defs.specs.declared.report.ReportLine.TheVariants as lines
use Rattle.network_defs.specs.session_defs.Message.{same_direction}
use Rattle.network_defs.specs.declared.session_defs.direction.Direction.{Direction}
use Rattle.net_sessions.specs.session_transit.TransitData.{TransitData, is_joined_at, octets_at}
use Rattle.network_nodes.specs.wire_laws.AnyNodes.{AnyNode}
use Rattle.network_nodes.specs.NodeView.{IsNode, handed_by, waiting_in}
use Rattle.network_nodes.specs.declared.node.NetworkNode.{NetworkNode}

-- the octets that wait for the session of a direction
abbrev pub octets_for : AnyNode → Direction → List ℕ
octets_for state way = waiting_in state way.kind way.to

-- the node once they are handed out
abbrev pub handed_over : AnyNode → Direction → AnyNode
handed_over state way = handed_by state way.kind way.to

abbrev pub handed_all : AnyNode → List Direction → AnyNode
handed_all state [] = state
handed_all state (way ∷ more) = handed_all (handed_over state way) more

-- the line of octets that go over a direction, where there are some
abbrev pub octets_line : Direction → List ℕ → List ReportLine
octets_line way octets = elim octets [ [] ↦ [] | octet ∷ more ↦ lines.Put way.kind way.from way.to (octet ∷ more) ∷ [] ]

abbrev pub handing_lines : AnyNode → List Direction → List ReportLine
handing_lines state [] = []
handing_lines state (way ∷ more) = octets_line way (octets_for state way) ++ handing_lines (handed_over state way) more

-- what goes over a direction
abbrev pub handing_over : AnyNode → List Direction → Direction → List ℕ
handing_over state [] over = []
handing_over state (way ∷ more) over =
    (if same_direction way over then octets_for state way else []) ++ handing_over (handed_over state way) more over

-- What waits in the node for these directions was handed out, in their order: nothing is left of it, it goes after what is in transit
-- where the session is joined, and each direction over which octets go has its line.
pub record HandsOut (ways : List Direction) (state : AnyNode) (node : NetworkNode) (old new : TransitData) (lines new_lines : List ReportLine)
    : Type 0 where
  pub is : IsNode (handed_all state ways) node
  pub joined : (over : Direction) → is_joined_at new over ≡ is_joined_at old over
  pub octets : (over : Direction) → octets_at new over ≡
      (if is_joined_at old over then octets_at old over ++ handing_over state ways over else octets_at old over)
  pub told : new_lines ≡ lines ++ handing_lines state ways
