-- Calls of customers and of the operator at an edge, as acts of a network.
use Rattle.std.specs.Prelude.{◌≡◌, true, false, List, Result, Ok, Err}
use Rattle.mv_base.specs.declared.ids.NodeId.{NodeId}
use Rattle.scenario_defs.specs.declared.report.ReportLine.{ReportLine}
use Rattle.edge_defs.specs.Steps.{Call}
use Rattle.mldp_node.specs.declared.fault.NodeFault.{NodeFault}
use Rattle.mldp_node.specs.declared.fault.NodeFault.TheVariants as halts
use Rattle.network_defs.specs.Acts.{At, act}
use Rattle.network_acts.specs.control_plane.Customers.{FitsAt, is_full_at}
use Rattle.network_acts.specs.declared.control_plane.customers.Verdict.{Verdict}
use Rattle.network_acts.specs.declared.control_plane.customers.Verdict.TheVariants as verdicts
use Rattle.network_acts.specs.Acting.{Made}
use Rattle.network_acts.specs.Instant.{Instant, IsWorld, standing_of}
use Rattle.network_acts.specs.NetworkView.{NetworkView}

-- A call at the edge, from every world that the network is and which it fits. It is made where there is room, and is refused with
-- no change where there is none. `NoLabel` comes exactly where there is room and the call lacks a label, and then no line is written. Of
-- want of memory nothing is said.
pub record CustomerActsAs (n : NodeId) (call : Call) (old new : NetworkView) (lines new_lines : List ReportLine)
    (result : Result Verdict NodeFault) : Type 0 where
  pub made : result ≡ Ok verdicts.Made → (at : Instant) → FitsAt n call (standing_of at) → IsWorld at old →
      (is_full_at n call (standing_of at) ≡ false) × Made at at.moment (At n call) lines new_lines new
  pub full : result ≡ Ok verdicts.Full →
      ((at : Instant) → FitsAt n call (standing_of at) → IsWorld at old → is_full_at n call (standing_of at) ≡ true)
      × (new ≡ old) × (new_lines ≡ lines)
  pub lacks : result ≡ Err halts.NoLabel → (at : Instant) → FitsAt n call (standing_of at) → IsWorld at old →
      (is_full_at n call (standing_of at) ≡ false) × (act at.world (At n call) ≡ Err n) × (new_lines ≡ lines)
