-- What an act of a network leaves and writes.
use Rattle.std.specs.Prelude.{◌≡◌, ◌++◌, List, [], Result, Ok, Err, OnOk}
use Rattle.mv_base.specs.declared.ids.NodeId.{NodeId}
use Rattle.mv_base.specs.declared.memory.NoMemory.{NoMemory}
use Rattle.scenario_defs.specs.declared.report.ReportLine.{ReportLine}
use Rattle.mldp_node.specs.declared.fault.NodeFault.{NodeFault}
use Rattle.mldp_node.specs.declared.fault.NodeFault.TheVariants as halts
use Rattle.network_defs.specs.Acts.{Act, Acted, act}
use Rattle.network_acts.specs.control_plane.Plane.{Moment}
use Rattle.network_acts.specs.Instant.{Instant, IsWorld}
use Rattle.network_acts.specs.NetworkView.{NetworkView}

-- The act leads to a world that the network is, at that moment; its lines stand after those of before.
pub record Made (at : Instant) (moment : Moment) (happening : Act) (lines new_lines : List ReportLine) (new : NetworkView)
    : Type 0 where
  pub thereafter : Acted
  pub is : act at.world happening ≡ Ok thereafter
  pub stands : IsWorld (record { cores = at.cores; moment = moment; world = thereafter.world }) new
  pub told : new_lines ≡ lines ++ thereafter.lines

-- The act has no lines.
abbrev pub Passes : Instant → Moment → Act → NetworkView → Type 0
Passes at moment happening new = Made at moment happening [] [] new

-- An act at a node, from every world that the network is and with which this holds. Where it answers Ok it is made; `NoLabel` comes exactly
-- where the act lacks a label at that node, and then no line is written. Of want of memory nothing is said.
pub record ActsAs (Fits : Instant → Type 0) (moment : Moment → Moment) (happening : Act) (n : NodeId) (old new : NetworkView)
    (lines new_lines : List ReportLine) (result : Result (Unit {0}) NodeFault) : Type 0 where
  pub made : OnOk result ((at : Instant) → Fits at → IsWorld at old → Made at (moment at.moment) happening lines new_lines new)
  pub lacks : result ≡ Err halts.NoLabel →
      (at : Instant) → Fits at → IsWorld at old → (act at.world happening ≡ Err n) × (new_lines ≡ lines)

-- An act that lacks no label, which is made where there is memory for it.
abbrev pub PassesAs : (Instant → Type 0) → (Moment → Moment) → Act → NetworkView → NetworkView → Result (Unit {0}) NoMemory → Type 0
PassesAs Fits moment happening old new result =
    OnOk result ((at : Instant) → Fits at → IsWorld at old → Passes at (moment at.moment) happening new)
