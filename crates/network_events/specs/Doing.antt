-- What is done to a network: a row of acts, with its lines, or one that lacks a label.
use Rattle.std.specs.Prelude.{◌≡◌, ◌++◌, List, Result, Ok, Err, OnOk}
use Rattle.mv_base.specs.declared.ids.NodeId.{NodeId}
use Rattle.scenario_defs.specs.declared.report.ReportLine.{ReportLine}
use Rattle.mldp_node.specs.declared.fault.NodeFault.{NodeFault}
use Rattle.mldp_node.specs.declared.fault.NodeFault.TheVariants as faults
use Rattle.network_defs.specs.Events.{Happened, Outcome, Done, Halted}
use Rattle.network_defs.specs.World.{World}
pub use Rattle.once_laws.specs.delivery_laws.Flood.{lines_in}
use Rattle.network_acts.specs.Instant.{Instant, IsWorld}
use Rattle.network_acts.specs.NetworkView.{NetworkView}
use Rattle.network_acts.specs.Words.{Moment}
use Rattle.network_events.specs.declared.halt.Halt.{Halt}
use Rattle.network_events.specs.declared.halt.Halt.TheVariants as halts

-- The acts are done: the network is the world after them, at that moment, and their lines stand after those of before.
pub record Did (at : Instant) (moment : Moment) (outcome : Outcome) (lines new_lines : List ReportLine) (new : NetworkView) : Type 0 where
  pub acts : List Happened
  pub world : World
  pub is : outcome ≡ Done acts world
  pub stands : IsWorld (record { cores = at.cores; moment = moment; world = world }) new
  pub told : new_lines ≡ lines ++ lines_in acts

-- One of the acts lacks a label at that node, and the lines of the acts before it stand after those of before.
pub record Lacked (outcome : Outcome) (n : NodeId) (lines new_lines : List ReportLine) : Type 0 where
  pub acts : List Happened
  pub is : outcome ≡ Halted acts n
  pub told : new_lines ≡ lines ++ lines_in acts

-- The change is made to every world that the network is and with which this holds; or a label is lacked in each. Of want of memory nothing
-- is said.
pub record Does (Fits : Instant → Type 0) (moment : Moment → Moment) (change : World → Outcome) (old new : NetworkView)
    (lines new_lines : List ReportLine) (result : Result (Unit {0}) Halt) : Type 0 where
  pub done : OnOk result ((at : Instant) → Fits at → IsWorld at old → Did at (moment at.moment) (change at.world) lines new_lines new)
  pub lacks : (n : NodeId) → result ≡ Err (halts.NoLabel n) →
      (at : Instant) → Fits at → IsWorld at old → Lacked (change at.world) n lines new_lines

-- the halt of a node that goes no further
abbrev pub halted_at : NodeId → NodeFault → Halt
halted_at n faults.NoLabel = halts.NoLabel n
halted_at n faults.NoMemory = halts.NoMemory

abbrev pub answer_at : NodeId → Result (Unit {0}) NodeFault → Result (Unit {0}) Halt
answer_at n (Ok done) = Ok done
answer_at n (Err fault) = Err (halted_at n fault)
