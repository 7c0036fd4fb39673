use Rattle.std.specs.Prelude.{⊤}
use Rattle.network_acts.proofs.control_plane.start.close_all.Given as goal

abbrev pub invariant-loop-node : goal.invariant-loop-node
invariant-loop-node l = ⊤

abbrev pub decreases-loop-node : goal.decreases-loop-node
decreases-loop-node l = goal.left-loop-node l
