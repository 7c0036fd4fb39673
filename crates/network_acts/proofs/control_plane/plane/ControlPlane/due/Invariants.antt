use Rattle.network_acts.proofs.control_plane.QueryLemmas.{AreDue}
use Rattle.network_acts.proofs.control_plane.plane.ControlPlane.due.Given as goal

abbrev pub invariant-loop-node : goal.invariant-loop-node
invariant-loop-node l = AreDue l.self l.node-index l.count
