use Rattle.network_acts.specs.control_plane.Starting.{AreFirst}
use Rattle.network_acts.proofs.control_plane.start.first_nodes.Given as goal

abbrev pub invariant-loop-number : goal.invariant-loop-number
invariant-loop-number l = AreFirst l.scenario l.number l.nodes.items
