use Rattle.network_acts.proofs.control_plane.HandingLoop.{OnWay}
use Rattle.network_acts.proofs.control_plane.handing.hand_out.Given as goal

abbrev pub invariant-loop-way : goal.invariant-loop-way
invariant-loop-way l = OnWay l.ways l.way-index l.fn.node l.node l.fn.transit l.transit l.fn.lines l.lines
