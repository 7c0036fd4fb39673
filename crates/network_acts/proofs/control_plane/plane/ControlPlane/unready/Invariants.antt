use Rattle.network_acts.proofs.control_plane.QueryLemmas.{AreUnready}
use Rattle.network_acts.proofs.control_plane.plane.ControlPlane.unready.Given as goal

abbrev pub invariant-loop-session : goal.invariant-loop-session
invariant-loop-session l = AreUnready l.self l.sessions l.session-index l.count
