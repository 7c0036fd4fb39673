use Rattle.network_acts.proofs.control_plane.QueryLemmas.{ends_at}
use Rattle.network_acts.proofs.control_plane.plane.ControlPlane.unready.Goals as goal

pub is_session_ready-requires : goal.is_session_ready-requires
is_session_ready-requires c =
    record { plane = ends_at c.args.sessions.now c.loop-session.session-index _ c.args.self.now c.loop-session-test.true c.requires.plane }
