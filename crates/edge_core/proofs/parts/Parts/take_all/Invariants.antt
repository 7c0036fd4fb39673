use Rattle.std.proofs.Common.{length}
use Rattle.network_defs.specs.session_defs.PeerSession.{stream_at}
use Rattle.edge_routing.specs.edge_streams.Kept.{session}
use Rattle.edge_core.proofs.TakingLemmas.{AreWaiting}
use Rattle.edge_core.proofs.parts.Parts.take_all.Given as goal

abbrev pub invariant-loop-message : goal.invariant-loop-message
invariant-loop-message g l = AreWaiting l.core l.now (session g.M.EdgeMessage.protocol l.peer) l.fn.self l.self

abbrev pub decreases-loop-message : goal.decreases-loop-message
decreases-loop-message g l = length (stream_at l.self.streams (session g.M.EdgeMessage.protocol l.peer)).waiting
