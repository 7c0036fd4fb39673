use Rattle.std.proofs.Common.{length}
use Rattle.network_defs.specs.session_defs.PeerSession.{stream_at}
use Rattle.wire_laws.specs.CoreNodes.{ldp_with}
use Rattle.network_nodes.proofs.core_node.TakingLemmas.{AreWaiting}
use Rattle.network_nodes.proofs.core_node.parts.Parts.take_labels.Given as goal

abbrev pub invariant-loop-message : goal.invariant-loop-message
invariant-loop-message l = AreWaiting l.core l.now l.peer l.fn.self l.self

abbrev pub decreases-loop-message : goal.decreases-loop-message
decreases-loop-message l = length (stream_at l.self.streams (ldp_with l.peer)).waiting
