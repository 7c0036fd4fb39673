use Rattle.mv_base.proofs.core_walks.ReachedLemmas.{AreMarks}
use Rattle.mv_base.proofs.core_walks.connection.is_connected.Given as goal

abbrev pub invariant-loop-round : goal.invariant-loop-round
invariant-loop-round l = AreMarks l.links l.round l.marks
