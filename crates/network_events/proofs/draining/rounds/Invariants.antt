use Rattle.network_events.proofs.HopLemmas.{OnRounds}
use Rattle.network_events.proofs.draining.rounds.Given as goal

abbrev pub invariant-loop-round : goal.invariant-loop-round
invariant-loop-round l = OnRounds l.fn.network l._round l.fn.lines l.lines l.network
