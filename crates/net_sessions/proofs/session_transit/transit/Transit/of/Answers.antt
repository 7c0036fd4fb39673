use Rattle.net_sessions.proofs.session_transit.Totals.{nothing_held}
use Rattle.net_sessions.proofs.session_transit.transit.Transit.of.Goals as goal

pub invariant_of-result : goal.invariant_of-result
invariant_of-result c = (c.new.ensures.unique, nothing_held c.new.result c.new.ensures.empty)
