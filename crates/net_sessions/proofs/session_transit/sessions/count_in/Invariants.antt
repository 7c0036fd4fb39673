use Rattle.std.specs.Prelude.{sum_by}
use Rattle.std.proofs.Common.{◌≡◌, length, min, take}
use Rattle.net_sessions.proofs.session_transit.Totals.{most}
use Rattle.net_sessions.proofs.session_transit.sessions.count_in.Given as goal

abbrev pub invariant-loop-octets : goal.invariant-loop-octets
invariant-loop-octets l = l.count ≡ min (sum_by (λ octets. length octets) (take l.octets-index l.fn.all)) most
