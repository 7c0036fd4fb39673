use Rattle.net_sessions.proofs.session_ways.WayLemmas.{made_by_ways}
use Rattle.net_sessions.proofs.session_ways.laws.lines_go_by_ways.Goals as goal

pub returns : goal.returns
returns c = made_by_ways
