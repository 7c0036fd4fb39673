use Rattle.std.proofs.Common.{◌≡◌, ◌++◌, drop}
use Rattle.mvpn_model.specs.Sessions.{edges_from}
use Rattle.net_sessions.proofs.session_ways.sessions.edges_of.Given as goal

abbrev pub invariant-loop-number : goal.invariant-loop-number
invariant-loop-number l = l.found ++ edges_from l.number (drop l.number l.nodes) ≡ edges_from 0 l.nodes
