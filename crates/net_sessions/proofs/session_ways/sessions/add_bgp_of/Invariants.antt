use Rattle.std.proofs.Common.{◌≡◌, ◌++◌, map, take}
use Rattle.mvpn_model.specs.Sessions.{bgp_session}
use Rattle.net_sessions.proofs.session_ways.sessions.add_bgp_of.Given as goal

abbrev pub invariant-loop-b : goal.invariant-loop-b
invariant-loop-b l = l.all ≡ l.initial.all ++ map (bgp_session l.a) (take l.b-index l.later)
