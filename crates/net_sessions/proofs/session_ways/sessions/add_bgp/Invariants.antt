use Rattle.std.proofs.Common.{◌≡◌, ◌++◌, drop}
use Rattle.mvpn_model.specs.Sessions.{bgp_sessions}
use Rattle.net_sessions.proofs.session_ways.sessions.add_bgp.Given as goal

abbrev pub invariant-loop-place : goal.invariant-loop-place
invariant-loop-place l = l.all ++ bgp_sessions (drop l.place l.edges) ≡ l.initial.all ++ bgp_sessions l.edges
