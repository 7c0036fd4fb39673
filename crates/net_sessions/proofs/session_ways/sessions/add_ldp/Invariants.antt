use Rattle.std.proofs.Common.{◌≡◌, ◌++◌, map, take}
use Rattle.mvpn_model.specs.Sessions.{ldp_session}
use Rattle.net_sessions.proofs.session_ways.sessions.add_ldp.Given as goal

abbrev pub invariant-loop-link : goal.invariant-loop-link
invariant-loop-link l = l.all ≡ l.initial.all ++ map ldp_session (take l.link-index l.links)
