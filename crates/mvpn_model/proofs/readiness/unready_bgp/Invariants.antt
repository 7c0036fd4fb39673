use Rattle.std.proofs.Common.{◌≡◌, ◌+◌, ◌*◌, ◌≤◌, drop}
use Rattle.mvpn_model.specs.Past.{past_of}
use Rattle.mvpn_model.specs.Sessions.{edges_from, bgp_sessions}
use Rattle.mvpn_model.specs.OneSession.{unready_among}
use Rattle.mvpn_model.proofs.readiness.unready_bgp.Given as goal

abbrev pub invariant-loop-number : goal.invariant-loop-number
invariant-loop-number l = record {
  count : l.count + unready_among (past_of l.history) (bgp_sessions (edges_from l.number (drop l.number l.nodes)))
      ≡ unready_among (past_of l.history) (bgp_sessions (edges_from 0 l.nodes));
  few : l.count ≤ 64 * l.number;
}
