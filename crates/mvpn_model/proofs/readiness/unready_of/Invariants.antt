use Rattle.std.proofs.Common.{◌≡◌, ◌+◌, ◌≤◌, drop, map}
use Rattle.mvpn_model.specs.Past.{past_of}
use Rattle.mvpn_model.specs.Sessions.{edges_from, bgp_session}
use Rattle.mvpn_model.specs.OneSession.{unready_among}
use Rattle.mvpn_model.proofs.readiness.unready_of.Given as goal

abbrev pub invariant-loop-number : goal.invariant-loop-number
invariant-loop-number l = record {
  count : l.count + unready_among (past_of l.history) (map (bgp_session l.a) (edges_from l.number (drop l.number l.nodes)))
      ≡ unready_among (past_of l.history) (map (bgp_session l.a) (edges_from l.first (drop l.first l.nodes)));
  few : l.count ≤ l.number;
}
