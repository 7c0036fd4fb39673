use Rattle.std.proofs.Common.{◌≡◌, ◌+◌, ◌≤◌, drop, map}
use Rattle.mvpn_model.specs.Past.{past_of}
use Rattle.mvpn_model.specs.Sessions.{ldp_session}
use Rattle.mvpn_model.specs.OneSession.{unready_among}
use Rattle.mvpn_model.proofs.readiness.unready_ldp.Given as goal

abbrev pub invariant-loop-link : goal.invariant-loop-link
invariant-loop-link l = record {
  count : l.count + unready_among (past_of l.history) (map ldp_session (drop l.link-index l.links))
      ≡ unready_among (past_of l.history) (map ldp_session l.links);
  few : l.count ≤ l.link-index;
}
