use Rattle.std.proofs.Common.{◌++◌, subst, ◌∙◌}
use Rattle.std.proofs.lemmas.Result.{on_ok_weaker, on_err_weaker}
use Rattle.net_sessions.specs.session_transit.TransitData.{TransitData, Puts}
use Rattle.net_sessions.specs.session_transit.Kept.{transit_of}
use Rattle.net_sessions.proofs.session_transit.Directions.{unchanged, changes_at, puts}
use Rattle.net_sessions.proofs.session_transit.transit.Transit.put.Goals as goal

pub returns-clause-put : goal.returns-clause-put
returns-clause-put c = on_ok_weaker c.put.result (λ each.
    subst (λ (t : TransitData). Puts c.args.over c.args.octets.now t (transit_of c.put.new.sessions)) c.self.view_is
    (puts c.self.inside.sessions c.put.new.sessions c.args.over c.args.octets.now
    (changes_at c.self.inside.sessions c.put.new.sessions c.args.over c.key_of-at.result c.key_of-at.ensures (λ d. d ++ c.args.octets.now) each)))
    c.put.ensures.put

pub returns-clause-same : goal.returns-clause-same
returns-clause-same c =
    on_err_weaker c.put.result (λ each. unchanged c.self.inside.sessions c.put.new.sessions each ∙ c.self.view_is) c.put.ensures.same
