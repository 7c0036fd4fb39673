use Rattle.std.proofs.Common.{◌||◌, subst, ◌∙◌}
use Rattle.std.proofs.lemmas.Result.{on_ok_weaker, on_err_weaker}
use Rattle.net_sessions.specs.declared.session_transit.sessions.Key.{Key}
use Rattle.net_sessions.specs.session_transit.TransitData.{TransitData, is_of_session, Joins}
use Rattle.net_sessions.specs.session_transit.Kept.{is_key, key_of, transit_of}
use Rattle.net_sessions.proofs.session_transit.DirectionOrder.{session_keys}
use Rattle.net_sessions.proofs.session_transit.Directions.{unchanged, joins}
use Rattle.net_sessions.proofs.session_transit.transit.Transit.join.Goals as goal

pub returns-clause-joined : goal.returns-clause-joined
returns-clause-joined c = on_ok_weaker c.join.result (λ each.
    subst (λ (t : TransitData). Joins (is_of_session c.args.kind c.args.a c.args.b) t (transit_of c.join.new.sessions)) c.self.view_is
    (joins c.self.inside.sessions c.join.new.sessions (is_of_session c.args.kind c.args.a c.args.b)
    (λ (k : Key). is_key c.key_of-one.result k || is_key c.key_of-other.result k)
    (λ d. (λ i. is_key (c.key_of-one.ensures i) (key_of d) || is_key (c.key_of-other.ensures i) (key_of d))
    ∙ session_keys c.args.kind c.args.a c.args.b d)
    each)) c.join.ensures.joined

pub returns-clause-same : goal.returns-clause-same
returns-clause-same c =
    on_err_weaker c.join.result (λ each. unchanged c.self.inside.sessions c.join.new.sessions each ∙ c.self.view_is) c.join.ensures.same
