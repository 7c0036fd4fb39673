use Rattle.std.proofs.Common.{◌||◌, subst, ◌∙◌}
use Rattle.net_sessions.specs.declared.session_transit.sessions.Key.{Key}
use Rattle.net_sessions.specs.session_transit.TransitData.{TransitData, is_of_session, Loses}
use Rattle.net_sessions.specs.session_transit.Kept.{is_key, key_of, transit_of}
use Rattle.net_sessions.proofs.session_transit.DirectionOrder.{session_keys}
use Rattle.net_sessions.proofs.session_transit.Directions.{loses}
use Rattle.net_sessions.proofs.session_transit.transit.Transit.lose.Goals as goal

pub returns : goal.returns
returns c =
    subst (λ (t : TransitData). Loses (is_of_session c.args.kind c.args.a c.args.b) t (transit_of c.lose.new.sessions)) c.self.view_is
    (loses c.self.inside.sessions c.lose.new.sessions (is_of_session c.args.kind c.args.a c.args.b)
    (λ (k : Key). is_key c.key_of-one.result k || is_key c.key_of-other.result k)
    (λ d. (λ i. is_key (c.key_of-one.ensures i) (key_of d) || is_key (c.key_of-other.ensures i) (key_of d))
    ∙ session_keys c.args.kind c.args.a c.args.b d)
    c.lose.ensures.lost)
