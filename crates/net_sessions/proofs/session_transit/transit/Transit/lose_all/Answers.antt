use Rattle.std.proofs.Common.{refl, subst}
use Rattle.net_sessions.specs.session_transit.TransitData.{TransitData, is_at, Loses}
use Rattle.net_sessions.specs.session_transit.Kept.{is_key_at, transit_of}
use Rattle.net_sessions.proofs.session_transit.Directions.{loses}
use Rattle.net_sessions.proofs.session_transit.transit.Transit.lose_all.Goals as goal

pub returns : goal.returns
returns c =
    subst (λ (t : TransitData). Loses (is_at c.args.node) t (transit_of c.lose_all.new.sessions)) c.self.view_is
    (loses c.self.inside.sessions c.lose_all.new.sessions (is_at c.args.node) (is_key_at c.args.node) (λ d. refl) c.lose_all.ensures.lost)
