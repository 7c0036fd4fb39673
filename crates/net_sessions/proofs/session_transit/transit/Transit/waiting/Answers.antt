use Rattle.std.proofs.Common.{length, sym, ap, ◌∙◌}
use Rattle.net_sessions.specs.session_transit.TransitData.{TransitData, octets_at}
use Rattle.net_sessions.specs.session_transit.Kept.{kept_at}
use Rattle.net_sessions.proofs.session_transit.Directions.{octets_seen}
use Rattle.net_sessions.proofs.session_transit.transit.Transit.waiting.Goals as goal

pub returns : goal.returns
returns c =
    c.waiting.ensures
    ∙ ap (λ k. length (kept_at c.self.inside.sessions k)) c.key_of.ensures
    ∙ ap length (sym (octets_seen c.self.inside.sessions c.args.over))
    ∙ ap (λ (t : TransitData). length (octets_at t c.args.over)) c.self.view_is
