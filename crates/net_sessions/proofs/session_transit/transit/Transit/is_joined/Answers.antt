use Rattle.std.proofs.Common.{is_some, sym, ap, ◌∙◌}
use Rattle.indexmap.specs.IndexMap.{get}
use Rattle.net_sessions.specs.session_transit.TransitData.{TransitData, direction, is_joined_at}
use Rattle.net_sessions.specs.session_transit.Kept.{is_key}
use Rattle.net_sessions.proofs.session_transit.Directions.{joined_seen}
use Rattle.net_sessions.proofs.session_transit.transit.Transit.is_joined.Goals as goal

pub returns : goal.returns
returns c =
    c.contains_key.ensures
    ∙ ap (λ k. is_some (get is_key c.self.inside.sessions k)) c.key_of.ensures
    ∙ sym (joined_seen c.self.inside.sessions (direction c.args.kind c.args.a c.args.b))
    ∙ ap (λ (t : TransitData). is_joined_at t (direction c.args.kind c.args.a c.args.b)) c.self.view_is
