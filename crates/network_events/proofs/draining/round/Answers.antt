use Rattle.std.specs.Prelude.{not}
use Rattle.std.proofs.Common.{◌∙◌}
use Rattle.network_events.proofs.HopLemmas.{has_round, none_left, standing_within}
use Rattle.network_events.proofs.draining.round.Goals as goal

pub land_each-requires-clause-ways : goal.land_each-requires-clause-ways
land_each-requires-clause-ways c =
    standing_within c.args.network.now c.as_slice.result.now (λ at is. c.as_slice.ensures ∙ c.in_ok-ways.ensures at is) c.requires.network

pub returns : goal.returns
returns c =
    has_round c.args.network.now c.as_slice.result.now (λ at is. c.as_slice.ensures ∙ c.in_ok-ways.ensures at is) c.land_each.new.network
    c.args.lines.now c.land_each.new.lines (not c.is_empty.result)
    (none_left c.is_empty.result c.as_slice.result.now (λ t. c.as_slice.ensures ∙ c.is_empty.ensures.0 t)) c.in_ok-land_each.ensures
