-- What the parts of an event ask of a network.
use Rattle.std.specs.Prelude.{◌≡◌, false}
use Rattle.mv_base.specs.declared.ids.NodeId.{NodeId}
use Rattle.scenario_defs.specs.declared.event.Kind.{Kind}
use Rattle.network_defs.specs.Counts.{direction, is_up}
use Rattle.network_defs.specs.World.{scenario_of}
use Rattle.network_acts.specs.wire_laws.Edges.{IsWay}
use Rattle.network_acts.specs.Instant.{Instant}
use Rattle.network_acts.specs.Words.{all_late, at_rest}
use Rattle.network_events.specs.Meeting.{IsResting}

-- Nothing is under way, and both ends of the two nodes' session, which is one of the scenario, are down.
pub record IsRaisable (kind : Kind) (a b : NodeId) (at : Instant) : Type 0 where
  pub resting : IsResting at
  pub way : IsWay (scenario_of at.world) (direction kind a b)
  pub first : is_up at.world kind a b ≡ false
  pub second : is_up at.world kind b a ≡ false

-- A link has got another cost, and no node has acted on it yet.
abbrev pub IsRepriced : Instant → Type 0
IsRepriced at = at.moment ≡ all_late at_rest
