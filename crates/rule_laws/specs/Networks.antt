-- The two networks that the whole network is, by the messages that its octets in transit carry.
use Rattle.std.specs.Prelude.{List}
use Rattle.label_laws.specs.Rule.{Kept}
use Rattle.network_defs.specs.session_defs.Message.{SessionMessage}
use Rattle.network_defs.specs.session_defs.Refined.{AreLines, seen}
use Rattle.network_defs.specs.declared.session_defs.direction.Direction.{Direction}
use Rattle.edge_words.specs.edge_laws.Rule.{Rule}
use Rattle.network_defs.specs.World.{World}
use Rattle.rule_laws.specs.Edges.{InTransit, Carries, edge_network}
use Rattle.rule_laws.specs.Labels.{label_network}

-- The octets in transit carry these messages. With them the label parts, the LDP sessions and the copies are a network of label nodes
-- that keeps its rule; those over BGP are changes of tables, with which the edges are a network that keeps its rule.
pub record AreNetworks (world : World) : Type 0 where
  pub pending : Direction → List SessionMessage
  pub carried : AreLines world.network pending
  pub labels : Kept (label_network (seen world.network pending) world.copies world.datagrams)
  pub changes : InTransit
  pub routes : Carries (seen world.network pending) changes
  pub edges : Rule (edge_network (seen world.network pending) changes)
