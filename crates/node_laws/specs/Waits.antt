-- What waits for the BGP sessions of an edge: the octets of a step's changes, and what a call leaves of those that waited before.
use Rattle.std.specs.Prelude.{ℕ, ◌==◌, List, [], if◌then◌else◌}
use Rattle.std.specs.List.{flat_map}
use Rattle.mv_base.specs.declared.ids.NodeId.{NodeId}
use Rattle.edge_defs.specs.bgp_messages.declared.bgp_attributes.key.Key.{Key}
use Rattle.edge_defs.specs.bgp_messages.bgp_update.Written.{written}
use Rattle.mv_base.specs.declared.table_defs.change.Change.{Change}
use Rattle.scenario_defs.specs.declared.event.Kind.TheVariants as kinds
use Rattle.network_defs.specs.session_defs.PeerSession.{PeerSession}
use Rattle.edge_defs.specs.Keys.{Value}
use Rattle.edge_defs.specs.Messages.{as_update}
use Rattle.edge_defs.specs.Steps.{Call, Noticed}

-- the BGP session with the peer
abbrev pub bgp_session : NodeId → PeerSession
bgp_session peer = record { kind = kinds.Bgp; peer = peer }

-- the octets of UPDATE messages for changes, one message for each, end to end
abbrev pub update_octets : List (Change Key Value) → List ℕ
update_octets list = flat_map (λ change. written (as_update change)) list

-- what a call leaves of the octets that wait for the peer: where the loss of its BGP session is noticed, none
abbrev pub kept_for : Call → NodeId → List ℕ → List ℕ
kept_for (Noticed kinds.Bgp lost) peer octets = if lost.0 == peer.0 then [] else octets
kept_for other peer octets = octets
