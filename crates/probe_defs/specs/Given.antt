-- An edge that is given the lines of a probe, one after another, by its steps.
use Rattle.std.specs.Prelude.{◌≡◌, ℕ, List, fold, Option, None}
use Rattle.mv_base.specs.declared.ids.NodeId.{NodeId}
use Rattle.mv_base.specs.framing.Cut.{cut}
use Rattle.mv_base.specs.framing.Feed.{moved}
use Rattle.bgp_messages.specs.declared.bgp_attributes.fault.StreamFault.{StreamFault}
use Rattle.bgp_messages.specs.declared.bgp_attributes.update.Message.{Message}
use Rattle.bgp_messages.specs.bgp_update.Reading.{message_front}
use Rattle.scenario_defs.specs.declared.event.JoinEntry.TheVariants.{Source}
use Rattle.scenario_defs.specs.declared.event.Kind.TheVariants as kinds
use Rattle.network_defs.specs.mvpn_model.Messages.{own_addr}
use Rattle.edge_defs.specs.Place.{EdgePlace}
use Rattle.edge_defs.specs.Steps.{Customer, Pim, Raised}
use Rattle.edge_defs.specs.pim_defs.Single.{join_of}
use Rattle.network_defs.specs.node_defs.EdgeState.{EdgeState, called, fresh_state, took}
use Rattle.network_defs.specs.session_defs.Message.{BgpFault}
use Rattle.network_defs.specs.session_defs.PeerSession.{PeerSession, fault_at}
use Rattle.edge_streams.specs.Kept.{fault_as, session}
use Rattle.probe_defs.specs.Lines.{joins_of, octets_of}
use Rattle.probe_defs.specs.Probed.{edge_with, joined, table_of}
use Rattle.probe_defs.specs.declared.probe.ProbeLine.{ProbeLine}
use Rattle.probe_defs.specs.declared.probe.ProbeLine.TheVariants.{Join, Piece}

-- the session with the peer
abbrev pub peer_session : NodeId → PeerSession
peer_session peer = session kinds.Bgp peer

-- the edge after a line, at clock 0: a customer's message for the interface's own address, or octets of the peer
abbrev pub given : EdgePlace → NodeId → EdgeState → ProbeLine → EdgeState
given place peer old (Join iface source group) =
    called place 0 old (Customer (Pim iface (join_of (own_addr place.scenario iface) (Source source group))))
given place peer old (Piece octets) = took place 0 (peer_session peer) octets old

-- the edge whose session with the peer has come up
abbrev pub begun : EdgePlace → NodeId → EdgeState
begun place peer = called place 0 (fresh_state place.scenario.labels) (Raised kinds.Bgp peer)

-- and after these lines
abbrev pub thereafter : EdgePlace → NodeId → List ProbeLine → EdgeState
thereafter place peer lines = fold (given place peer) (begun place peer) lines

-- what a reader finds in octets: the whole messages, and the first fault after them, at the place as it is told
abbrev pub messages_in : List ℕ → List Message
messages_in octets = (cut message_front octets).messages

abbrev pub fault_in : List ℕ → Option (ℕ × StreamFault)
fault_in octets = moved 0 (cut message_front octets).fault

-- An edge has come to what the octets and joins of the lines say: it is not spent, has the table of the whole messages from the peer and
-- nothing else, and its stream has had that first fault.
pub record Comes (place : EdgePlace) (peer : NodeId) (lines : List ProbeLine) (state : EdgeState) : Type 0 where
  pub unspent : state.spent ≡ None
  pub keeps :
      state.edge.control
      ≡ edge_with place peer (table_of (messages_in (octets_of lines))) (joined place.scenario (joins_of lines))
  pub stream : fault_at state.streams (peer_session peer) ≡ fault_as (λ f. BgpFault f) (fault_in (octets_of lines))
