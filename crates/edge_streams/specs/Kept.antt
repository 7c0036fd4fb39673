-- Streams by node, as they are kept, and the streams of sessions that they are.
use Rattle.std.specs.Prelude.{◌≡◌, ℕ, Bool, List, ◌++◌, map, Option, None, Some, option_map, if◌then◌else◌}
use Rattle.std.specs.FinMap as maps
use Rattle.std.specs.FinMap.{FinMap}
use Rattle.std.specs.declared.hash.FoldHasher.{FoldHasher}
use Rattle.std.specs.declared.hash.BuildHasherDefault.{BuildHasherDefault}
use Rattle.indexmap.specs.IndexMap.{IndexMap, get}
use Rattle.mv_base.specs.declared.ids.NodeId.{NodeId}
use Rattle.mv_base.specs.contracts.ids.NodeIdPartialEq.TheImpl as nodes_equal
use Rattle.mv_base.specs.framing.Feed.{Fed}
use Rattle.mv_base.specs.framing.Feeding.{NextIs}
use Rattle.scenario_defs.specs.declared.event.Kind.{Kind}
use Rattle.scenario_defs.specs.declared.event.Kind.TheVariants as kinds
use Rattle.bgp_messages.specs.declared.bgp_attributes.update.Message.{Message}
use Rattle.bgp_messages.specs.declared.bgp_attributes.fault.StreamFault.{StreamFault}
use Rattle.mldp.specs.declared.mldp_msgs.message.LabelMessage.{LabelMessage}
use Rattle.mldp.specs.declared.mldp_msgs.fault.LdpFault.{LdpFault}
use Rattle.network_defs.specs.session_defs.Message.{SessionMessage, Bgp, Label, SessionFault, BgpFault, LabelFault}
use Rattle.network_defs.specs.session_defs.Octets.{Stream}
use Rattle.network_defs.specs.session_defs.PeerSession.{PeerSession, peer_cmp}

abbrev pub NodeMap : Type 0 → Type 0
NodeMap X = IndexMap NodeId X (BuildHasherDefault FoldHasher)

-- whether both are one node, as `==` tells it
abbrev pub is_node : NodeId → NodeId → Bool
is_node = nodes_equal.ghosts.eq

-- the node has this now, and every other node has what it had
abbrev pub PutAt : {X : Type 0} → NodeId → Option X → NodeMap X → NodeMap X → Type 0
PutAt peer now old new = (q : NodeId) → get is_node new q ≡ (if is_node peer q then now else get is_node old q)

-- what the node has, where it has anything, is changed so, and every other node has what it had
abbrev pub ChangedAt : {X : Type 0} → NodeId → (X → X) → NodeMap X → NodeMap X → Type 0
ChangedAt peer change old new = (q : NodeId) → get is_node new q ≡
    (if is_node peer q then option_map change (get is_node old q) else get is_node old q)

-- each node has what it had
abbrev pub IsSame : {X : Type 0} → NodeMap X → NodeMap X → Type 0
IsSame old new = (q : NodeId) → get is_node new q ≡ get is_node old q

-- the first message that waits in a stream that may be there is taken
abbrev pub NextAt : {M E : Type 0} → Option (Fed M E) → Option M → Option (Fed M E) → Type 0
NextAt None result new = (result ≡ None) × (new ≡ None)
NextAt {M} {E} (Some old) result new = (left : Fed M E) × (new ≡ Some left) × NextIs old result left

-- the first fault of a stream that may be there, with its place
abbrev pub fault_in : {M E : Type 0} → Option (Fed M E) → Option (ℕ × E)
fault_in None = None
fault_in (Some d) = d.fault

-- ---- one stream

-- the fault of one protocol as that of a session
abbrev pub fault_as : {E : Type 0} → (E → SessionFault) → Option (ℕ × E) → Option (ℕ × SessionFault)
fault_as fault None = None
fault_as fault (Some f) = Some (f.0, fault f.1)

-- the stream of one protocol as that of a session
abbrev pub stream_as : {M E : Type 0} → (M → SessionMessage) → (E → SessionFault) → Fed M E → Stream
stream_as message fault d =
    record { waiting = map message d.waiting; held = d.held; before = d.before; fault = fault_as fault d.fault }

abbrev pub bgp_stream : Fed Message StreamFault → Stream
bgp_stream d = stream_as (λ message. Bgp message) (λ fault. BgpFault fault) d

abbrev pub ldp_stream : Fed LabelMessage LdpFault → Stream
ldp_stream d = stream_as (λ message. Label message) (λ fault. LabelFault fault) d

-- ---- all streams

-- the session with the peer
abbrev pub session : Kind → NodeId → PeerSession
session kind peer = record { kind = kind; peer = peer }

-- streams by node as streams of sessions of that protocol
abbrev pub entries_as : {X : Type 0} → Kind → (X → Stream) → List (NodeId × X) → List (PeerSession × Stream)
entries_as kind stream entries = map (λ e. (session kind e.0, stream e.1)) entries

abbrev pub streams_of : NodeMap (Fed Message StreamFault) → NodeMap (Fed LabelMessage LdpFault) → FinMap peer_cmp Stream
streams_of bgp ldp =
    maps.from_entries (entries_as kinds.Bgp bgp_stream bgp.entries ++ entries_as kinds.Ldp ldp_stream ldp.entries)
