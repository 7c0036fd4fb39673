-- The streams of a node's sessions as its callers see them.
use Rattle.std.specs.Prelude.{◌≡◌, ◌⊎◌, ℕ, List, [], ◌∷◌, refl, Option, None, Some}
use Rattle.std.specs.Coded.{Coded, code_by, coded×, coded⊎, coded_list, coded_ℕ, coded_option}
use Rattle.std.specs.FinMap as maps
use Rattle.std.specs.FinMap.{FinMap}
use mathlib.Core.Logic.{inl, inr}
use Rattle.mv_base.specs.declared.ids.NodeId.{NodeId}
use Rattle.mv_base.specs.contracts.ids.NodeId as nodes
use Rattle.mv_base.specs.framing.Feed.{fed}
use Rattle.scenario_defs.specs.declared.event.Kind.{Kind}
use Rattle.scenario_defs.specs.contracts.event.Kind as kind_row
use Rattle.bgp_messages.specs.declared.bgp_attributes.update.Message.{Message}
use Rattle.bgp_messages.specs.contracts.bgp_attributes.update.Message as bgp_messages
use Rattle.bgp_messages.specs.declared.bgp_attributes.fault.StreamFault.{StreamFault}
use Rattle.bgp_messages.specs.contracts.bgp_attributes.fault.StreamFault as bgp_faults
use Rattle.mldp.specs.declared.mldp_msgs.message.LabelMessage.{LabelMessage}
use Rattle.mldp.specs.contracts.mldp_msgs.message.LabelMessage as ldp_messages
use Rattle.mldp.specs.declared.mldp_msgs.fault.LdpFault.{LdpFault}
use Rattle.mldp.specs.contracts.mldp_msgs.fault.LdpFault as ldp_faults
use Rattle.network_defs.specs.session_defs.Message.{SessionMessage, Bgp, Label, SessionFault, BgpFault, LabelFault, front_of}
use Rattle.network_defs.specs.session_defs.Octets.{Stream}
use Rattle.network_defs.specs.session_defs.PeerSession.{PeerSession, peer_cmp, stream_at}
use Rattle.edge_streams.specs.declared.reason.SessionReason.{SessionReason}
use Rattle.edge_streams.specs.declared.reason.SessionReason.TheVariants as reasons

-- the streams after octets of a session, which go to its stream where it has one
abbrev pub with_octets : PeerSession → List ℕ → FinMap peer_cmp Stream → FinMap peer_cmp Stream
with_octets session octets old =
    elim (maps.get old session) [
      | None ↦ old
      | Some stream ↦ maps.insert old session (fed (front_of session.kind) stream octets)
    ]

-- the first message that waits in the session's stream is taken, and none only where none waits
abbrev pub TakesFirst : PeerSession → FinMap peer_cmp Stream → Option SessionMessage → FinMap peer_cmp Stream → Type 0
TakesFirst session old None new = ((stream_at old session).waiting ≡ []) × (new ≡ old)
TakesFirst session old (Some message) new =
    (more : List SessionMessage) × ((stream_at old session).waiting ≡ message ∷ more)
    × (new ≡ maps.insert old session (record (stream_at old session) { waiting = more }))

-- the streams once no message waits for the session
abbrev pub drained : PeerSession → FinMap peer_cmp Stream → FinMap peer_cmp Stream
drained session streams = maps.insert streams session (record (stream_at streams session) { waiting = [] })

-- a fault as it is told
abbrev pub reason_of : SessionFault → SessionReason
reason_of (BgpFault fault) = reasons.Bgp fault
reason_of (LabelFault fault) = reasons.Ldp fault

abbrev pub told_fault : Option (ℕ × SessionFault) → Option (ℕ × SessionReason)
told_fault None = None
told_fault (Some f) = Some (f.0, reason_of f.1)

-- ---- the code of a map of streams, by which one is told from another

abbrev session_code : Coded PeerSession
session_code = code_by (Kind × NodeId) (coded× kind_row.the_row.coded nodes.the_row.coded)
    (λ s. (s.kind, s.peer)) (λ p. record { kind = p.0; peer = p.1 }) (λ _. refl)

abbrev message_to : SessionMessage → Message ⊎ LabelMessage
message_to (Bgp message) = inl message
message_to (Label message) = inr message

abbrev message_from : Message ⊎ LabelMessage → SessionMessage
message_from (inl message) = Bgp message
message_from (inr message) = Label message

pub message_back : (message : SessionMessage) → message_from (message_to message) ≡ message
message_back (Bgp message) = refl
message_back (Label message) = refl

abbrev message_code : Coded SessionMessage
message_code = code_by (Message ⊎ LabelMessage) (coded⊎ bgp_messages.the_row.coded ldp_messages.the_row.coded)
    message_to message_from message_back

abbrev fault_to : SessionFault → StreamFault ⊎ LdpFault
fault_to (BgpFault fault) = inl fault
fault_to (LabelFault fault) = inr fault

abbrev fault_from : StreamFault ⊎ LdpFault → SessionFault
fault_from (inl fault) = BgpFault fault
fault_from (inr fault) = LabelFault fault

pub fault_back : (fault : SessionFault) → fault_from (fault_to fault) ≡ fault
fault_back (BgpFault fault) = refl
fault_back (LabelFault fault) = refl

abbrev fault_code : Coded SessionFault
fault_code = code_by (StreamFault ⊎ LdpFault) (coded⊎ bgp_faults.the_row.coded ldp_faults.the_row.coded) fault_to fault_from fault_back

abbrev stream_code : Coded Stream
stream_code = code_by (List SessionMessage × (List ℕ × (ℕ × Option (ℕ × SessionFault))))
    (coded× (coded_list message_code)
    (coded× (coded_list coded_ℕ) (coded× coded_ℕ (coded_option (coded× coded_ℕ fault_code)))))
    (λ s. (s.waiting, (s.held, (s.before, s.fault))))
    (λ p. record { waiting = p.0; held = p.1.0; before = p.1.1.0; fault = p.1.1.1 }) (λ _. refl)

abbrev pub streams_code : Coded (FinMap peer_cmp Stream)
streams_code = maps.code session_code stream_code
