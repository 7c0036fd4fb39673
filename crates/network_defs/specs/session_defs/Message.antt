-- The messages of sessions over BGP and LDP, and the octets that spell them (RFC 4271 section 4.1, RFC 5036 section 3.1).
use Rattle.std.specs.Prelude.{◌≡◌, ℕ, ◌==◌, ◌&&◌, Bool, List, map}
use Rattle.mv_base.specs.Octets.{IsOctets}
use Rattle.mv_base.specs.framing.Cut.{Front}
use Rattle.mv_base.specs.framing.Cut.Front.{more, whole, bad}
use Rattle.scenario_defs.specs.declared.event.Kind.{Kind}
use Rattle.scenario_defs.specs.declared.event.Kind.TheVariants as kinds
use Rattle.scenario_defs.specs.Kinds.{same_kind}
use Rattle.edge_defs.specs.bgp_messages.declared.bgp_attributes.update.Message.{Message}
use Rattle.edge_defs.specs.bgp_messages.declared.bgp_attributes.fault.StreamFault.{StreamFault}
use Rattle.edge_defs.specs.bgp_messages.bgp_update.Reading.{message_front}
use Rattle.edge_defs.specs.bgp_messages.bgp_update.Spelling.{SpellsMessage}
use Rattle.label_defs.specs.mldp.declared.mldp_msgs.message.LabelMessage.{LabelMessage}
use Rattle.label_defs.specs.mldp.declared.mldp_msgs.fault.LdpFault.{LdpFault}
use Rattle.label_defs.specs.mldp.mldp_msgs.Reading.{pdu_front}
use Rattle.label_defs.specs.mldp.mldp_msgs.Spelling.{SpellsPdu}
use Rattle.network_defs.specs.declared.session_defs.direction.Direction.{Direction}

-- a message of a session
pub data SessionMessage : Type 0 where
  Bgp : (message : Message) → SessionMessage
  Label : (message : LabelMessage) → SessionMessage

-- the first fault of a stream
pub data SessionFault : Type 0 where
  BgpFault : (fault : StreamFault) → SessionFault
  LabelFault : (fault : LdpFault) → SessionFault

-- whether both are one direction
abbrev pub same_direction : Direction → Direction → Bool
same_direction a b = same_kind a.kind b.kind && (a.from.0 == b.from.0) && (a.to.0 == b.to.0)

-- what stands at the front of a session's octets
abbrev pub as_front : {M E : Type 0} → (M → SessionMessage) → (E → SessionFault) → Front M E → Front SessionMessage SessionFault
as_front message fault more = more
as_front message fault (whole count messages) = whole count (map message messages)
as_front message fault (bad messages offset reason) = bad (map message messages) offset (fault reason)

abbrev pub front_of : Kind → List ℕ → Front SessionMessage SessionFault
front_of kinds.Bgp octets = as_front (λ message. Bgp message) (λ fault. BgpFault fault) (message_front octets)
front_of kinds.Ldp octets = as_front (λ message. Label message) (λ fault. LabelFault fault) (pdu_front octets)

-- the octets of one unit, a BGP message or an LDP PDU, with the messages that it carries
abbrev pub Spells : Kind → List SessionMessage → List ℕ → Type 0
Spells kinds.Bgp messages text = (plain : List Message) × (messages ≡ map (λ message. Bgp message) plain) × SpellsMessage plain text
Spells kinds.Ldp messages text = (plain : List LabelMessage) × (messages ≡ map (λ message. Label message) plain) × SpellsPdu plain text

-- a spelling, in octets
abbrev pub IsPut : Kind → List SessionMessage → List ℕ → Type 0
IsPut kind messages text = Spells kind messages text × IsOctets text
