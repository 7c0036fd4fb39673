-- What stands at the front of a session's octets is what its messages spell, and a fault stays.
use Rattle.std.proofs.Common.{◌≡◌, ℕ, List, length, sym, ap, ◌∙◌}
use Rattle.std.specs.Prelude.{map}
use Rattle.mv_base.specs.framing.Cut.{Front}
use Rattle.mv_base.specs.framing.Cut.Front.{more, whole, bad}
use Rattle.mv_base.proofs.framing.Cuts.{IsStream}
use Rattle.mv_base.proofs.framing.Fronts.{whole_is, bad_is}
use Rattle.scenario_defs.specs.declared.event.Kind.{Kind}
use Rattle.scenario_defs.specs.declared.event.Kind.TheVariants as kinds
use Rattle.edge_defs.specs.bgp_messages.bgp_update.Reading.{message_front}
use Rattle.edge_defs.specs.bgp_messages.bgp_update.Spelling.{SpellsMessage}
use Rattle.edge_defs.proofs.bgp_messages.bgp_update.Messages.{message_format}
use Rattle.label_defs.specs.mldp.mldp_msgs.Reading.{pdu_front}
use Rattle.label_defs.specs.mldp.mldp_msgs.Spelling.{SpellsPdu}
use Rattle.label_defs.proofs.mldp.mldp_msgs.Pdus.{pdu_format}
use Rattle.network_defs.specs.session_defs.Message.{SessionMessage, SessionFault, as_front, front_of, Spells}
use Rattle.network_defs.specs.session_defs.Message.SessionMessage.{Bgp, Label}
use Rattle.network_defs.specs.session_defs.Message.SessionFault.{BgpFault, LabelFault}

-- the messages of one protocol as messages of a session
abbrev SpellsAs : {M : Type 0} → (M → SessionMessage) → (List M → List ℕ → Type 0) → List SessionMessage → List ℕ → Type 0
SpellsAs {M} message Plain messages text = (plain : List M) × (messages ≡ map message plain) × Plain plain text

whole_in : {M E : Type 0} (message : M → SessionMessage) (fault : E → SessionFault) (front : Front M E) (n : ℕ) (messages : List SessionMessage)
    → as_front message fault front ≡ whole n messages
    → (plain : List M) × (messages ≡ map message plain) × (front ≡ whole n plain)
whole_in message fault more n messages e = absurd cc
whole_in message fault (whole count plain) n messages e =
    let same = whole_is count n (map message plain) messages e in (plain, sym same.1, ap (λ (k : ℕ). whole k plain) same.0)
whole_in message fault (bad before offset reason) n messages e = absurd cc

bad_in : {M E : Type 0} (message : M → SessionMessage) (fault : E → SessionFault) (front : Front M E) (messages : List SessionMessage) (offset : ℕ)
    (reason : SessionFault) → as_front message fault front ≡ bad messages offset reason
    → (plain : List M) × (own : E) × (messages ≡ map message plain) × (fault own ≡ reason) × (front ≡ bad plain offset own)
bad_in message fault more messages offset reason e = absurd cc
bad_in message fault (whole count plain) messages offset reason e = absurd cc
bad_in message fault (bad plain place own) messages offset reason e =
    let same = bad_is (map message plain) messages place offset (fault own) reason e in
    (plain, own, sym same.2, same.1, ap (λ (k : ℕ). bad plain k own) same.0)

stream_as : {M E : Type 0} (message : M → SessionMessage) (fault : E → SessionFault) (front : List ℕ → Front M E) (Plain : List M → List ℕ → Type 0)
    → IsStream front Plain
    → IsStream (λ octets. as_front message fault (front octets)) (SpellsAs message Plain)
stream_as message fault front Plain stream = record {
  framing = record {
    empty = ap (as_front message fault) stream.framing.empty;
    taken = λ octets n messages fits e.
        let is = whole_in message fault (front octets) n messages e in
        let took = stream.framing.taken octets n is.0 fits is.2 in
        (took.0, (is.0, is.1, took.1));
    again = λ messages text after spells. ap (as_front message fault) (stream.framing.again spells.0 text after spells.2)
        ∙ ap (λ (ms : List SessionMessage). whole (length text) ms) (sym spells.1);
    filled = λ messages text spells. stream.framing.filled spells.0 text spells.2;
  };
  kept = λ octets later messages offset reason e.
      let is = bad_in message fault (front octets) messages offset reason e in
      ap (as_front message fault) (stream.kept octets later is.0 offset is.1 is.4)
      ∙ ap (λ (ms : List SessionMessage). bad ms offset (fault is.1)) (sym is.2) ∙ ap (λ (r : SessionFault). bad messages offset r) is.3;
}

pub stream_of : (kind : Kind) → IsStream (front_of kind) (Spells kind)
stream_of kinds.Bgp = stream_as (λ message. Bgp message) (λ fault. BgpFault fault) message_front SpellsMessage message_format.stream
stream_of kinds.Ldp = stream_as (λ message. Label message) (λ fault. LabelFault fault) pdu_front SpellsPdu pdu_format.stream
