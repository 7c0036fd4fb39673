-- What is written spells a PDU with the message alone.
use Rattle.std.proofs.Common.{◌≡◌, ℕ, ◌^◌, ◌<◌, ◌≤◌, List, [], ◌∷◌, ◌++◌, length, None, refl, sym, ap, ◌∙◌, arith}
use Rattle.std.specs.Int.{w32, to_be_bytes}
use Rattle.std.proofs.lemmas.List.{length-append, append-nil}
use Rattle.std.proofs.Math.Nat.{zero-add}
use Rattle.mv_base.specs.framing.Feed.{fed, unfed, further}
use Rattle.mv_base.proofs.framing.Feedings.{fed_one}
use Rattle.mv_base.specs.Address.{addr_octets}
use Rattle.mv_base.specs.declared.addr.Addr.{Addr}
use Rattle.mldp.specs.mldp_fec.Spelling as fec
use Rattle.mldp.specs.declared.mldp_fec.fec.Fec.{Fec}
use Rattle.mldp.specs.declared.mldp_msgs.fault.LdpFault.{LdpFault}
use Rattle.mldp.specs.declared.mldp_msgs.message.LabelMessage.{LabelMessage}
use Rattle.mldp.specs.declared.mldp_msgs.message.LabelMessage.TheVariants as messages
use Rattle.mldp.specs.declared.mldp_msgs.tlv.Tlv.TheVariants as tlvs
use Rattle.mldp.specs.mldp_msgs.Spelling.{IsLabel, tlv, SpellsTlv, Carries, Means, type_of, SpellsMessage, SpellsPdu, written_tlvs, written_body, written_message, written, IsElement, IsWritable, IsRouter}
use Rattle.mldp.specs.mldp_msgs.Reading.{pdu_front}
use Rattle.mldp.proofs.mldp_msgs.Lengths.{element_len, body_len}
use Rattle.mldp.proofs.mldp_msgs.Pdus.{pdu_format}

-- ---- TLVs

fec_spelled : (f : Fec) → IsElement f → SpellsTlv (tlvs.Fec f) (tlv 0 0x0100 (fec.written f))
fec_spelled f s = record {
  bits = 0;
  kind = 0x0100;
  value = fec.written f;
  is_type = (omega arith, omega arith);
  fits = omega (arith, element_len f s);
  parts = refl;
  says = (refl, s);
}

label_spelled : (l : ℕ) → IsLabel l → SpellsTlv (tlvs.Label l) (tlv 0 0x0200 (to_be_bytes w32 l))
label_spelled l is = record {
  bits = 0;
  kind = 0x0200;
  value = to_be_bytes w32 l;
  is_type = (omega arith, omega arith);
  fits = omega arith;
  parts = refl;
  says = (refl, is, (0, omega arith, ap (to_be_bytes w32) (sym (zero-add l))));
}

carries : (f : Fec) (l : ℕ) → IsElement f → IsLabel l → Carries f l (written_tlvs f l)
carries f l s is = record {
  said = tlvs.Fec f ∷ tlvs.Label l ∷ [];
  are = (
    tlv 0 0x0100 (fec.written f),
    tlv 0 0x0200 (to_be_bytes w32 l),
    fec_spelled f s,
    tt,
    refl,
    (tlv 0 0x0200 (to_be_bytes w32 l), [], label_spelled l is, (refl, tt), sym (append-nil (tlv 0 0x0200 (to_be_bytes w32 l))), refl),
  );
  has_fec = (0, omega arith, refl);
  has_label = (1, omega arith, refl);
}

-- ---- the message

means : (m : LabelMessage) → IsWritable m → Means m (type_of m) (written_body m)
means (messages.Mapping f l) h = (refl, carries f l h.0 h.1)
means (messages.Withdraw f l) h = (refl, carries f l h.0 h.1)
means (messages.Release f l) h = (refl, carries f l h.0 h.1)
means (messages.Ignored kind) h = absurd h

type_below : (m : LabelMessage) → IsWritable m → type_of m < 2 ^ 16
type_below (messages.Mapping f l) h = omega arith
type_below (messages.Withdraw f l) h = omega arith
type_below (messages.Release f l) h = omega arith
type_below (messages.Ignored kind) h = absurd h

message_spelled : (id : ℕ) (m : LabelMessage) → IsWritable m → SpellsMessage (m ∷ []) (written_message id m)
message_spelled id m h = record {
  message = m;
  kind = type_of m;
  id = to_be_bytes w32 id;
  body = written_body m;
  one = refl;
  parts = refl;
  id_len = refl;
  kind_fits = type_below m h;
  len_fits = omega (arith, body_len m h);
  means = means m h;
}

message_len : (id : ℕ) (m : LabelMessage) → IsWritable m → length (written_message id m) ≤ 106
message_len id m h = omega (arith, body_len m h)

-- ---- the PDU

pub pdu_spelled : (me : Addr) (id : ℕ) (m : LabelMessage) → IsWritable m → IsRouter me → SpellsPdu (m ∷ []) (written me id m)
pdu_spelled me id m h router =
    let text : List ℕ = written_message id m in
    record {
      ident = addr_octets me ++ 0 ∷ 0 ∷ [];
      body = text;
      parts = refl;
      ident_len = omega (arith, length-append (addr_octets me) (0 ∷ 0 ∷ []), router);
      fits = omega (arith, message_len id m h);
      messages =
          record {
            units = record { messages = m ∷ []; octets = text } ∷ [];
            each = (message_spelled id m h, tt);
            parts =
                sym (append-nil text) ∙ sym (append-nil (text ++ []));
            carried = refl;
          };
    }

pdu_len : (me : Addr) (id : ℕ) (m : LabelMessage) → IsWritable m → IsRouter me → length (written me id m) < 2 ^ 16
pdu_len me id m h router =
    omega (
      arith,
      message_len id m h,
      router,
      length-append (addr_octets me ++ 0 ∷ 0 ∷ []) (written_message id m),
      length-append (addr_octets me) (0 ∷ 0 ∷ []),
    )

pub waits_alone : (me : Addr) (id : ℕ) (m : LabelMessage) → IsWritable m → IsRouter me
    → fed {E = LdpFault} pdu_front unfed (written me id m) ≡ record { waiting = m ∷ []; held = []; before = length (written me id m); fault = None }
waits_alone me id m h router =
    let text : List ℕ = written me id m in
    let place : further 0 (length text) ≡ length text = omega (arith, pdu_len me id m h router) in
    fed_one pdu_front SpellsPdu pdu_format.stream.framing (m ∷ []) text (pdu_spelled me id m h router)
    ∙ ap (λ (n : ℕ). record { waiting = m ∷ []; held = []; before = n; fault = None }) place
