-- The first fault of octets, with its place: what stands before it is whole and has no fault (RFC 5036 section 3).
use Rattle.std.specs.Prelude.{◌≡◌, ◌≢◌, ℕ, ◌+◌, ◌-◌, ◌*◌, ◌^◌, ◌<◌, ◌≤◌, ◌⊎◌, List, [], ◌++◌, length}
use Rattle.std.specs.Int.{w16, w32, to_be_bytes}
use Rattle.mv_base.specs.framing.Parts.{PartFails}
use Rattle.mv_base.specs.framing.Units.{Begins}
use Rattle.mv_base.specs.Cursor.{start}
use Rattle.mldp.specs.mldp_fec.Spelling as fec
use Rattle.mldp.specs.mldp_fec.FirstFault as fec_faults
use Rattle.mldp.specs.declared.mldp_fec.fec.Fec.{Fec}
use Rattle.mldp.specs.declared.mldp_fec.fault.FecFault.{FecFault}
use Rattle.mldp.specs.declared.mldp_msgs.fault.LdpFault.{LdpFault}
use Rattle.mldp.specs.declared.mldp_msgs.fault.LdpFault.TheVariants as faults
use Rattle.mldp.specs.declared.mldp_msgs.message.LabelMessage.{LabelMessage}
use Rattle.mldp.specs.declared.mldp_msgs.tlv.Tlv.{Tlv}
use Rattle.mldp.specs.mldp_msgs.Spelling.{IsType, tlv_type, tlv, IsOther, IsPassedType, NoneTells, fec_of, label_of}
use Rattle.mldp.specs.mldp_msgs.Spelling.{IsUnlikeValue, SpellsTlv, IsNew, AreTlvs, IsLabelType, SpellsMessage}

-- ---- TLVs

-- the type is unknown, and its U bit is clear
abbrev pub IsUnknown : ℕ → ℕ → Type 0
IsUnknown bits kind = IsOther kind × (¬ IsPassedType kind) × (bits < 2)

-- fewer than the two octets of the length, or fewer octets of the value than it says
abbrev pub IsCut : List ℕ → Type 0
IsCut after = (length after < 2)
    ⊎ ((len : ℕ) × (value : List ℕ) × (len < 2 ^ 16) × (after ≡ to_be_bytes w16 len ++ value) × (length value < len))

-- a FEC or label TLV, and one of its kind is among those before
abbrev pub IsAgain : List Tlv → ℕ → Type 0
IsAgain before kind = ((kind ≡ 0x0100) × (¬ NoneTells fec_of before)) ⊎ ((kind ≡ 0x0200) × (¬ NoneTells label_of before))

-- The value of the first FEC or label TLV fails, after those before. The TLV's first octet stands at 0, the value's at 4.
pub data ValueFault (before : List Tlv) (kind : ℕ) (value : List ℕ) (offset : ℕ) (e : LdpFault) : Type 0 where
  again : IsAgain before kind → offset ≡ 0 → e ≡ faults.TlvLength → ValueFault before kind value offset e
  -- the element fails at its own place; none has no octet
  in_fec : kind ≡ 0x0100 → NoneTells fec_of before → (¬ IsUnlikeValue value) → (f : FecFault) →
      fec_faults.FirstFault (start value) f → offset ≡ 4 + f.place → e ≡ faults.Fec f.reason → ValueFault before kind value offset e
  after_fec : kind ≡ 0x0100 → NoneTells fec_of before → (f : Fec) (text more : List ℕ) → fec.Spells f text →
      value ≡ text ++ more → 0 < length more → offset ≡ 0 → e ≡ faults.TlvLength → ValueFault before kind value offset e
  label_length : kind ≡ 0x0200 → NoneTells label_of before → length value ≢ 4 → offset ≡ 0 → e ≡ faults.TlvLength →
      ValueFault before kind value offset e
  label_low : kind ≡ 0x0200 → NoneTells label_of before → (high label : ℕ) → high < 2 ^ 12 → label < 16 →
      value ≡ to_be_bytes w32 (high * 2 ^ 20 + label) → offset ≡ 4 → e ≡ faults.Label → ValueFault before kind value offset e

-- the TLV at the front fails, after those before
pub data TlvFault (before : List Tlv) (octets : List ℕ) (offset : ℕ) (e : LdpFault) : Type 0 where
  kind_cut : length octets ≡ 1 → offset ≡ 0 → e ≡ faults.TlvLength → TlvFault before octets offset e
  unknown : (bits kind : ℕ) (after : List ℕ) → IsType bits kind → IsUnknown bits kind → octets ≡ tlv_type bits kind ++ after →
      offset ≡ 0 → e ≡ faults.UnknownTlv → TlvFault before octets offset e
  -- of a known type, or its U bit is set
  cut : (bits kind : ℕ) (after : List ℕ) → IsType bits kind → (¬ IsUnknown bits kind) → octets ≡ tlv_type bits kind ++ after →
      IsCut after → offset ≡ 0 → e ≡ faults.TlvLength → TlvFault before octets offset e
  in_value : (bits kind : ℕ) (value after : List ℕ) → IsType bits kind → length value < 2 ^ 16 →
      octets ≡ tlv bits kind value ++ after → ValueFault before kind value offset e → TlvFault before octets offset e

-- ---- messages

-- a message of a label type stands whole at the front, with these octets after its id
pub record LabelStands (octets body : List ℕ) : Type 0 where
  pub kind : ℕ
  pub id : List ℕ
  pub after : List ℕ
  pub is_label : IsLabelType kind
  pub id_len : length id ≡ 4
  pub fits : 4 + length body < 2 ^ 16
  pub parts : octets ≡ to_be_bytes w16 kind ++ (to_be_bytes w16 (4 + length body) ++ (id ++ (body ++ after)))

-- the message at the front of a PDU's octets fails
pub data MessageFault (octets : List ℕ) (offset : ℕ) (e : LdpFault) : Type 0 where
  header_cut : 0 < length octets → length octets < 4 → offset ≡ 0 → e ≡ faults.MessageLength → MessageFault octets offset e
  length_wrong : (kind len : ℕ) (rest : List ℕ) → kind < 2 ^ 16 → len < 2 ^ 16 →
      octets ≡ to_be_bytes w16 kind ++ (to_be_bytes w16 len ++ rest) → (len < 4) ⊎ (length rest < len) → offset ≡ 2 →
      e ≡ faults.MessageLength → MessageFault octets offset e
  in_tlvs : (body : List ℕ) (place : ℕ) → LabelStands octets body → PartFails SpellsTlv IsNew TlvFault body place e →
      offset ≡ 8 + place → MessageFault octets offset e
  missing : (body : List ℕ) (tlvs : List Tlv) → LabelStands octets body → AreTlvs body tlvs →
      NoneTells fec_of tlvs ⊎ NoneTells label_of tlvs → offset ≡ 0 → e ≡ faults.MissingTlv → MessageFault octets offset e

-- ---- PDUs

-- The PDU at the front of a stream fails, and these messages stand in it before the fault: its header with its first four
-- octets, which come before any message; a message once the PDU is whole, after those before it.
pub data PduFault (octets : List ℕ) (ms : List LabelMessage) (offset : ℕ) (e : LdpFault) : Type 0 where
  version : (number len : ℕ) (rest : List ℕ) → number < 2 ^ 16 → len < 2 ^ 16 →
      octets ≡ to_be_bytes w16 number ++ (to_be_bytes w16 len ++ rest)
      → number ≢ 1 → ms ≡ [] → offset ≡ 0 → e ≡ faults.Version → PduFault octets ms offset e
  pdu_length : (len : ℕ) (rest : List ℕ) → len < 2 ^ 16 → octets ≡ to_be_bytes w16 1 ++ (to_be_bytes w16 len ++ rest)
      → (len < 6) ⊎ (4096 < len) → ms ≡ [] → offset ≡ 2 → e ≡ faults.PduLength → PduFault octets ms offset e
  in_message : (ident body after : List ℕ) → length ident ≡ 6 → 6 + length body ≤ 4096
      → octets ≡ to_be_bytes w16 1 ++ (to_be_bytes w16 (6 + length body) ++ (ident ++ (body ++ after)))
      → (left : List ℕ) (place : ℕ) → Begins SpellsMessage body ms left → 0 < length left → MessageFault left place e
      → offset ≡ 10 + (length body - length left) + place → PduFault octets ms offset e
