-- Label messages of multipoint LSPs, and what spells them (RFC 5036 section 3, RFC 6388 section 2): some octets may be
-- anything.
use Rattle.std.specs.Prelude.{◌≡◌, ◌≢◌, ℕ, ◌+◌, ◌*◌, ◌^◌, ◌<◌, ◌≤◌, ◌⊎◌, List, [], ◌∷◌, ◌++◌, length, Contains, Option, Some, None, ⊤}
use Rattle.std.specs.Int.{w16, w32, to_be_bytes}
use Rattle.std.specs.List.{AllByRecursion}
use Rattle.mv_base.specs.framing.Parts.{AreParts}
use Rattle.mv_base.specs.framing.Units.{Begins}
use Rattle.mv_base.specs.Address.{addr_octets}
use Rattle.mv_base.specs.declared.addr.Addr.{Addr}
use Rattle.mldp.specs.mldp_fec.Spelling as fec
use Rattle.mldp.specs.declared.mldp_fec.fec.Fec.{Fec}
use Rattle.mldp.specs.declared.mldp_fec.fec.FecKind.{FecKind}
use Rattle.mldp.specs.declared.mldp_msgs.message.LabelMessage.{LabelMessage}
use Rattle.mldp.specs.declared.mldp_msgs.message.LabelMessage.TheVariants as messages
use Rattle.mldp.specs.declared.mldp_msgs.tlv.Tlv.{Tlv}
use Rattle.mldp.specs.declared.mldp_msgs.tlv.Tlv.TheVariants as tlvs

-- ---- TLVs

-- a label has 20 bits, and those below 16 are reserved (RFC 3032 section 2.1)
abbrev pub IsLabel : ℕ → Type 0
IsLabel l = (16 ≤ l) × (l < 2 ^ 20)

-- the U and F bits, and a type of 14 bits (RFC 5036 section 3.3)
abbrev pub IsType : ℕ → ℕ → Type 0
IsType bits kind = (bits < 4) × (kind < 2 ^ 14)

-- these bits and this type, in two octets
abbrev pub tlv_type : ℕ → ℕ → List ℕ
tlv_type bits kind = to_be_bytes w16 (bits * 2 ^ 14 + kind)

-- type, length and value
abbrev pub tlv : ℕ → ℕ → List ℕ → List ℕ
tlv bits kind value = tlv_type bits kind ++ (to_be_bytes w16 (length value) ++ value)

-- a type other than those of the FEC and label TLVs
abbrev pub IsOther : ℕ → Type 0
IsOther kind = (kind ≢ 0x0100) × (kind ≢ 0x0200)

-- hop count, path vector, status, and label request message id (RFC 5036 sections 3.4.4 to 3.4.6 and 3.5.7)
abbrev pub IsPassedType : ℕ → Type 0
IsPassedType kind = (kind ≡ 0x0103) ⊎ ((kind ≡ 0x0104) ⊎ ((kind ≡ 0x0300) ⊎ (kind ≡ 0x0600)))

-- a TLV that is passed over: of such a type, or the U bit is set, the first of the two bits
abbrev pub IsPassed : ℕ → ℕ → Type 0
IsPassed bits kind = IsOther kind × (IsPassedType kind ⊎ (2 ≤ bits))

-- what the value of a TLV of that type says; the 12 bits above a label may be anything (RFC 5036 section 3.4.2.1)
abbrev pub Says : ℕ → ℕ → List ℕ → Tlv → Type 0
Says bits kind value (tlvs.Fec f) = (kind ≡ 0x0100) × fec.Spells f value
Says bits kind value (tlvs.Label l) =
    (kind ≡ 0x0200) × IsLabel l
    × ((high : ℕ) × (high < 2 ^ 12) × (value ≡ to_be_bytes w32 (high * 2 ^ 20 + l)))
Says bits kind value tlvs.Passed = IsPassed bits kind

-- the text spells a TLV that says this
pub record SpellsTlv (t : Tlv) (text : List ℕ) : Type 0 where
  pub bits : ℕ
  pub kind : ℕ
  pub value : List ℕ
  pub is_type : IsType bits kind
  pub fits : length value < 2 ^ 16
  pub parts : text ≡ tlv bits kind value
  pub says : Says bits kind value t

-- the FEC and the label that a TLV tells, if it does
abbrev pub fec_of : Tlv → Option Fec
fec_of (tlvs.Fec f) = Some f
fec_of (tlvs.Label l) = None
fec_of tlvs.Passed = None

abbrev pub label_of : Tlv → Option ℕ
label_of (tlvs.Fec f) = None
label_of (tlvs.Label l) = Some l
label_of tlvs.Passed = None

-- no TLV among these tells one
abbrev pub NoneTells : {A : Type 0} → (Tlv → Option A) → List Tlv → Type 0
NoneTells told ts = AllByRecursion (λ t. told t ≡ None) ts

-- a FEC or label TLV is the first of its kind, after these
abbrev pub IsNew : List Tlv → Tlv → Type 0
IsNew before (tlvs.Fec f) = NoneTells fec_of before
IsNew before (tlvs.Label l) = NoneTells label_of before
IsNew before tlvs.Passed = ⊤

-- the octets are TLVs end to end that say these
abbrev pub AreTlvs : List ℕ → List Tlv → Type 0
AreTlvs body ts = AreParts SpellsTlv IsNew body ts []

-- ---- messages

abbrev pub type_of : LabelMessage → ℕ
type_of (messages.Mapping f l) = 0x0400
type_of (messages.Withdraw f l) = 0x0402
type_of (messages.Release f l) = 0x0403
type_of (messages.Ignored kind) = kind

-- the types of label mapping, withdraw and release (RFC 5036 section 3.7); all 16 bits tell a type
abbrev pub IsLabelType : ℕ → Type 0
IsLabelType kind = (kind ≡ 0x0400) ⊎ ((kind ≡ 0x0402) ⊎ (kind ≡ 0x0403))

-- TLVs end to end with this FEC and this label
pub record Carries (f : Fec) (l : ℕ) (body : List ℕ) : Type 0 where
  pub said : List Tlv
  pub are : AreTlvs body said
  pub has_fec : Contains said (tlvs.Fec f)
  pub has_label : Contains said (tlvs.Label l)

-- the value of a FEC TLV begins with the octet of no kind of multipoint element
pub record IsUnlikeValue (value : List ℕ) : Type 0 where
  pub octet : ℕ
  pub more : List ℕ
  pub parts : value ≡ octet ∷ more
  pub other : (k : FecKind) → octet ≢ fec.kind_octet k

-- such a TLV stands at the front, and anything after it
pub record UnlikeStands (octets : List ℕ) : Type 0 where
  pub bits : ℕ
  pub value : List ℕ
  pub after : List ℕ
  pub is_bits : bits < 4
  pub fits : length value < 2 ^ 16
  pub parts : octets ≡ tlv bits 0x0100 value ++ after
  pub unlike : IsUnlikeValue value

-- after TLVs without a FEC stands such a TLV
pub record IsUnlike (body : List ℕ) : Type 0 where
  pub before : List Tlv
  pub rest : List ℕ
  pub are : AreParts SpellsTlv IsNew body before rest
  pub no_fec : NoneTells fec_of before
  pub stands : UnlikeStands rest

-- what the octets after the message id mean, in a message of that type
abbrev pub Means : LabelMessage → ℕ → List ℕ → Type 0
Means (messages.Mapping f l) kind body = (kind ≡ 0x0400) × Carries f l body
Means (messages.Withdraw f l) kind body = (kind ≡ 0x0402) × Carries f l body
Means (messages.Release f l) kind body = (kind ≡ 0x0403) × Carries f l body
Means (messages.Ignored own) kind body = (kind ≡ own) × ((¬ IsLabelType kind) ⊎ (IsLabelType kind × IsUnlike body))

-- one message: type, length, any message id, and what is after it (RFC 5036 section 3.5)
pub record SpellsMessage (ms : List LabelMessage) (text : List ℕ) : Type 0 where
  pub message : LabelMessage
  pub kind : ℕ
  pub id : List ℕ
  pub body : List ℕ
  pub one : ms ≡ message ∷ []
  pub parts : text ≡ to_be_bytes w16 kind ++ (to_be_bytes w16 (4 + length body) ++ (id ++ body))
  pub id_len : length id ≡ 4
  pub kind_fits : kind < 2 ^ 16
  pub len_fits : 4 + length body < 2 ^ 16
  pub means : Means message kind body

-- a PDU with its messages: version, length, any LDP identifier, and the messages end to end (RFC 5036 section 3.1)
pub record SpellsPdu (ms : List LabelMessage) (text : List ℕ) : Type 0 where
  pub ident : List ℕ
  pub body : List ℕ
  pub parts : text ≡ to_be_bytes w16 1 ++ (to_be_bytes w16 (6 + length body) ++ (ident ++ body))
  pub ident_len : length ident ≡ 6
  pub fits : 6 + length body ≤ 4096
  pub messages : Begins SpellsMessage body ms []

-- ---- what is written

-- the FEC TLV and the label TLV, with U and F clear
abbrev pub written_tlvs : Fec → ℕ → List ℕ
written_tlvs f l = tlv 0 0x0100 (fec.written f) ++ tlv 0 0x0200 (to_be_bytes w32 l)

abbrev pub written_body : LabelMessage → List ℕ
written_body (messages.Mapping f l) = written_tlvs f l
written_body (messages.Withdraw f l) = written_tlvs f l
written_body (messages.Release f l) = written_tlvs f l
written_body (messages.Ignored kind) = []

-- the message with that id
abbrev pub written_message : ℕ → LabelMessage → List ℕ
written_message id m =
    to_be_bytes w16 (type_of m)
    ++ (to_be_bytes w16 (4 + length (written_body m)) ++ (to_be_bytes w32 id ++ written_body m))

-- a PDU with this message alone: the LDP identifier is the router's, of label space 0 (RFC 5036 section 2.2.2)
abbrev pub written : Addr → ℕ → LabelMessage → List ℕ
written me id m =
    to_be_bytes w16 1
    ++ (to_be_bytes w16 (6 + length (written_message id m))
    ++ ((addr_octets me ++ 0 ∷ 0 ∷ []) ++ written_message id m))

-- the FEC has a spelling
abbrev pub IsElement : Fec → Type 0
IsElement f = fec.Spells f (fec.written f)

-- the message has such a FEC, and a label
abbrev pub IsWritable : LabelMessage → Type 0
IsWritable (messages.Mapping f l) = IsElement f × IsLabel l
IsWritable (messages.Withdraw f l) = IsElement f × IsLabel l
IsWritable (messages.Release f l) = IsElement f × IsLabel l
IsWritable (messages.Ignored kind) = ⊥

-- the router's id is an IPv4 address
abbrev pub IsRouter : Addr → Type 0
IsRouter me = length (addr_octets me) ≡ 4
