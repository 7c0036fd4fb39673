-- Reading TLVs, messages and PDUs from left to right, with the first fault that is met.
use Rattle.std.specs.Prelude.{ℕ, ◌+◌, ◌-◌, ◌/◌, ◌%◌, ◌^◌, List, [], ◌∷◌, length, take, drop, Bool, false, Option}
use Rattle.std.specs.Prelude.{Some, None, is_some, Result, Ok, Err, nat_lt, ◌==◌, ◌||◌, not, if◌then◌else◌}
use Rattle.std.specs.Int.{w16, w32, from_be_bytes}
use Rattle.mv_base.specs.framing.Cut.{Front, Cut, cut}
use Rattle.mv_base.specs.framing.Cut.Front.{more, whole, bad}
use Rattle.mv_base.specs.framing.Parts.{parts_of}
use Rattle.mv_base.specs.Octets.{Cursor}
use Rattle.mv_base.specs.Cursor.{start}
use Rattle.mldp.specs.mldp_fec.Reading.{fec_at}
use Rattle.mldp.specs.declared.mldp_fec.fec.Fec.{Fec}
use Rattle.mldp.specs.declared.mldp_fec.fault.FecFault.{FecFault}
use Rattle.mldp.specs.declared.mldp_msgs.fault.LdpFault.{LdpFault}
use Rattle.mldp.specs.declared.mldp_msgs.fault.LdpFault.TheVariants as faults
use Rattle.mldp.specs.declared.mldp_msgs.message.LabelMessage.{LabelMessage}
use Rattle.mldp.specs.declared.mldp_msgs.message.LabelMessage.TheVariants as messages
use Rattle.mldp.specs.declared.mldp_msgs.reading.LabelType.{LabelType}
use Rattle.mldp.specs.declared.mldp_msgs.reading.LabelType.TheVariants as types
use Rattle.mldp.specs.declared.mldp_msgs.tlv.Found.{Found}
use Rattle.mldp.specs.declared.mldp_msgs.tlv.Stop.{Stop}
use Rattle.mldp.specs.declared.mldp_msgs.tlv.Stop.TheVariants as stops
use Rattle.mldp.specs.declared.mldp_msgs.tlv.Tlv.{Tlv}
use Rattle.mldp.specs.declared.mldp_msgs.tlv.Tlv.TheVariants as tlvs
use Rattle.mldp.specs.declared.mldp_msgs.tlv.TlvKind.{TlvKind}
use Rattle.mldp.specs.declared.mldp_msgs.tlv.TlvKind.TheVariants as kinds
use Rattle.mldp.specs.mldp_msgs.Spelling.{fec_of, label_of}

-- the numbers in the first two octets, and in the next two
abbrev pub first : List ℕ → ℕ
first octets = from_be_bytes w16 (take 2 octets)

abbrev pub second : List ℕ → ℕ
second octets = from_be_bytes w16 (take 2 (drop 2 octets))

-- what was read, and how many octets it has
abbrev pub sized : {A E : Type 0} → ℕ → Result A E → Result (A × ℕ) E
sized n (Ok x) = Ok (x, n)
sized n (Err f) = Err f

-- ---- TLVs

-- a fault at that place
abbrev pub misfit : ℕ → LdpFault → ℕ × Stop
misfit place e = (place, stops.Fault e)

-- what was told last
abbrev pub told_or : {A : Type 0} → Option A → Option A → Option A
told_or (Some x) o = Some x
told_or None o = o

abbrev pub latest : {A : Type 0} → (Tlv → Option A) → Option A → List Tlv → Option A
latest told o [] = o
latest told o (t ∷ ts) = latest told (told_or (told t) o) ts

-- what is known after one more TLV, and after these
abbrev pub found_with : Found → Tlv → Found
found_with found t = record { fec = told_or (fec_of t) found.fec; label = told_or (label_of t) found.label }

abbrev pub found_of : List Tlv → Found
found_of ts = record { fec = latest fec_of None ts; label = latest label_of None ts }

-- how a TLV of that type is read, with its U bit
abbrev pub kind_by : ℕ → ℕ → Option TlvKind
kind_by kind unknown =
    if kind == 0x0100 then Some kinds.Fec else
    if kind == 0x0200 then Some kinds.Label else
    if kind == 0x0103 then Some kinds.Passed else
    if kind == 0x0104 then Some kinds.Passed else
    if kind == 0x0300 then Some kinds.Passed else
    if kind == 0x0600 then Some kinds.Passed else
    if unknown == 1 then Some kinds.Passed else None

unfoldable pub kind_of : ℕ → Option TlvKind
kind_of number = kind_by (number % 2 ^ 14) (number / 2 ^ 15)

-- the first octet is of no kind of multipoint element
abbrev pub is_unlike : List ℕ → Bool
is_unlike [] = false
is_unlike (octet ∷ rest) = nat_lt octet 6 || nat_lt 8 octet

abbrev pub element_by : ℕ → Result (Fec × Cursor) FecFault → Result Tlv (ℕ × Stop)
element_by len (Ok x) = if not (x.1.place == len) then Err (misfit 0 faults.TlvLength) else Ok (tlvs.Fec x.0)
element_by len (Err f) = Err (misfit (4 + f.place) (faults.Fec f.reason))

-- the element that is all of the value
unfoldable pub element_of : List ℕ → Result Tlv (ℕ × Stop)
element_of value = element_by (length value) (fec_at (start value))

abbrev pub first_element : Bool → List ℕ → Result Tlv (ℕ × Stop)
first_element known value =
    if known then Err (misfit 0 faults.TlvLength) else
    if is_unlike value then Err (0, stops.Unlike) else element_of value

-- the label in the low 20 bits
abbrev pub label_by : ℕ → Result Tlv (ℕ × Stop)
label_by label = if nat_lt label 16 then Err (misfit 4 faults.Label) else Ok (tlvs.Label label)

unfoldable pub label_at : Bool → List ℕ → Result Tlv (ℕ × Stop)
label_at known value =
    if known then Err (misfit 0 faults.TlvLength) else
    if not (length value == 4) then Err (misfit 0 faults.TlvLength) else label_by (from_be_bytes w32 value % 2 ^ 20)

unfoldable pub value_of : Found → TlvKind → List ℕ → Result Tlv (ℕ × Stop)
value_of found kinds.Fec value = first_element (is_some found.fec) value
value_of found kinds.Label value = label_at (is_some found.label) value
value_of found kinds.Passed value = Ok tlvs.Passed

abbrev pub tlv_by : Found → Option TlvKind → List ℕ → Result (Tlv × ℕ) (ℕ × Stop)
tlv_by found None octets = Err (misfit 0 faults.UnknownTlv)
tlv_by found (Some kind) octets =
    if nat_lt (length octets) 4 then Err (misfit 0 faults.TlvLength) else
    if nat_lt (length octets) (4 + second octets) then Err (misfit 0 faults.TlvLength) else
    sized (4 + second octets) (value_of found kind (take (second octets) (drop 4 octets)))

-- the TLV at the front, where those before told so much
unfoldable pub tlv_at : Found → List ℕ → Result (Tlv × ℕ) (ℕ × Stop)
tlv_at found octets =
    if nat_lt (length octets) 2 then Err (misfit 0 faults.TlvLength) else tlv_by found (kind_of (first octets)) octets

abbrev pub next_tlv : List Tlv → List ℕ → Result (Tlv × ℕ) (ℕ × Stop)
next_tlv before octets = tlv_at (found_of before) octets

-- what was told by the TLVs that were read
abbrev pub found_in : Result (List Tlv) (ℕ × Stop) → Result Found (ℕ × Stop)
found_in (Ok ts) = Ok (found_of ts)
found_in (Err f) = Err f

-- ---- messages

abbrev pub label_type : ℕ → Option LabelType
label_type kind =
    if kind == 0x0400 then Some types.Mapping else
    if kind == 0x0402 then Some types.Withdraw else
    if kind == 0x0403 then Some types.Release else None

abbrev pub message_of : LabelType → Fec → ℕ → LabelMessage
message_of types.Mapping f l = messages.Mapping f l
message_of types.Withdraw f l = messages.Withdraw f l
message_of types.Release f l = messages.Release f l

abbrev pub labelled : LabelType → Option Fec → Option ℕ → Result LabelMessage (ℕ × LdpFault)
labelled kind (Some f) (Some l) = Ok (message_of kind f l)
labelled kind (Some f) None = Err (0, faults.MissingTlv)
labelled kind None o = Err (0, faults.MissingTlv)

abbrev pub stopped : ℕ → ℕ → Stop → Result LabelMessage (ℕ × LdpFault)
stopped kind place stops.Unlike = Ok (messages.Ignored kind)
stopped kind place (stops.Fault e) = Err (8 + place, e)

abbrev pub content_by : LabelType → ℕ → Result Found (ℕ × Stop) → Result LabelMessage (ℕ × LdpFault)
content_by label_type kind (Ok found) = labelled label_type found.fec found.label
content_by label_type kind (Err f) = stopped kind f.0 f.1

abbrev pub body_by : Option LabelType → ℕ → List ℕ → Result LabelMessage (ℕ × LdpFault)
body_by None kind body = Ok (messages.Ignored kind)
body_by (Some label_type) kind body = content_by label_type kind (found_in (parts_of next_tlv body))

-- what the octets after the message id say
unfoldable pub body_of : ℕ → List ℕ → Result LabelMessage (ℕ × LdpFault)
body_of kind body = body_by (label_type kind) kind body

abbrev pub message_by : ℕ → ℕ → List ℕ → Result (LabelMessage × ℕ) (ℕ × LdpFault)
message_by kind len octets =
    if nat_lt len 4 then Err (2, faults.MessageLength) else
    if nat_lt (length octets) (4 + len) then Err (2, faults.MessageLength) else
    sized (4 + len) (body_of kind (take (len - 4) (drop 8 octets)))

-- the message at the front
unfoldable pub message_at : List ℕ → Result (LabelMessage × ℕ) (ℕ × LdpFault)
message_at octets =
    if nat_lt (length octets) 4 then Err (0, faults.MessageLength) else message_by (first octets) (second octets) octets

-- what stands at the front of a PDU's octets
abbrev pub seen : Result (LabelMessage × ℕ) (ℕ × LdpFault) → Front LabelMessage LdpFault
seen (Ok x) = whole x.1 (x.0 ∷ [])
seen (Err f) = bad [] f.0 f.1

abbrev pub message_front : List ℕ → Front LabelMessage LdpFault
message_front [] = more
message_front (b ∷ bs) = seen (message_at (b ∷ bs))

-- ---- PDUs

-- a whole PDU whose messages were cut so: where one is at fault, those before it are given with the fault
abbrev pub pdu_of : ℕ → List LabelMessage → Option (ℕ × LdpFault) → Front LabelMessage LdpFault
pdu_of n ms None = whole n ms
pdu_of n ms (Some f) = bad ms (10 + f.0) f.1

abbrev pub pdu_cut : ℕ → Cut LabelMessage LdpFault → Front LabelMessage LdpFault
pdu_cut n c = pdu_of n c.messages c.fault

abbrev pub pdu_by : ℕ → ℕ → List ℕ → Front LabelMessage LdpFault
pdu_by version len octets =
    if not (version == 1) then bad [] 0 faults.Version else
    if nat_lt len 6 then bad [] 2 faults.PduLength else
    if nat_lt 4096 len then bad [] 2 faults.PduLength else
    if nat_lt (length octets) (4 + len) then more else
    pdu_cut (4 + len) (cut message_front (take (len - 6) (drop 10 octets)))

-- what stands at the front of a stream
unfoldable pub pdu_front : List ℕ → Front LabelMessage LdpFault
pdu_front octets =
    if nat_lt (length octets) 4 then more else pdu_by (first octets) (second octets) octets
