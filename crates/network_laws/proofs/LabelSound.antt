-- Label messages, calls and puts with sound values.
use Rattle.std.proofs.Common.{ℕ, ◌+◌, ◌*◌, ◌^◌, List, [], ◌∷◌, ◌++◌, length, arith}
use Rattle.std.specs.Int.{w16, w32, to_be_bytes}
use Rattle.mv_base.specs.Address.{addr_octets}
use Rattle.mv_base.specs.Octets.{IsOctets}
use Rattle.mv_base.specs.declared.addr.Addr.{Addr}
use Rattle.mldp.specs.mldp_fec.Spelling as fecs
use Rattle.mldp.specs.declared.mldp_fec.fec.Fec.{Fec}
use Rattle.mldp.specs.mldp_msgs.Spelling.{IsLabel, IsWritable, tlv, type_of, written_tlvs, written_body, written_message, written}
use Rattle.mldp.specs.declared.mldp_msgs.message.LabelMessage.{LabelMessage}
use Rattle.mldp.specs.declared.mldp_msgs.message.LabelMessage.TheVariants as messages
use Rattle.label_defs.specs.declared.put.Put.{Put}
use Rattle.label_defs.specs.Steps.{Call, Taken, Want, Unwant, Raised, Noticed, Timers, Rerouted}
use Rattle.network_laws.specs.Sound.{IsSoundFec}
use Rattle.network_laws.proofs.BgpOctets.{no_octets, octets_cons, octets_append, octets_of_16, octets_of_32}

-- the FEC has a spelling in octets, and the label is none of the reserved ones
abbrev pub IsSoundLabelMessage : LabelMessage → Type 0
IsSoundLabelMessage (messages.Mapping fec label) = IsSoundFec fec × IsLabel label
IsSoundLabelMessage (messages.Withdraw fec label) = IsSoundFec fec × IsLabel label
IsSoundLabelMessage (messages.Release fec label) = IsSoundFec fec × IsLabel label
IsSoundLabelMessage (messages.Ignored kind) = Unit {0}

abbrev pub IsSoundLabelCall : Call → Type 0
IsSoundLabelCall (Taken from message) = IsSoundLabelMessage message
IsSoundLabelCall (Want fec) = IsSoundFec fec
IsSoundLabelCall (Unwant fec) = IsSoundFec fec
IsSoundLabelCall (Raised peer) = Unit {0}
IsSoundLabelCall (Noticed peer) = Unit {0}
IsSoundLabelCall Timers = Unit {0}
IsSoundLabelCall Rerouted = Unit {0}

-- the message can be written, in octets
abbrev pub IsSoundPut : Put → Type 0
IsSoundPut put = IsWritable put.message × IsOctets (written_body put.message)

-- ---- octets

-- a number in front
octets_after16 : (n : ℕ) (b : List ℕ) → IsOctets b → IsOctets (to_be_bytes w16 n ++ b)
octets_after16 n b p = octets_append (to_be_bytes w16 n) b (octets_of_16 n) p

tlv_octets : (kind : ℕ) (value : List ℕ) → IsOctets value → IsOctets (tlv 0 kind value)
tlv_octets kind value p = octets_after16 (0 * 2 ^ 14 + kind) (to_be_bytes w16 (length value) ++ value) (octets_after16 (length value) value p)

tlvs_octets : (fec : Fec) (label : ℕ) → IsOctets (fecs.written fec) → IsOctets (written_tlvs fec label)
tlvs_octets fec label p =
    octets_append (tlv 0 256 (fecs.written fec)) (tlv 0 512 (to_be_bytes w32 label)) (tlv_octets 256 (fecs.written fec) p)
    (tlv_octets 512 (to_be_bytes w32 label) (octets_of_32 label))

message_octets : (id : ℕ) (message : LabelMessage) → IsOctets (written_body message) → IsOctets (written_message id message)
message_octets id message p =
    let body : List ℕ = written_body message in
    octets_after16 (type_of message) (to_be_bytes w16 (4 + length body) ++ (to_be_bytes w32 id ++ body))
    (octets_after16 (4 + length body) (to_be_bytes w32 id ++ body) (octets_append (to_be_bytes w32 id) body (octets_of_32 id) p))

-- what is written of a message is octets
pub pdu_octets : (addr : Addr) (id : ℕ) (message : LabelMessage) → IsOctets (addr_octets addr) → IsOctets (written_body message)
    → IsOctets (written addr id message)
pdu_octets addr id message own p =
    let text : List ℕ = written_message id message in
    let ident : List ℕ = addr_octets addr ++ 0 ∷ 0 ∷ [] in
    let ident_fits : IsOctets ident =
    octets_append (addr_octets addr) (0 ∷ 0 ∷ []) own (octets_cons 0 (0 ∷ []) (omega arith) (octets_cons 0 [] (omega arith) no_octets)) in
    octets_after16 1 (to_be_bytes w16 (6 + length text) ++ (ident ++ text))
    (octets_after16 (6 + length text) (ident ++ text) (octets_append ident text ident_fits (message_octets id message p)))

-- ---- puts

pub mapping_sound : (to : _) (fec : Fec) (label : ℕ) → IsSoundFec fec → IsLabel label
    → IsSoundPut (record { to = to; message = messages.Mapping fec label })
mapping_sound to fec label sound own = ((sound.0, own), tlvs_octets fec label sound.1)

pub withdraw_sound : (to : _) (fec : Fec) (label : ℕ) → IsSoundFec fec → IsLabel label
    → IsSoundPut (record { to = to; message = messages.Withdraw fec label })
withdraw_sound to fec label sound own = ((sound.0, own), tlvs_octets fec label sound.1)

pub release_sound : (to : _) (fec : Fec) (label : ℕ) → IsSoundFec fec → IsLabel label
    → IsSoundPut (record { to = to; message = messages.Release fec label })
release_sound to fec label sound own = ((sound.0, own), tlvs_octets fec label sound.1)
