-- How many octets are written.
use Rattle.std.proofs.Common.{◌≡◌, ℕ, ◌+◌, ◌≤◌, length, arith}
use Rattle.std.specs.Int.{w32, to_be_bytes}
use Rattle.std.proofs.lemmas.List.{length-append}
use Rattle.mv_base.specs.Address.{IsAddr}
use Rattle.mv_base.specs.declared.addr.Addr.{Addr}
use Rattle.mv_base.specs.declared.addr.Addr.TheVariants.{V4, V6}
use Rattle.mldp.specs.mldp_fec.Spelling as fec
use Rattle.mldp.specs.declared.mldp_fec.fec.Fec.{Fec}
use Rattle.mldp.specs.declared.mldp_msgs.message.LabelMessage.{LabelMessage}
use Rattle.mldp.specs.declared.mldp_msgs.message.LabelMessage.TheVariants as messages
use Rattle.mldp.specs.mldp_msgs.Spelling.{tlv, written_tlvs, written_body, IsElement, IsWritable}

root_len : (a : Addr) → IsAddr a → length (fec.root a) ≤ 19
root_len (V4 octets) h = omega (arith, h)
root_len (V6 octets) h = omega (arith, h)

-- A FEC element has at most 86 octets.
pub element_len : (f : Fec) → IsElement f → length (fec.written f) ≤ 86
element_len f s = omega (arith, root_len f.root s.root, s.fits, length-append (fec.root f.root) (fec.opaque f.opaque))

tlvs_len : (f : Fec) (l : ℕ) → length (written_tlvs f l) ≡ 12 + length (fec.written f)
tlvs_len f l = omega (arith, length-append (tlv 0 0x0100 (fec.written f)) (tlv 0 0x0200 (to_be_bytes w32 l)))

-- The TLVs of a message have at most 98.
pub body_len : (m : LabelMessage) → IsWritable m → length (written_body m) ≤ 98
body_len (messages.Mapping f l) h = omega (arith, tlvs_len f l, element_len f h.0)
body_len (messages.Withdraw f l) h = omega (arith, tlvs_len f l, element_len f h.0)
body_len (messages.Release f l) h = omega (arith, tlvs_len f l, element_len f h.0)
body_len (messages.Ignored kind) h = absurd h
