-- The first fault of octets: whole fields that meet their conditions stand before its place, and the next one fails.
use Rattle.std.specs.Prelude.{◌≡◌, ◌≢◌, ℕ, ◌+◌, ◌<◌, ◌≤◌, ◌^◌, List, [], ◌∷◌, length}
use Rattle.std.specs.Int.{w16, to_be_bytes}
use Rattle.mv_base.specs.framing.Walk.{StopsAt}
use Rattle.mv_base.specs.Address.{IsAddr}
use Rattle.mv_base.specs.Octets.{Cursor, Passes}
use Rattle.mv_base.specs.declared.addr.Addr.{Addr}
use Rattle.mldp.specs.declared.mldp_fec.fault.FecFault.{FecFault}
use Rattle.mldp.specs.declared.mldp_fec.fault.FecReason.{FecReason}
use Rattle.mldp.specs.declared.mldp_fec.fault.FecReason.TheVariants.{Short, Kind, Family, AddressLength, OpaqueShape, OpaqueTooLong}
use Rattle.mldp.specs.declared.mldp_fec.fec.FecKind.{FecKind}
use Rattle.mldp.specs.mldp_fec.Spelling.{tlv, IsTlv, kind_octet, root, Version, family, address_len}

-- the fault is this one
abbrev pub Is : FecFault → ℕ → FecReason → Type 0
Is f place reason = f ≡ record { place = place; reason = reason }

-- the next field has more octets than are left
abbrev pub Lacks : Cursor → ℕ → FecFault → Type 0
Lacks c n f = (length c.left < n) × Is f c.place Short

-- the kind fails
pub data KindFault (c : Cursor) (f : FecFault) : Type 0 where
  short : Lacks c 1 f → KindFault c f
  wrong : (octet : ℕ) (d : Cursor) → Passes c (octet ∷ []) d → ((k : FecKind) → octet ≢ kind_octet k) → Is f c.place Kind → KindFault c f

-- the family, the address length or the address fails
pub data RootFault (c : Cursor) (f : FecFault) : Type 0 where
  family_short : Lacks c 2 f → RootFault c f
  family_wrong : (n : ℕ) (d : Cursor) → Passes c (to_be_bytes w16 n) d → n < 2 ^ 16 → ((v : Version) → n ≢ family v) →
      Is f c.place Family → RootFault c f
  len_short : (v : Version) (d : Cursor) → Passes c (to_be_bytes w16 (family v)) d → Lacks d 1 f → RootFault c f
  len_wrong : (v : Version) (d : Cursor) (octet : ℕ) (e : Cursor) → Passes c (to_be_bytes w16 (family v)) d →
      Passes d (octet ∷ []) e → octet ≢ address_len v → Is f d.place AddressLength → RootFault c f
  address_short : (v : Version) (d e : Cursor) → Passes c (to_be_bytes w16 (family v)) d → Passes d (address_len v ∷ []) e →
      Lacks e (address_len v) f → RootFault c f

-- the opaque length or the opaque value fails; a length above 64 is a fault before the value's octets are asked for
pub data OpaqueFault (c : Cursor) (f : FecFault) : Type 0 where
  len_short : Lacks c 2 f → OpaqueFault c f
  too_long : (n : ℕ) (d : Cursor) → Passes c (to_be_bytes w16 n) d → n < 2 ^ 16 → 64 < n → Is f c.place OpaqueTooLong → OpaqueFault c f
  short : (n : ℕ) (d : Cursor) → Passes c (to_be_bytes w16 n) d → n ≤ 64 → Lacks d n f → OpaqueFault c f
  misshapen : (value : List ℕ) (d e : Cursor) (offset : ℕ) → Passes c (to_be_bytes w16 (length value)) d → length value ≤ 64 →
      Passes d value e → StopsAt tlv IsTlv value offset → Is f (d.place + offset) OpaqueShape → OpaqueFault c f

-- the first fault of what stands at the cursor
pub data FirstFault (c : Cursor) (f : FecFault) : Type 0 where
  in_kind : KindFault c f → FirstFault c f
  in_root : (k : FecKind) (d : Cursor) → Passes c (kind_octet k ∷ []) d → RootFault d f → FirstFault c f
  in_opaque : (k : FecKind) (a : Addr) (d e : Cursor) → Passes c (kind_octet k ∷ []) d → IsAddr a → Passes d (root a) e →
      OpaqueFault e f → FirstFault c f
