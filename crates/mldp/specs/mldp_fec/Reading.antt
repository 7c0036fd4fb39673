-- Reading a FEC element from left to right, with the first fault that is met.
use Rattle.std.specs.Prelude.{ℕ, ◌+◌, List, Option, Some, None, Result, Ok, Err, nat_le, ◌==◌, if◌then◌else◌}
use Rattle.std.specs.Int.{w16}
use Rattle.mv_base.specs.framing.Walk.{walk}
use Rattle.mv_base.specs.Octets.{Cursor}
use Rattle.mv_base.specs.Cursor.{octet_at, octets_at, number_at, ◌>>=◌, field, known, checked}
use Rattle.mv_base.specs.declared.reader.Short.{Short as TooFew}
use Rattle.mv_base.specs.declared.addr.Addr.{Addr}
use Rattle.mv_base.specs.declared.addr.Addr.TheVariants.{V4, V6}
use Rattle.mldp.specs.declared.mldp_fec.fault.FecFault.{FecFault}
use Rattle.mldp.specs.declared.mldp_fec.fault.FecReason.{FecReason}
use Rattle.mldp.specs.declared.mldp_fec.fault.FecReason.TheVariants.{Short, Kind, Family, AddressLength, OpaqueShape, OpaqueTooLong}
use Rattle.mldp.specs.declared.mldp_fec.fec.FecKind.{FecKind}
use Rattle.mldp.specs.declared.mldp_fec.fec.FecKind.TheVariants.{P2mp, Up, Down}
use Rattle.mldp.specs.declared.mldp_fec.fec.Fec.{Fec}
use Rattle.mldp.specs.mldp_fec.Shape.{tlv_len}
use Rattle.mldp.specs.mldp_fec.Spelling.{Version, four, six, address_len}

-- a fault at that place
abbrev pub fault : ℕ → FecReason → FecFault
fault place reason = record { place = place; reason = reason }

-- a field whose only fault is Short
abbrev pub part : {A : Type 0} → Result A TooFew → Result A FecFault
part read = field (λ place. fault place Short) read

-- the kind of that octet
abbrev pub kind_of : ℕ → Option FecKind
kind_of octet = if octet == 6 then Some P2mp else if octet == 7 then Some Up else if octet == 8 then Some Down else None

-- the kind
unfoldable pub kind_at : Cursor → Result (FecKind × Cursor) FecFault
kind_at c = do
  octet ← part (octet_at c)
  known (kind_of octet.0) (fault c.place Kind) octet.1

-- the family of that number
abbrev pub version_of : ℕ → Option Version
version_of number = if number == 1 then Some four else if number == 2 then Some six else None

-- the address of those octets
abbrev pub addr_of : Version → List ℕ → Addr
addr_of four octets = V4 octets
addr_of six octets = V6 octets

-- an address length, which has to be this one
abbrev pub len_at : ℕ → Cursor → Result (Unit {0} × Cursor) FecFault
len_at wanted c = do
  len ← part (octet_at c)
  checked (len.0 == wanted) (fault c.place AddressLength) (tt, len.1)

-- the root: family, address length and address
unfoldable pub root_at : Cursor → Result (Addr × Cursor) FecFault
root_at c = do
  number ← part (number_at w16 c)
  version ← known (version_of number.0) (fault c.place Family) number.1
  len ← len_at (address_len version.0) version.1
  octets ← part (octets_at (address_len version.0) len.1)
  Ok (addr_of version.0 octets.0, octets.1)

-- what was read, where no place of it is misshapen
abbrev pub shaped : {A : Type 0} → ℕ → Option ℕ → A → Result A FecFault
shaped place None x = Ok x
shaped place (Some offset) x = Err (fault (place + offset) OpaqueShape)

-- the opaque value, after its length
unfoldable pub opaque_at : Cursor → Result (List ℕ × Cursor) FecFault
opaque_at c = do
  len ← part (number_at w16 c)
  rest ← checked (nat_le len.0 64) (fault c.place OpaqueTooLong) len.1
  octets ← part (octets_at len.0 rest)
  shaped rest.place (walk tlv_len 0 0 octets.0) octets

-- a FEC element: kind, root and opaque value
unfoldable pub fec_at : Cursor → Result (Fec × Cursor) FecFault
fec_at c = do
  kind ← kind_at c
  root ← root_at kind.1
  opaque ← opaque_at root.1
  Ok (record { kind = kind.0; root = root.0; opaque = opaque.0 }, opaque.1)
