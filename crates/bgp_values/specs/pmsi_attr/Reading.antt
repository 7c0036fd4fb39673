-- Reading a PMSI Tunnel attribute from left to right, with the first fault that is met.
use Rattle.std.specs.Prelude.{ℕ, ◌+◌, ◌/◌, bit_and, List, [], ◌∷◌, length, Bool, true, false, Option}
use Rattle.std.specs.Prelude.{Some, None, Result, Ok, Err, nat_lt, nat_le, ◌==◌, ◌&&◌, if◌then◌else◌}
use Rattle.std.specs.Int.{w32, from_be_bytes}
use Rattle.mv_base.specs.Cursor.{start, ◌>>=◌, checked}
use Rattle.mv_base.specs.declared.addr.Addr.TheVariants.{V4, V6}
use Rattle.mldp.specs.declared.mldp_fec.fault.FecFault.{FecFault}
use Rattle.mldp.specs.declared.mldp_fec.fec.FecKind.{FecKind}
use Rattle.mldp.specs.declared.mldp_fec.fec.FecKind.TheVariants.{P2mp, Up, Down}
use Rattle.mldp.specs.mldp_fec.Reading.{fec_at}
use Rattle.bgp_values.specs.declared.pmsi_attr.fault.PmsiFault.{PmsiFault}
use Rattle.bgp_values.specs.declared.pmsi_attr.fault.PmsiReason.{PmsiReason}
use Rattle.bgp_values.specs.declared.pmsi_attr.fault.PmsiReason.TheVariants as reasons
use Rattle.bgp_values.specs.declared.pmsi_attr.pmsi.Tunnel.{Tunnel}
use Rattle.bgp_values.specs.declared.pmsi_attr.pmsi.Tunnel.TheVariants as tunnels
use Rattle.bgp_values.specs.declared.pmsi_attr.pmsi.Pmsi.{Pmsi}

-- a fault at that place
abbrev pub fault : ℕ → PmsiReason → PmsiFault
fault place reason = record { place = place; reason = reason }

-- the tunnel type has no such identifier
abbrev pub misfit : PmsiFault
misfit = fault 5 reasons.Identifier

-- whether a kind of FEC element is P2MP
abbrev pub is_p2mp : FecKind → Bool
is_p2mp P2mp = true
is_p2mp Up = false
is_p2mp Down = false

-- what was read of the identifier, or its fault moved by the place of the identifier
abbrev pub moved : {A : Type 0} → Result A FecFault → Result A PmsiFault
moved (Ok x) = Ok x
moved (Err f) = Err (fault (5 + f.place) (reasons.Fec f.reason))

-- no octets
abbrev pub none_of : List ℕ → Result Tunnel PmsiFault
none_of octets = checked (length octets == 0) misfit tunnels.None

-- a P2MP FEC element that is all of the octets
unfoldable pub mldp_of : List ℕ → Result Tunnel PmsiFault
mldp_of octets = do
  element ← moved (fec_at (start octets))
  checked (is_p2mp element.0.kind && (element.1.place == length octets)) misfit (tunnels.Mldp element.0)

-- an address
abbrev pub ingress_of : List ℕ → Result Tunnel PmsiFault
ingress_of octets =
    if length octets == 4 then Ok (tunnels.Ingress (V4 octets)) else
    if length octets == 16 then Ok (tunnels.Ingress (V6 octets)) else Err misfit

-- the octets as they stand
abbrev pub other_of : ℕ → List ℕ → Result Tunnel PmsiFault
other_of kind octets = checked (nat_le (length octets) 96) misfit (tunnels.Other kind octets)

-- the tunnel of that type with that identifier
unfoldable pub tunnel_of : ℕ → List ℕ → Result Tunnel PmsiFault
tunnel_of kind octets =
    if kind == 0 then none_of octets else
    if kind == 2 then mldp_of octets else
    if kind == 6 then ingress_of octets else other_of kind octets

-- the label in the high 20 bits of a number of 24 bits
abbrev pub label_of : ℕ → Option ℕ
label_of number = if number / 16 == 0 then None else Some (number / 16)

-- label and identifier, after flags and type
unfoldable pub label_after : ℕ → ℕ → List ℕ → Result Pmsi PmsiFault
label_after flags kind [] = Err (fault 2 reasons.Short)
label_after flags kind (a ∷ []) = Err (fault 2 reasons.Short)
label_after flags kind (a ∷ b ∷ []) = Err (fault 2 reasons.Short)
label_after flags kind (a ∷ b ∷ c ∷ octets) = do
  tunnel ← tunnel_of kind octets
  Ok (record { leaf_info = bit_and flags 1 == 1; tunnel = tunnel; label = label_of (from_be_bytes w32 (0 ∷ a ∷ b ∷ c ∷ [])) })

-- the whole value
unfoldable pub pmsi_of : List ℕ → Result Pmsi PmsiFault
pmsi_of [] = Err (fault 0 reasons.Short)
pmsi_of (flags ∷ []) = Err (fault 1 reasons.Short)
pmsi_of (flags ∷ kind ∷ rest) = if nat_lt 7 kind then Err (fault 1 reasons.TunnelType) else label_after flags kind rest
