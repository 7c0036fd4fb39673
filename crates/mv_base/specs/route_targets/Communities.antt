-- The extended communities of routes of multicast VPNs, by their octets.
use Rattle.std.specs.Prelude.{◌≡◌, ◌⊎◌, ℕ, List, [], ◌∷◌, ◌++◌, take, drop}
use Rattle.std.specs.Int.{w16, to_be_bytes}
use Rattle.mv_base.specs.declared.route_targets.communities.ExtComm.{ExtComm}

-- type and sub-type (RFC 4360 section 2)
abbrev pub kind : ExtComm → List ℕ
kind c = take 2 c.0

-- a VRF Route Import (RFC 6514 section 7): type and sub-type, an IPv4 address, and the number of a VRF there
abbrev pub import_octets : List ℕ → ℕ → List ℕ
import_octets address number = 0x01 ∷ 0x0B ∷ (address ++ to_be_bytes w16 number)

-- a Source AS (RFC 6514 section 6): type and sub-type, an AS number of two octets, and zeros
abbrev pub source_as_octets : ℕ → List ℕ
source_as_octets number = 0x00 ∷ 0x09 ∷ (to_be_bytes w16 number ++ 0 ∷ 0 ∷ 0 ∷ 0 ∷ [])

-- A community is a VRF Route Import by its type and sub-type.
abbrev pub IsImport : ExtComm → Type 0
IsImport c = kind c ≡ 0x01 ∷ 0x0B ∷ []

-- A community is a Source AS by its type and sub-type, and by the zeros after the AS number.
abbrev pub IsSourceAs : ExtComm → Type 0
IsSourceAs c = (kind c ≡ 0x00 ∷ 0x09 ∷ []) × (drop 4 c.0 ≡ 0 ∷ 0 ∷ 0 ∷ 0 ∷ [])

-- A community is a Route Target by its type, which is 0, 1 or 2, and its sub-type (RFC 4360 section 4, RFC 5668 section 2).
abbrev pub IsRouteTarget : ExtComm → Type 0
IsRouteTarget c = (kind c ≡ 0x00 ∷ 0x02 ∷ []) ⊎ ((kind c ≡ 0x01 ∷ 0x02 ∷ []) ⊎ (kind c ≡ 0x02 ∷ 0x02 ∷ []))
