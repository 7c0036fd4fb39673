-- FEC elements (RFC 6388 sections 2.2 and 3.2), and the one spelling of each.
use Rattle.std.specs.Prelude.{◌≡◌, ◌≢◌, ℕ, ◌<◌, ◌≤◌, ◌^◌, List, ◌∷◌, ◌++◌, length}
use Rattle.std.specs.Int.{w16, to_be_bytes}
use Rattle.mv_base.specs.framing.Walk.{AreWhole}
use Rattle.mv_base.specs.Address.{IsAddr}
use Rattle.mv_base.specs.declared.addr.Addr.{Addr}
use Rattle.mv_base.specs.declared.addr.Addr.TheVariants.{V4, V6}
use Rattle.mldp.specs.declared.mldp_fec.fec.FecKind.{FecKind}
use Rattle.mldp.specs.declared.mldp_fec.fec.FecKind.TheVariants.{P2mp, Up, Down}
use Rattle.mldp.specs.declared.mldp_fec.fec.Fec.{Fec}

-- the octet of each kind
abbrev pub kind_octet : FecKind → ℕ
kind_octet P2mp = 6
kind_octet Up = 7
kind_octet Down = 8

-- the families of addresses
pub data Version : Type 0 where
  four : Version
  six : Version

-- the number of a family
abbrev pub family : Version → ℕ
family four = 1
family six = 2

-- how many octets an address of a family has
abbrev pub address_len : Version → ℕ
address_len four = 4
address_len six = 16

-- family, address length and address of the root
abbrev pub root : Addr → List ℕ
root (V4 octets) = 0 ∷ 1 ∷ 4 ∷ octets
root (V6 octets) = 0 ∷ 2 ∷ 16 ∷ octets

-- an element of an opaque value (RFC 6388 section 2.3): its type, or its extended type, and its value
pub data Tlv : Type 0 where
  plain : ℕ → List ℕ → Tlv
  extended : ℕ → List ℕ → Tlv

-- type, length and value; or 255, extended type, length and value
abbrev pub tlv : Tlv → List ℕ
tlv (plain kind value) = kind ∷ to_be_bytes w16 (length value) ++ value
tlv (extended kind value) = 255 ∷ to_be_bytes w16 kind ++ (to_be_bytes w16 (length value) ++ value)

-- type 255 has an extended type, and type 1, the Generic LSP Identifier, has four octets
abbrev pub IsTlv : Tlv → Type 0
IsTlv (plain kind value) = (kind ≢ 255) × (length value < 2 ^ 16) × (kind ≡ 1 → length value ≡ 4)
IsTlv (extended kind value) = (kind < 2 ^ 16) × (length value < 2 ^ 16)

-- whole TLVs, end to end
abbrev pub IsOpaque : List ℕ → Type 0
IsOpaque octets = AreWhole tlv IsTlv octets

-- opaque length and opaque value
abbrev pub opaque : List ℕ → List ℕ
opaque octets = to_be_bytes w16 (length octets) ++ octets

-- the fields of an element end to end
abbrev pub written : Fec → List ℕ
written f = kind_octet f.kind ∷ (root f.root ++ opaque f.opaque)

-- the text spells the element
pub record Spells (f : Fec) (text : List ℕ) : Type 0 where
  pub root : IsAddr f.root
  pub fits : length f.opaque ≤ 64
  pub shape : IsOpaque f.opaque
  pub octets : text ≡ written f
