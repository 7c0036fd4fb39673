-- PMSI Tunnel attributes (RFC 6514 section 5), and what spells each: some bits may be anything.
use Rattle.std.specs.Prelude.{◌≡◌, ◌≢◌, ℕ, ◌+◌, ◌*◌, ◌<◌, ◌≤◌, ◌^◌, Bool, List, [], ◌∷◌, ◌++◌}
use Rattle.std.specs.Prelude.{length, Option, Some, None, bit_and, ◌==◌, ⊤, if◌then◌else◌}
use Rattle.mv_base.specs.Address.{addr_octets, IsAddr}
use Rattle.mv_base.specs.Cursor.{three}
use Rattle.mldp.specs.declared.mldp_fec.fec.FecKind.TheVariants.{P2mp}
use Rattle.mldp.specs.mldp_fec.Spelling as fec
use Rattle.bgp_values.specs.declared.pmsi_attr.pmsi.Tunnel.{Tunnel}
use Rattle.bgp_values.specs.declared.pmsi_attr.pmsi.Tunnel.TheVariants as tunnels
use Rattle.bgp_values.specs.declared.pmsi_attr.pmsi.Pmsi.{Pmsi}

-- the tunnel types whose identifiers are kept as they stand: 1, 3, 4, 5 and 7
pub record IsKept (kind : ℕ) : Type 0 where
  pub below : kind ≤ 7
  pub not_none : kind ≢ 0
  pub not_mldp : kind ≢ 2
  pub not_ingress : kind ≢ 6

-- the tunnel type of each tunnel
abbrev pub type_octet : Tunnel → ℕ
type_octet tunnels.None = 0
type_octet (tunnels.Mldp element) = 2
type_octet (tunnels.Ingress addr) = 6
type_octet (tunnels.Other kind octets) = kind

-- an identifier of mLDP is a P2MP FEC element (RFC 6388 section 2.2), and the others have bounds
abbrev pub IsTunnel : Tunnel → Type 0
IsTunnel tunnels.None = ⊤
IsTunnel (tunnels.Mldp element) = (element.kind ≡ P2mp) × fec.Spells element (fec.written element)
IsTunnel (tunnels.Ingress addr) = IsAddr addr
IsTunnel (tunnels.Other kind octets) = IsKept kind × (length octets ≤ 96)

-- the tunnel identifier
abbrev pub identifier : Tunnel → List ℕ
identifier tunnels.None = []
identifier (tunnels.Mldp element) = fec.written element
identifier (tunnels.Ingress addr) = addr_octets addr
identifier (tunnels.Other kind octets) = octets

-- a label has 20 bits (RFC 3032 section 2.1), and 0 is no label
abbrev pub IsLabel : Option ℕ → Type 0
IsLabel None = ⊤
IsLabel (Some label) = (0 < label) × (label < 2 ^ 20)

-- the bits that stand for the label
abbrev pub label_bits : Option ℕ → ℕ
label_bits None = 0
label_bits (Some label) = label

-- flags, tunnel type, and label with the four bits after it
abbrev pub header : ℕ → Pmsi → ℕ → List ℕ
header flags p low = flags ∷ type_octet p.tunnel ∷ three (16 * label_bits p.label + low)

-- the text spells the value, whatever stands in the other seven flags and in the four bits after the label
pub record Spells (p : Pmsi) (text : List ℕ) : Type 0 where
  pub flags : ℕ
  pub low : ℕ
  pub octet : flags < 2 ^ 8
  pub leaf : p.leaf_info ≡ (bit_and flags 1 == 1)
  pub four_bits : low < 2 ^ 4
  pub label : IsLabel p.label
  pub tunnel : IsTunnel p.tunnel
  pub octets : text ≡ header flags p low ++ identifier p.tunnel

-- the flag of leaf information
abbrev pub leaf_bit : Bool → ℕ
leaf_bit leaf = if leaf then 1 else 0

-- the header that is written: zeros in those bits
abbrev pub written_header : Pmsi → List ℕ
written_header p = header (leaf_bit p.leaf_info) p 0

-- the text that is written
abbrev pub written : Pmsi → List ℕ
written p = written_header p ++ identifier p.tunnel
