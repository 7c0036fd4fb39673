-- The address family of a message: that of all its addresses (RFC 7761 section 4.9.1).
use Rattle.std.specs.Prelude.{◌≡◌, ℕ, List, length, Option, Some, None, ◌==◌, if◌then◌else◌}
use Rattle.mv_base.specs.declared.addr.Addr.{Addr}
use Rattle.mv_base.specs.declared.addr.Addr.TheVariants.{V4, V6}
use Rattle.pim_joinprune.specs.declared.family.Family.{Family}
use Rattle.pim_joinprune.specs.declared.family.Family.TheVariants.{Ipv4, Ipv6}

-- the octet that names the family
abbrev pub family_octet : Family → ℕ
family_octet Ipv4 = 1
family_octet Ipv6 = 2

-- how many octets an address has
abbrev pub addr_len : Family → ℕ
addr_len Ipv4 = 4
addr_len Ipv6 = 16

-- the mask length of a whole address
abbrev pub mask_len : Family → ℕ
mask_len Ipv4 = 32
mask_len Ipv6 = 128

abbrev pub family_of : Addr → Family
family_of (V4 octets) = Ipv4
family_of (V6 octets) = Ipv6

-- an address of that family
abbrev pub IsOf : Family → Addr → Type 0
IsOf Ipv4 (V4 octets) = length octets ≡ 4
IsOf Ipv6 (V6 octets) = length octets ≡ 16
IsOf Ipv4 (V6 octets) = ⊥
IsOf Ipv6 (V4 octets) = ⊥

-- the address of that family with those octets
abbrev pub addr_of : Family → List ℕ → Addr
addr_of Ipv4 octets = V4 octets
addr_of Ipv6 octets = V6 octets

-- the family that an octet names
abbrev pub named_family : ℕ → Option Family
named_family octet = if octet == 1 then Some Ipv4 else if octet == 2 then Some Ipv6 else None
