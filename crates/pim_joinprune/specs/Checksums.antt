-- What the checksum of a message covers (RFC 7761 section 4.9; RFC 1071).
use Rattle.std.specs.Prelude.{ℕ, ◌+◌, ◌%◌, ◌^◌, List, [], ◌∷◌, ◌++◌, length, ◌==◌, if◌then◌else◌}
use Rattle.std.specs.Int.{w32, to_be_bytes}
use Rattle.mv_base.specs.Checksum.{checksum}

-- fe80::1, the address of each customer's router towards the network
abbrev pub router : List ℕ
router = 0xFE ∷ 0x80 ∷ 0 ∷ 0 ∷ 0 ∷ 0 ∷ 0 ∷ 0 ∷ 0 ∷ 0 ∷ 0 ∷ 0 ∷ 0 ∷ 0 ∷ 0 ∷ 1 ∷ []

-- ff02::d, all PIM routers (RFC 7761 section 4.9)
abbrev pub all_pim_routers : List ℕ
all_pim_routers = 0xFF ∷ 2 ∷ 0 ∷ 0 ∷ 0 ∷ 0 ∷ 0 ∷ 0 ∷ 0 ∷ 0 ∷ 0 ∷ 0 ∷ 0 ∷ 0 ∷ 0 ∷ 0x0D ∷ []

-- The pseudo-header of a message of so many octets (RFC 8200 section 8.1): source, destination, length, and the protocol number of
-- PIM. A length past 32 bits is cut, and no message has one.
abbrev pub pseudo_header : ℕ → List ℕ
pseudo_header len = router ++ (all_pim_routers ++ (to_be_bytes w32 (len % 2 ^ 32) ++ (0 ∷ 0 ∷ 0 ∷ 103 ∷ [])))

-- What is covered in front of a message with these octets after its checksum: with IPv6, as the first of them says, the
-- pseudo-header.
abbrev pub pseudo_of : List ℕ → List ℕ
pseudo_of [] = []
pseudo_of (family ∷ rest) = if family == 2 then pseudo_header (5 + length rest) else []

-- the checksum of a message: that of its octets with zeros in the checksum's place, after what is covered in front of it
unfoldable pub sum_of : ℕ → ℕ → List ℕ → ℕ
sum_of first reserved fields = checksum (pseudo_of fields ++ (first ∷ reserved ∷ 0 ∷ 0 ∷ fields))
