-- Prefixes: the first bits of addresses.
use Rattle.std.specs.Prelude.{◌≡◌, ℕ, ◌-◌, ◌/◌, ◌%◌, ◌^◌, ◌≤◌, ◌==◌, Bool, false}
use Rattle.std.specs.Int.{w32, w128, from_be_bytes}
use Rattle.mv_base.specs.declared.addr.Addr.{Addr}
use Rattle.mv_base.specs.declared.addr.Addr.TheVariants.{V4, V6}
use Rattle.mv_base.specs.declared.prefix.Prefix.{Prefix}

-- The address has that many bits, and no bit after them is set.
abbrev pub IsPrefixOf : Addr → ℕ → Type 0
IsPrefixOf (V4 octets) bits = (bits ≤ 32) × (from_be_bytes w32 octets % 2 ^ (32 - bits) ≡ 0)
IsPrefixOf (V6 octets) bits = (bits ≤ 128) × (from_be_bytes w128 octets % 2 ^ (128 - bits) ≡ 0)

-- whether the two addresses are of one family and have the same first bits
abbrev pub same_front : Addr → Addr → ℕ → Bool
same_front (V4 own) (V4 other) bits = (from_be_bytes w32 own / 2 ^ (32 - bits)) == (from_be_bytes w32 other / 2 ^ (32 - bits))
same_front (V6 own) (V6 other) bits = (from_be_bytes w128 own / 2 ^ (128 - bits)) == (from_be_bytes w128 other / 2 ^ (128 - bits))
same_front (V4 own) (V6 other) bits = false
same_front (V6 own) (V4 other) bits = false

-- whether the prefix covers the address
abbrev pub covers : Prefix → Addr → Bool
covers prefix addr = same_front prefix.addr addr prefix.bits
