-- The number of octets of a TLV, from its type and its length.
use Rattle.std.specs.Prelude.{ℕ, ◌+◌, ◌-◌, List, length, take, drop, Option, Some, None}
use Rattle.std.specs.Prelude.{nat_lt, ◌==◌, ◌&&◌, ◌||◌, not, slice_index, if◌then◌else◌}
use Rattle.std.specs.Int.{w16, from_be_bytes}

-- the octets before the value: 5 where there is an extended type
abbrev pub header_len : List ℕ → ℕ
header_len octets = if slice_index octets 0 == 255 then 5 else 3

-- the length that stands in the two octets before the value
abbrev pub value_len : List ℕ → ℕ
value_len octets = from_be_bytes w16 (take 2 (drop (header_len octets - 2) octets))

-- the number of octets of the TLV at the front, where one stands there
unfoldable pub tlv_len : List ℕ → Option ℕ
tlv_len octets =
    if nat_lt (length octets) (header_len octets) then None else
    if nat_lt (length octets) (header_len octets + value_len octets)
    || ((slice_index octets 0 == 1) && not (value_len octets == 4)) then None else
    Some (header_len octets + value_len octets)
