-- Reading a packet: its first fault in the order in which fields are tried, or else its source and group.
use Rattle.std.specs.Prelude.{ℕ, ◌+◌, ◌*◌, ◌/◌, ◌%◌, ◌==◌, ◌&&◌, ◌||◌, not, nat_lt, List, ◌∷◌, ◌++◌, length}
use Rattle.std.specs.Prelude.{take, drop, slice_index, Option, None, Some, Result, Ok, Err, if◌then◌else◌}
use Rattle.std.specs.Int.{w16, from_be_bytes}
use Rattle.mv_base.specs.Checksum.{checksum}
use Rattle.mv_base.specs.declared.addr.Addr.TheVariants.{V4, V6}
use Rattle.label_forwarding.specs.declared.fault.PacketFault.{PacketFault}
use Rattle.label_forwarding.specs.declared.fault.PacketFault.TheVariants as reasons
use Rattle.label_forwarding.specs.Spelling.{Packet}

-- a fault at that place
abbrev pub fault : ℕ → PacketFault → ℕ × PacketFault
fault place reason = (place, reason)

abbrev pub bad : ℕ → PacketFault → Option (ℕ × PacketFault)
bad place reason = Some (fault place reason)

-- the number of the two octets at that place
abbrev pub number_at : ℕ → List ℕ → ℕ
number_at place octets = from_be_bytes w16 (take 2 (drop place octets))

-- so many octets at that place
abbrev pub octets_in : ℕ → ℕ → List ℕ → List ℕ
octets_in count place octets = take count (drop place octets)

-- the octets of an IPv4 header
abbrev pub header_len : List ℕ → ℕ
header_len octets = slice_index octets 0 % 16 * 4

-- the header with a checksum of 0
abbrev pub unsummed : ℕ → List ℕ → List ℕ
unsummed len octets = take 10 octets ++ (0 ∷ 0 ∷ drop 12 (take len octets))

-- the first fault of an IPv4 packet
unfoldable pub four_fault : List ℕ → Option (ℕ × PacketFault)
four_fault octets =
    if nat_lt (header_len octets) 20 || nat_lt (length octets) (header_len octets) then bad 0 reasons.HeaderLength else
    if not (number_at 2 octets == length octets) then bad 2 reasons.TotalLength else
    if not (number_at 10 octets == checksum (unsummed (header_len octets) octets)) then bad 10 reasons.Checksum else
    if nat_lt (slice_index octets 16) 224 || nat_lt 239 (slice_index octets 16) then bad 16 reasons.NotMulticast else
    if (slice_index octets 16 == 224) && (slice_index octets 17 == 0) && (slice_index octets 18 == 0) then bad 16 reasons.LinkLocal else
    None

-- the first fault of an IPv6 packet that has its whole header
unfoldable pub six_fault : List ℕ → Option (ℕ × PacketFault)
six_fault octets =
    if not (number_at 4 octets + 40 == length octets) then bad 4 reasons.TotalLength else
    if not (slice_index octets 24 == 255) then bad 24 reasons.NotMulticast else
    if nat_lt (slice_index octets 25 % 16) 3 then bad 24 reasons.LinkLocal else None

-- a packet, where it has no fault
abbrev pub unless : Option (ℕ × PacketFault) → Packet → Result Packet (ℕ × PacketFault)
unless None packet = Ok packet
unless (Some found) packet = Err found

unfoldable pub four_of : List ℕ → Result Packet (ℕ × PacketFault)
four_of octets =
    unless (four_fault octets) (record { source = V4 (octets_in 4 12 octets); group = V4 (octets_in 4 16 octets); octets = octets })

unfoldable pub six_of : List ℕ → Result Packet (ℕ × PacketFault)
six_of octets =
    if nat_lt (length octets) 40 then Err (fault (length octets) reasons.Short) else
    unless (six_fault octets) (record { source = V6 (octets_in 16 8 octets); group = V6 (octets_in 16 24 octets); octets = octets })

-- the packet that the octets are, or their first fault
unfoldable pub packet_of : List ℕ → Result Packet (ℕ × PacketFault)
packet_of octets =
    if nat_lt (length octets) 20 then Err (fault (length octets) reasons.Short) else
    if slice_index octets 0 / 16 == 4 then four_of octets else
    if slice_index octets 0 / 16 == 6 then six_of octets else Err (fault 0 reasons.Version)
