-- Packets to multicast groups, of IPv4 (RFC 791 section 3.1) and of IPv6 (RFC 8200 section 3): their fields end to end, and what
-- each field has to be.
use Rattle.std.specs.Prelude.{◌≡◌, ℕ, ◌+◌, ◌-◌, ◌*◌, ◌%◌, ◌<◌, ◌≤◌, ◌^◌, List, ◌∷◌, ◌++◌, length, take, slice_index}
use Rattle.std.specs.Int.{w16, to_be_bytes}
use Rattle.mv_base.specs.Checksum.{checksum}
use Rattle.mv_base.specs.declared.addr.Addr.{Addr}
use Rattle.mv_base.specs.declared.addr.Addr.TheVariants.{V4, V6}

-- a packet, its source and the group that it is sent to
pub record Packet : Type 0 where
  pub source : Addr
  pub group : Addr
  pub octets : List ℕ

-- ---- IPv4

-- The fields of an IPv4 packet: the header's length in words of four octets, the type of service, the total length, what stands
-- from the identification to the protocol, the header's checksum, the source and the group, and the options with the data.
pub record FourFields : Type 0 where
  pub words : ℕ
  pub service : ℕ
  pub total : ℕ
  pub ignored : List ℕ
  pub sum : ℕ
  pub source : List ℕ
  pub group : List ℕ
  pub rest : List ℕ

-- how wide each field is
pub record AreFour (f : FourFields) : Type 0 where
  pub words : f.words < 2 ^ 4
  pub total : f.total < 2 ^ 16
  pub ignored : length f.ignored ≡ 6
  pub sum : f.sum < 2 ^ 16
  pub source : length f.source ≡ 4
  pub group : length f.group ≡ 4

-- the fields end to end; version 4 and the length of the header share an octet
abbrev pub four_octets : FourFields → List ℕ
four_octets f =
    (64 + f.words) ∷ f.service ∷ (to_be_bytes w16 f.total ++ (f.ignored ++ (to_be_bytes w16 f.sum ++ (f.source ++ (f.group ++ f.rest)))))

-- the header alone, with a checksum of 0
abbrev pub unsummed : FourFields → List ℕ
unsummed f = four_octets (record f { sum = 0; rest = take (4 * f.words - 20) f.rest })

-- the header has its fixed part, and ends within the packet
abbrev pub HeaderFits : FourFields → Type 0
HeaderFits f = (5 ≤ f.words) × (4 * f.words ≤ 20 + length f.rest)

-- the total length is that of the packet
abbrev pub TotalFits : FourFields → Type 0
TotalFits f = f.total ≡ 20 + length f.rest

-- the checksum is that of the header
abbrev pub SumFits : FourFields → Type 0
SumFits f = f.sum ≡ checksum (unsummed f)

-- a multicast address of IPv4: 224.0.0.0 to 239.255.255.255 (RFC 1112 section 4)
abbrev pub IsFourGroup : List ℕ → Type 0
IsFourGroup group = (224 ≤ slice_index group 0) × (slice_index group 0 ≤ 239)

-- a group that is not forwarded: 224.0.0.0 to 224.0.0.255 (RFC 5771 section 4)
abbrev pub IsFourLocal : List ℕ → Type 0
IsFourLocal group = (slice_index group 0 ≡ 224) × (slice_index group 1 ≡ 0) × (slice_index group 2 ≡ 0)

-- each field is what it has to be
pub record MeetsFour (f : FourFields) : Type 0 where
  pub header : HeaderFits f
  pub total : TotalFits f
  pub sum : SumFits f
  pub multicast : IsFourGroup f.group
  pub global : ¬ IsFourLocal f.group

-- ---- IPv6

-- The fields of an IPv6 packet: the traffic class and the flow label, of which the first four bits stand beside the version; the
-- payload length; the next header and the hop limit; the source, the group and the payload.
pub record SixFields : Type 0 where
  pub class : ℕ
  pub flow : List ℕ
  pub len : ℕ
  pub ignored : List ℕ
  pub source : List ℕ
  pub group : List ℕ
  pub payload : List ℕ

-- how wide each field is
pub record AreSix (f : SixFields) : Type 0 where
  pub class : f.class < 2 ^ 4
  pub flow : length f.flow ≡ 3
  pub len : f.len < 2 ^ 16
  pub ignored : length f.ignored ≡ 2
  pub source : length f.source ≡ 16
  pub group : length f.group ≡ 16

-- the fields end to end
abbrev pub six_octets : SixFields → List ℕ
six_octets f = (96 + f.class) ∷ (f.flow ++ (to_be_bytes w16 f.len ++ (f.ignored ++ (f.source ++ (f.group ++ f.payload)))))

-- the payload length is that of the payload
abbrev pub LenFits : SixFields → Type 0
LenFits f = f.len ≡ length f.payload

-- a multicast address of IPv6 (RFC 4291 section 2.7)
abbrev pub IsSixGroup : List ℕ → Type 0
IsSixGroup group = slice_index group 0 ≡ 255

-- a group that is not forwarded: its scope, in the low half of the second octet, is 0 to 2 (RFC 4291 section 2.7)
abbrev pub IsSixLocal : List ℕ → Type 0
IsSixLocal group = slice_index group 1 % 16 < 3

-- each field is what it has to be
pub record MeetsSix (f : SixFields) : Type 0 where
  pub len : LenFits f
  pub multicast : IsSixGroup f.group
  pub global : ¬ IsSixLocal f.group

-- ---- both

-- The octets are a packet of that source to that group.
pub data IsPacket (source group : Addr) (octets : List ℕ) : Type 0 where
  four : (f : FourFields) → AreFour f → MeetsFour f → octets ≡ four_octets f → source ≡ V4 f.source → group ≡ V4 f.group
      → IsPacket source group octets
  six : (f : SixFields) → AreSix f → MeetsSix f → octets ≡ six_octets f → source ≡ V6 f.source → group ≡ V6 f.group
      → IsPacket source group octets
