-- Files of hops: classic pcap files of Ethernet frames, each with one MPLS label stack entry (RFC 3032) in front of a datagram.
use Rattle.std.specs.Prelude.{◌≡◌, ℕ, ◌+◌, ◌*◌, ◌/◌, ◌%◌, ◌<◌, ◌≤◌, ◌^◌, List, ◌∷◌, ◌++◌, length, All, ⊤}
use Rattle.std.specs.Int.{w32, to_be_bytes}
use Rattle.std.specs.List.{flat_map}
use Rattle.mv_base.specs.declared.ids.NodeId.{NodeId}
use Rattle.core_pcap.specs.declared.hop.CoreHop.{CoreHop}
use Rattle.core_pcap.specs.declared.order.ByteOrder.{ByteOrder}
use Rattle.core_pcap.specs.declared.order.ByteOrder.TheVariants.{BigEndian}
use Rattle.core_pcap.specs.Words.{word, half, node_octets}

-- ---- fields

-- the magic number, by whose octets their order is told
abbrev pub magic : ℕ
magic = 0xA1B2C3D4

abbrev pub IsMagic : ByteOrder → List ℕ → Type 0
IsMagic order text = text ≡ word order magic

-- so many octets, which may be anything
abbrev pub AreOctets : ℕ → List ℕ → List ℕ → Type 0
AreOctets n octets text = (length octets ≡ n) × (text ≡ octets)

-- a number of four octets
abbrev pub IsWord : ByteOrder → ℕ → List ℕ → Type 0
IsWord order n text = (n < 2 ^ 32) × (text ≡ word order n)

-- a number of four octets, and one of two, that has one value alone
abbrev pub IsKnownWord : ByteOrder → ℕ → ⊤ → List ℕ → Type 0
IsKnownWord order value known text = text ≡ word order value

abbrev pub IsKnownHalf : ByteOrder → ℕ → ⊤ → List ℕ → Type 0
IsKnownHalf order value known text = text ≡ half order value

-- microseconds that are whole milliseconds of a second
abbrev pub IsMillis : ByteOrder → ℕ → List ℕ → Type 0
IsMillis order millis text = (millis < 1000) × (text ≡ word order (millis * 1000))

-- the length of a frame, of which so many octets are the datagram's
abbrev pub IsLength : ByteOrder → ℕ → List ℕ → Type 0
IsLength order len text = (len + 18 ≤ 65535) × (text ≡ word order (18 + len))

-- the address of a node
abbrev pub IsNode : NodeId → List ℕ → Type 0
IsNode node text = (node.0 < 2 ^ 16) × (text ≡ node_octets node)

-- a label stack entry of traffic class 0, which is the bottom of its stack (RFC 3032 section 2.1)
abbrev pub shim : ℕ → ℕ → ℕ
shim label ttl = label * 4096 + 256 + ttl

abbrev pub IsLabel : ℕ → Type 0
IsLabel label = (16 ≤ label) × (label < 2 ^ 20)

abbrev pub IsTtl : ℕ → Type 0
IsTtl ttl = (0 < ttl) × (ttl < 2 ^ 8)

-- a label and a TTL
abbrev pub IsShim : ℕ × ℕ → List ℕ → Type 0
IsShim x text = IsLabel x.0 × IsTtl x.1 × (text ≡ to_be_bytes w32 (shim x.0 x.1))

-- ---- parts of a header

-- version 2.4
abbrev pub IsVersion : ByteOrder → ⊤ → List ℕ → Type 0
IsVersion order known text = text ≡ half order 2 ++ half order 4

-- time zone, accuracy and longest frame, four octets each
abbrev pub IsPassed : ⊤ → List ℕ → Type 0
IsPassed known text = length text ≡ 12

-- The header of a file: its network is 1, Ethernet.
pub record SpellsHeader (order : ByteOrder) (text : List ℕ) : Type 0 where
  pub passed : List ℕ
  pub len : length passed ≡ 12
  pub octets : text ≡ word order magic ++ ((half order 2 ++ half order 4) ++ (passed ++ word order 1))

-- ---- parts of a record

-- seconds and microseconds: a tick is a millisecond
abbrev pub time_text : ByteOrder → ℕ → List ℕ
time_text order tick = word order (tick / 1000) ++ word order (tick % 1000 * 1000)

abbrev pub IsTime : ByteOrder → ℕ → List ℕ → Type 0
IsTime order tick text = (tick / 1000 < 2 ^ 32) × (text ≡ time_text order tick)

-- the octets of a frame that were taken, and those that it had
abbrev pub AreLengths : ByteOrder → ℕ → List ℕ → Type 0
AreLengths order len text = (len + 18 ≤ 65535) × (text ≡ word order (18 + len) ++ word order (18 + len))

-- the destination and the source
abbrev pub AreEnds : NodeId × NodeId → List ℕ → Type 0
AreEnds x text = (x.0.0 < 2 ^ 16) × (x.1.0 < 2 ^ 16) × (text ≡ node_octets x.0 ++ node_octets x.1)

-- MPLS (RFC 3032 section 5), and the label and the TTL
abbrev pub labelled_text : ℕ → ℕ → List ℕ
labelled_text label ttl = 0x88 ∷ 0x47 ∷ to_be_bytes w32 (shim label ttl)

abbrev pub IsLabelled : ℕ × ℕ → List ℕ → Type 0
IsLabelled x text = IsLabel x.0 × IsTtl x.1 × (text ≡ labelled_text x.0 x.1)

-- The hop has a spelling.
pub record IsHop (hop : CoreHop) : Type 0 where
  pub tick : hop.tick / 1000 < 2 ^ 32
  pub from : hop.from.0 < 2 ^ 16
  pub to : hop.to.0 < 2 ^ 16
  pub label : IsLabel hop.label
  pub ttl : IsTtl hop.ttl
  pub few : length hop.bytes + 18 ≤ 65535

-- the frame of a hop
abbrev pub frame_text : CoreHop → List ℕ
frame_text hop =
    (node_octets hop.to ++ node_octets hop.from) ++ (labelled_text hop.label hop.ttl ++ hop.bytes)

-- the record of a hop: seconds, microseconds, the length twice, and the frame
abbrev pub hop_text : ByteOrder → CoreHop → List ℕ
hop_text order hop =
    time_text order hop.tick ++ ((word order (18 + length hop.bytes) ++ word order (18 + length hop.bytes)) ++ frame_text hop)

pub record SpellsHop (order : ByteOrder) (hop : CoreHop) (text : List ℕ) : Type 0 where
  pub is : IsHop hop
  pub octets : text ≡ hop_text order hop

-- ---- a file

-- A header, and the records of the hops end to end in its order of octets.
pub record SpellsFile (hops : List CoreHop) (octets : List ℕ) : Type 0 where
  pub order : ByteOrder
  pub header : List ℕ
  pub head : SpellsHeader order header
  pub each : All IsHop hops
  pub parts : octets ≡ header ++ flat_map (hop_text order) hops

-- the header that is written: time zone and accuracy 0, frames of at most 65,535 octets
abbrev pub written_header : List ℕ
written_header =
    word BigEndian magic ++ ((half BigEndian 2 ++ half BigEndian 4)
    ++ ((word BigEndian 0 ++ word BigEndian 0 ++ word BigEndian 65535) ++ word BigEndian 1))

-- the file that is written
abbrev pub written_file : List CoreHop → List ℕ
written_file hops = written_header ++ flat_map (hop_text BigEndian) hops
