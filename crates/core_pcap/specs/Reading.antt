-- Reading the fields of a header and of a record from left to right, with the first fault that is met.
use Rattle.std.specs.Prelude.{ℕ, ◌+◌, ◌-◌, ◌*◌, ◌/◌, ◌%◌, ◌==◌, ◌&&◌, ◌||◌, not, nat_lt, nat_le, List, [], ◌∷◌, length, take, drop, slice_index}
use Rattle.std.specs.Prelude.{Option, Some, None, Ok, Err, ⊤, if◌then◌else◌}
use Rattle.std.specs.Int.{w16, w32, from_be_bytes}
use Rattle.mv_base.specs.Cursor.{◌>>=◌}
use Rattle.mv_base.specs.declared.ids.NodeId.{NodeId}
use Rattle.core_pcap.specs.declared.fault.PcapFault.{PcapFault}
use Rattle.core_pcap.specs.declared.fault.PcapFault.TheVariants as faults
use Rattle.core_pcap.specs.declared.hop.CoreHop.{CoreHop}
use Rattle.core_pcap.specs.declared.order.ByteOrder.{ByteOrder}
use Rattle.core_pcap.specs.declared.order.ByteOrder.TheVariants.{BigEndian, LittleEndian}
use Rattle.core_pcap.specs.Fields.{Read}
use Rattle.core_pcap.specs.Words.{word_of, half_of}

-- so many octets
abbrev pub octets_at : ℕ → List ℕ → Read (List ℕ)
octets_at n octets = if nat_lt (length octets) n then Err (length octets, faults.Short) else Ok (take n octets, drop n octets)

-- the value, where there is one, or else the fault
abbrev pub known_or : {A : Type 0} → Option A → ℕ × PcapFault → List ℕ → Read A
known_or (Some x) fault rest = Ok (x, rest)
known_or None fault rest = Err fault

-- a field of n octets, and what value they have
unfoldable pub field_at : {A : Type 0} → ℕ → (List ℕ → Option A) → ℕ → PcapFault → List ℕ → Read A
field_at n of before own octets = do
  field ← octets_at n octets
  known_or (of field.0) (length octets + before, own) field.1

-- nothing more is known of a number that has one value alone
abbrev pub same_as : ℕ → ℕ → Option ⊤
same_as value n = if n == value then Some tt else None

abbrev pub word_at : ByteOrder → List ℕ → Read ℕ
word_at order = field_at 4 (λ field. Some (word_of order field)) 0 faults.Short

abbrev pub known_word_at : ByteOrder → ℕ → PcapFault → List ℕ → Read ⊤
known_word_at order value own = field_at 4 (λ field. same_as value (word_of order field)) 0 own

abbrev pub known_half_at : ByteOrder → ℕ → ℕ → PcapFault → List ℕ → Read ⊤
known_half_at order value before own = field_at 2 (λ field. same_as value (half_of order field)) before own

-- ---- the header

-- the order of octets in which these four are the magic number
abbrev pub magic_of : List ℕ → Option ByteOrder
magic_of field =
    if from_be_bytes w32 field == 0xA1B2C3D4 then Some BigEndian else
    if from_be_bytes w32 field == 0xD4C3B2A1 then Some LittleEndian else None

abbrev pub magic_at : List ℕ → Read ByteOrder
magic_at = field_at 4 magic_of 0 faults.Magic

unfoldable pub version_at : ByteOrder → List ℕ → Read ⊤
version_at order octets = do
  major ← known_half_at order 2 0 faults.Version octets
  known_half_at order 4 2 faults.Version major.1

unfoldable pub passed_at : List ℕ → Read ⊤
passed_at octets = do
  zone ← octets_at 4 octets
  accuracy ← octets_at 4 zone.1
  longest ← octets_at 4 accuracy.1
  Ok (tt, longest.1)

unfoldable pub header_at : List ℕ → Read ByteOrder
header_at octets = do
  order ← magic_at octets
  version ← version_at order.0 order.1
  passed ← passed_at version.1
  network ← known_word_at order.0 1 faults.Network passed.1
  Ok (order.0, network.1)

-- ---- a record

-- the milliseconds of so many microseconds
abbrev pub millis_of : ℕ → Option ℕ
millis_of micros = if (micros % 1000 == 0) && nat_lt micros 1000000 then Some (micros / 1000) else None

-- the octets of the datagram in a frame of so many octets
abbrev pub length_of : ℕ → Option ℕ
length_of frame = if nat_lt frame 18 || nat_lt 65535 frame then None else Some (frame - 18)

-- the node of an address
abbrev pub node_of : List ℕ → Option NodeId
node_of field =
    if from_be_bytes w32 (slice_index field 0 ∷ slice_index field 1 ∷ slice_index field 2 ∷ slice_index field 3 ∷ []) == 0x02000000
    then Some (record { 0 = from_be_bytes w16 (slice_index field 4 ∷ slice_index field 5 ∷ []) }) else None

-- the label and the TTL of a label stack entry
abbrev pub shim_of : ℕ → Option (ℕ × ℕ)
shim_of entry =
    if ((entry / 256 % 16 == 1) && nat_le 16 (entry / 4096)) && not (entry % 256 == 0) then Some (entry / 4096, entry % 256) else None

abbrev pub millis_at : ByteOrder → List ℕ → Read ℕ
millis_at order = field_at 4 (λ field. millis_of (word_of order field)) 0 faults.Time

abbrev pub length_at : ByteOrder → List ℕ → Read ℕ
length_at order = field_at 4 (λ field. length_of (word_of order field)) 0 faults.Length

abbrev pub node_at : List ℕ → Read NodeId
node_at = field_at 6 node_of 0 faults.Address

abbrev pub shim_at : List ℕ → Read (ℕ × ℕ)
shim_at = field_at 4 (λ field. shim_of (from_be_bytes w32 field)) 0 faults.Shim

unfoldable pub time_at : ByteOrder → List ℕ → Read ℕ
time_at order octets = do
  seconds ← word_at order octets
  millis ← millis_at order seconds.1
  Ok (seconds.0 * 1000 + millis.0, millis.1)

unfoldable pub lengths_at : ByteOrder → List ℕ → Read ℕ
lengths_at order octets = do
  len ← length_at order octets
  same ← known_word_at order (18 + len.0) faults.Length len.1
  Ok (len.0, same.1)

unfoldable pub ends_at : List ℕ → Read (NodeId × NodeId)
ends_at octets = do
  to ← node_at octets
  from ← node_at to.1
  Ok ((to.0, from.0), from.1)

unfoldable pub label_at : List ℕ → Read (ℕ × ℕ)
label_at octets = do
  mpls ← known_half_at BigEndian 0x8847 0 faults.EtherType octets
  shim_at mpls.1

unfoldable pub hop_at : ByteOrder → List ℕ → Read CoreHop
hop_at order octets = do
  tick ← time_at order octets
  len ← lengths_at order tick.1
  ends ← ends_at len.1
  label ← label_at ends.1
  bytes ← octets_at len.0 label.1
  Ok (record { tick = tick.0; from = ends.0.1; to = ends.0.0; label = label.0.0; ttl = label.0.1; bytes = bytes.0 }, bytes.1)
