-- Numbers in the two orders of octets, and addresses of nodes.
use Rattle.std.specs.Prelude.{ℕ, List, ◌∷◌}
use Rattle.std.specs.Int.{w16, w32, to_be_bytes, to_le_bytes, from_be_bytes, from_le_bytes}
use Rattle.mv_base.specs.declared.ids.NodeId.{NodeId}
use Rattle.core_pcap.specs.declared.order.ByteOrder.{ByteOrder}
use Rattle.core_pcap.specs.declared.order.ByteOrder.TheVariants.{BigEndian, LittleEndian}

-- a number in four octets, and in two
abbrev pub word : ByteOrder → ℕ → List ℕ
word BigEndian n = to_be_bytes w32 n
word LittleEndian n = to_le_bytes w32 n

abbrev pub half : ByteOrder → ℕ → List ℕ
half BigEndian n = to_be_bytes w16 n
half LittleEndian n = to_le_bytes w16 n

-- the number of four octets, and of two
abbrev pub word_of : ByteOrder → List ℕ → ℕ
word_of BigEndian octets = from_be_bytes w32 octets
word_of LittleEndian octets = from_le_bytes w32 octets

abbrev pub half_of : ByteOrder → List ℕ → ℕ
half_of BigEndian octets = from_be_bytes w16 octets
half_of LittleEndian octets = from_le_bytes w16 octets

-- the Ethernet address of a node: 02:00:00:00, and its number
abbrev pub node_octets : NodeId → List ℕ
node_octets node = 2 ∷ 0 ∷ 0 ∷ 0 ∷ to_be_bytes w16 node.0
