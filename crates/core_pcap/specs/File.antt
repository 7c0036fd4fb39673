-- What a file tells: the hops that it spells, or those before its first fault, and that fault.
use Rattle.std.specs.Prelude.{◌≡◌, ◌≢◌, ℕ, ◌-◌, List, [], ◌++◌, length, All, Option, None, Some}
use Rattle.std.specs.List.{flat_map}
use Rattle.core_pcap.specs.declared.fault.PcapFault.{PcapFault}
use Rattle.core_pcap.specs.declared.hop.CoreHop.{CoreHop}
use Rattle.core_pcap.specs.declared.order.ByteOrder.{ByteOrder}
use Rattle.core_pcap.specs.Spelling.{IsHop, SpellsHeader, SpellsFile, hop_text}
use Rattle.core_pcap.specs.FirstFault.{HeaderFails, HopFails}

-- The fault stands so many octets before the end.
abbrev pub IsAt : List ℕ → ℕ → ℕ → Type 0
IsAt octets left place = place ≡ length octets - left

-- The header fails, or a record after whole ones.
pub data FirstFault (hops : List CoreHop) (octets : List ℕ) (place : ℕ) (fault : PcapFault) : Type 0 where
  in_header : (left : ℕ) → HeaderFails octets left fault → hops ≡ [] → IsAt octets left place → FirstFault hops octets place fault
  in_record : (order : ByteOrder) (header rest : List ℕ) (left : ℕ) → SpellsHeader order header → All IsHop hops →
      octets ≡ header ++ (flat_map (hop_text order) hops ++ rest) → rest ≢ [] → HopFails order rest left fault → IsAt octets left place →
      FirstFault hops octets place fault

abbrev pub Tells : List CoreHop → Option (ℕ × PcapFault) → List ℕ → Type 0
Tells hops None octets = SpellsFile hops octets
Tells hops (Some f) octets = FirstFault hops octets f.0 f.1
