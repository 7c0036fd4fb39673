-- The first fault of a file: whole fields that meet their conditions stand before its place, and the next one fails.
use Rattle.std.specs.Prelude.{ℕ, ◌+◌, List}
use Rattle.core_pcap.specs.declared.fault.PcapFault.{PcapFault}
use Rattle.core_pcap.specs.declared.fault.PcapFault.TheVariants as faults
use Rattle.core_pcap.specs.declared.order.ByteOrder.{ByteOrder}
use Rattle.core_pcap.specs.declared.order.ByteOrder.TheVariants.{BigEndian}
use Rattle.core_pcap.specs.Fields.{Lacks, FieldFails, Then}
use Rattle.core_pcap.specs.Spelling.{IsMagic, AreOctets, IsWord, IsKnownWord, IsKnownHalf, IsMillis, IsLength, IsNode, IsShim}
use Rattle.core_pcap.specs.Spelling.{IsVersion, IsPassed, IsTime, AreLengths, AreEnds, IsLabelled}

-- ---- the header

abbrev pub MagicFails : List ℕ → ℕ → PcapFault → Type 0
MagicFails = FieldFails 4 IsMagic 0 faults.Magic

-- the two parts of the version, of which either fails at the first
abbrev pub VersionFails : ByteOrder → List ℕ → ℕ → PcapFault → Type 0
VersionFails order =
    Then (IsKnownHalf order 2) (FieldFails 2 (IsKnownHalf order 2) 0 faults.Version) (λ major.
    FieldFails 2 (IsKnownHalf order 4) 2 faults.Version)

-- time zone, accuracy and longest frame
abbrev pub PassedFails : List ℕ → ℕ → PcapFault → Type 0
PassedFails = Then (AreOctets 4) (Lacks 4) (λ zone. Then (AreOctets 4) (Lacks 4) (λ accuracy. Lacks 4))

abbrev pub NetworkFails : ByteOrder → List ℕ → ℕ → PcapFault → Type 0
NetworkFails order = FieldFails 4 (IsKnownWord order 1) 0 faults.Network

abbrev pub HeaderFails : List ℕ → ℕ → PcapFault → Type 0
HeaderFails =
    Then IsMagic MagicFails (λ order.
    Then (IsVersion order) (VersionFails order) (λ version.
    Then IsPassed PassedFails (λ passed. NetworkFails order)))

-- ---- a record

-- seconds and microseconds
abbrev pub TimeFails : ByteOrder → List ℕ → ℕ → PcapFault → Type 0
TimeFails order = Then (IsWord order) (Lacks 4) (λ seconds. FieldFails 4 (IsMillis order) 0 faults.Time)

-- the length of the frame, twice
abbrev pub LengthsFail : ByteOrder → List ℕ → ℕ → PcapFault → Type 0
LengthsFail order =
    Then (IsLength order) (FieldFails 4 (IsLength order) 0 faults.Length) (λ len.
    FieldFails 4 (IsKnownWord order (18 + len)) 0 faults.Length)

-- the destination and the source
abbrev pub EndsFail : List ℕ → ℕ → PcapFault → Type 0
EndsFail = Then IsNode (FieldFails 6 IsNode 0 faults.Address) (λ to. FieldFails 6 IsNode 0 faults.Address)

-- the type of the frame, and its label stack entry
abbrev pub LabelFails : List ℕ → ℕ → PcapFault → Type 0
LabelFails =
    Then (IsKnownHalf BigEndian 0x8847) (FieldFails 2 (IsKnownHalf BigEndian 0x8847) 0 faults.EtherType) (λ mpls.
    FieldFails 4 IsShim 0 faults.Shim)

-- the datagram is one field
abbrev pub HopFails : ByteOrder → List ℕ → ℕ → PcapFault → Type 0
HopFails order =
    Then (IsTime order) (TimeFails order) (λ tick.
    Then (AreLengths order) (LengthsFail order) (λ len.
    Then AreEnds EndsFail (λ ends.
    Then IsLabelled LabelFails (λ label. Lacks len))))
