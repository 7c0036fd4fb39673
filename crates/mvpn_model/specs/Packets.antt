-- What the octets of a packet of either family tell: their first fault, as a report says it, or their flow (RFC 791 section 3.1,
-- RFC 8200 section 3).
use Rattle.std.specs.Prelude.{ℕ, List, [], ◌∷◌, Option, None, Some, Ok, Err}
use Rattle.mv_base.specs.declared.addr.Addr.{Addr}
use Rattle.mv_base.specs.declared.addr.Addr.TheVariants.{V4}
use Rattle.label_forwarding.specs.declared.fault.PacketFault.{PacketFault}
use Rattle.label_forwarding.specs.declared.fault.PacketFault.TheVariants as reasons
use Rattle.label_forwarding.specs.Reading.{packet_of}
use Rattle.scenario_defs.specs.declared.report.Refusal.{Refusal}
use Rattle.scenario_defs.specs.declared.report.Refusal.TheVariants as refusals
use Rattle.scenario_defs.specs.declared.report.FaultWord.{FaultWord}
use Rattle.scenario_defs.specs.declared.report.FaultWord.TheVariants as words

-- the fault word of a reason
abbrev pub packet_word : PacketFault → FaultWord
packet_word reasons.Short = words.Short
packet_word reasons.Version = words.Version
packet_word reasons.HeaderLength = words.HeaderLength
packet_word reasons.TotalLength = words.TotalLength
packet_word reasons.Checksum = words.Checksum
packet_word reasons.NotMulticast = words.NotMulticast
packet_word reasons.LinkLocal = words.LinkLocal

-- The refusal of octets that are no packet: the first fault.
abbrev pub packet_fault : List ℕ → Option Refusal
packet_fault octets = elim (packet_of octets) [
  | Ok packet ↦ None
  | Err fault ↦ Some (refusals.Bytes fault.0 (packet_word fault.1))
]

-- the unspecified address, where octets tell none
abbrev pub no_addr : Addr
no_addr = V4 (0 ∷ 0 ∷ 0 ∷ 0 ∷ [])

-- source and group of a packet
abbrev pub source_in : List ℕ → Addr
source_in octets = elim (packet_of octets) [ Ok packet ↦ packet.source | Err fault ↦ no_addr ]

abbrev pub group_in : List ℕ → Addr
group_in octets = elim (packet_of octets) [ Ok packet ↦ packet.group | Err fault ↦ no_addr ]
