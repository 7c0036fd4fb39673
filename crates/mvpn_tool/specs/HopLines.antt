-- What `hops` reads, and the lines that it writes of a file.
use Rattle.std.specs.Prelude.{◌≡◌, ℕ, Bool, true, false, nat_lt, List, ◌++◌, length, codes}
use Rattle.std.specs.Prelude.{Option, None, Some, Result, Ok, Err, if◌then◌else◌}
use Rattle.std.specs.Fmt.{decimal}
use Rattle.std.specs.List.{flat_map}
use Rattle.scenario_defs.specs.Text.{hex_text}
use Rattle.line_words.specs.declared.fault.Reason.TheVariants as reasons
use Rattle.line_words.specs.declared.fault.TextFault.{TextFault}
use Rattle.value_text.specs.ValueText.{refused_line}
use Rattle.core_pcap.specs.declared.fault.PcapFault.{PcapFault}
use Rattle.core_pcap.specs.declared.fault.PcapFault.TheVariants as faults
use Rattle.core_pcap.specs.declared.hop.CoreHop.{CoreHop}
use Rattle.core_pcap.specs.File.{FirstFault}
use Rattle.core_pcap.specs.Spelling.{SpellsFile}

-- the octets of an input that has at most 16,777,216 of them
abbrev pub within_limit : List ℕ → Result (List ℕ) TextFault
within_limit input = if nat_lt 16777216 (length input) then Err (record { line = 1; column = 1; reason = reasons.Long }) else Ok input

abbrev pub pcap_word : PcapFault → List ℕ
pcap_word faults.Short = codes "short"
pcap_word faults.Magic = codes "magic"
pcap_word faults.Version = codes "version"
pcap_word faults.Network = codes "network"
pcap_word faults.Time = codes "time"
pcap_word faults.Length = codes "length"
pcap_word faults.Address = codes "address"
pcap_word faults.EtherType = codes "ether-type"
pcap_word faults.Shim = codes "shim"

-- label, TTL, and the datagram's octets
abbrev pub label_text : CoreHop → List ℕ
label_text hop = decimal hop.label ++ codes " " ++ decimal hop.ttl ++ codes " " ++ hex_text hop.bytes ++ codes "\n"

-- the clock, and the numbers of both nodes, in front of them
abbrev pub hop_line : CoreHop → List ℕ
hop_line hop =
    codes "hop " ++ decimal hop.tick ++ codes " " ++ decimal hop.from.0 ++ codes " " ++ decimal hop.to.0 ++ codes " " ++ label_text hop

abbrev pub hop_lines : List CoreHop → List ℕ
hop_lines hops = flat_map hop_line hops

-- A text and a fault, if there is one, make these lines: the line of the fault comes after the text.
abbrev pub TellsFault : Option (ℕ × PcapFault) → List ℕ → Bool → List ℕ → Type 0
TellsFault None text refused lines = (lines ≡ text) × (refused ≡ false)
TellsFault (Some f) text refused lines = (lines ≡ text ++ refused_line f.0 (pcap_word f.1)) × (refused ≡ true)

-- The octets spell a file, and they have a first fault.
abbrev pub IsFile : List ℕ → Type 0
IsFile octets = (hops : List CoreHop) × SpellsFile hops octets

abbrev pub HasFault : List ℕ → Type 0
HasFault octets = (hops : List CoreHop) × (place : ℕ) × (fault : PcapFault) × FirstFault hops octets place fault

-- The octets are a file with just these lines, or with these lines in front of its first fault, whose line is the last one.
abbrev pub TellsHops : Bool → List ℕ → List ℕ → Type 0
TellsHops false octets text = (hops : List CoreHop) × SpellsFile hops octets × (text ≡ hop_lines hops)
TellsHops true octets text =
    (hops : List CoreHop) × (place : ℕ) × (fault : PcapFault) × FirstFault hops octets place fault ×
    (text ≡ hop_lines hops ++ refused_line place (pcap_word fault))
