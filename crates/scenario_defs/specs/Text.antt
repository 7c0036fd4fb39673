-- The text of the lines of a report.
use Rattle.std.specs.Prelude.{ℕ, ◌<◌, List, [], ◌∷◌, ◌++◌, length, slice_get, codes, None, Some}
use Rattle.std.specs.Fmt.{decimal}
use Rattle.hex.specs.Hex.{encode_lower}
use Rattle.mv_base.specs.declared.ids.NodeId.{NodeId}
use Rattle.mv_base.specs.declared.ids.IfaceId.{IfaceId}
use Rattle.scenario_defs.specs.declared.event.Kind.{Kind}
use Rattle.scenario_defs.specs.declared.event.Kind.TheVariants as kinds
use Rattle.scenario_defs.specs.declared.scenario.Scenario.{Scenario}
use Rattle.scenario_defs.specs.declared.report.FaultWord.{FaultWord}
use Rattle.scenario_defs.specs.declared.report.FaultWord.TheVariants as faults
use Rattle.scenario_defs.specs.declared.report.Refusal.{Refusal}
use Rattle.scenario_defs.specs.declared.report.Refusal.TheVariants as refusals
use Rattle.scenario_defs.specs.declared.report.ReportLine.{ReportLine}
use Rattle.scenario_defs.specs.declared.report.ReportLine.TheVariants as lines

-- the name of an interface, and of a node
abbrev pub iface_name : Scenario → IfaceId → List ℕ
iface_name scenario iface = elim (slice_get scenario.ifaces iface.0) [ None ↦ [] | Some found ↦ found.name ]

abbrev pub node_name : Scenario → NodeId → List ℕ
node_name scenario node = elim (slice_get scenario.nodes node.0) [ None ↦ [] | Some found ↦ found.name ]

-- octets in lower-case hexadecimal digits, or `-` for none
abbrev pub hex_text : List ℕ → List ℕ
hex_text [] = codes "-"
hex_text (octet ∷ octets) = encode_lower (octet ∷ octets)

abbrev pub fault_word : FaultWord → List ℕ
fault_word faults.Short = codes "short"
fault_word faults.Version = codes "version"
fault_word faults.PimType = codes "pim-type"
fault_word faults.Checksum = codes "checksum"
fault_word faults.Family = codes "family"
fault_word faults.Encoding = codes "encoding"
fault_word faults.MaskLength = codes "mask-length"
fault_word faults.Flags = codes "flags"
fault_word faults.NotMulticast = codes "not-multicast"
fault_word faults.Trailing = codes "trailing"
fault_word faults.HeaderLength = codes "header-length"
fault_word faults.TotalLength = codes "total-length"
fault_word faults.LinkLocal = codes "link-local"

abbrev pub refusal_text : Refusal → List ℕ
refusal_text refusals.Empty = codes "empty"
refusal_text refusals.State = codes "state"
refusal_text refusals.Place = codes "place"
refusal_text refusals.Full = codes "full"
refusal_text refusals.Ours = codes "ours"
refusal_text (refusals.Bytes place word) = codes "bytes " ++ decimal place ++ codes " " ++ fault_word word

abbrev pub kind_word : Kind → List ℕ
kind_word kinds.Bgp = codes "bgp"
kind_word kinds.Ldp = codes "ldp"

-- the two ends of a direction
abbrev pub ends_text : Scenario → NodeId → NodeId → List ℕ
ends_text scenario from to = node_name scenario from ++ codes " " ++ node_name scenario to

-- a line, with its LF
abbrev pub line_text : Scenario → ReportLine → List ℕ
line_text scenario (lines.Out number iface bytes) =
    codes "out " ++ decimal number ++ codes " " ++ iface_name scenario iface ++ codes " " ++ hex_text bytes ++ codes "\n"
line_text scenario (lines.Refused line reason) = codes "refused " ++ decimal line ++ codes " " ++ refusal_text reason ++ codes "\n"
line_text scenario (lines.State bytes copies buffers due unready) =
    codes "state " ++ decimal bytes ++ codes " " ++ decimal copies ++ codes " " ++ decimal buffers ++
    codes " " ++ decimal due ++ codes " " ++ decimal unready ++ codes "\n"
line_text scenario (lines.Halt line node) = codes "halt " ++ decimal line ++ codes " label " ++ node_name scenario node ++ codes "\n"
line_text scenario (lines.Put kind from to bytes) =
    codes "put " ++ kind_word kind ++ codes " " ++ ends_text scenario from to ++ codes " " ++ hex_text bytes ++ codes "\n"
line_text scenario (lines.Take kind from to bytes) =
    codes "take " ++ kind_word kind ++ codes " " ++ ends_text scenario from to ++ codes " " ++ hex_text bytes ++ codes "\n"
line_text scenario (lines.Hop from to label ttl number) =
    codes "hop " ++ ends_text scenario from to ++ codes " " ++ decimal label ++ codes " " ++ decimal ttl ++
    codes " " ++ decimal number ++ codes "\n"
line_text scenario (lines.Land from to label number) =
    codes "land " ++ ends_text scenario from to ++ codes " " ++ decimal label ++ codes " " ++ decimal number ++ codes "\n"

-- The nodes and interfaces that a line names are of the scenario.
abbrev pub IsLineOf : Scenario → ReportLine → Type 0
IsLineOf scenario (lines.Out number iface bytes) = iface.0 < length scenario.ifaces
IsLineOf scenario (lines.Refused line reason) = Unit {0}
IsLineOf scenario (lines.State bytes copies buffers due unready) = Unit {0}
IsLineOf scenario (lines.Halt line node) = node.0 < length scenario.nodes
IsLineOf scenario (lines.Put kind from to bytes) = (from.0 < length scenario.nodes) × (to.0 < length scenario.nodes)
IsLineOf scenario (lines.Take kind from to bytes) = (from.0 < length scenario.nodes) × (to.0 < length scenario.nodes)
IsLineOf scenario (lines.Hop from to label ttl number) = (from.0 < length scenario.nodes) × (to.0 < length scenario.nodes)
IsLineOf scenario (lines.Land from to label number) = (from.0 < length scenario.nodes) × (to.0 < length scenario.nodes)
