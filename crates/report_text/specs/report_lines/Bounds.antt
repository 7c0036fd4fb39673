-- What the types of the program say of a line: each number is of so many bits, and octets are octets.
use Rattle.std.specs.Prelude.{◌<◌, ◌^◌}
use Rattle.hex.specs.Hex.{IsBytes}
use Rattle.scenario_defs.specs.declared.report.Refusal.{Refusal}
use Rattle.scenario_defs.specs.declared.report.Refusal.TheVariants as refusals
use Rattle.scenario_defs.specs.declared.report.ReportLine.{ReportLine}
use Rattle.scenario_defs.specs.declared.report.ReportLine.TheVariants as lines

abbrev pub HasReasonBounds : Refusal → Type 0
HasReasonBounds (refusals.Bytes place word) = place < 2 ^ 32
HasReasonBounds other = Unit {0}

-- what every line of the program meets
abbrev pub HasTypeBounds : ReportLine → Type 0
HasTypeBounds (lines.Out number iface bytes) = (number < 2 ^ 64) × IsBytes bytes
HasTypeBounds (lines.Refused line reason) = (line < 2 ^ 32) × HasReasonBounds reason
HasTypeBounds (lines.State bytes copies buffers due unready) =
    (bytes < 2 ^ 64) × (copies < 2 ^ 64) × (buffers < 2 ^ 64) × (due < 2 ^ 64) × (unready < 2 ^ 64)
HasTypeBounds (lines.Halt line node) = line < 2 ^ 32
HasTypeBounds (lines.Put kind from to bytes) = IsBytes bytes
HasTypeBounds (lines.Take kind from to bytes) = IsBytes bytes
HasTypeBounds (lines.Hop from to label ttl number) = (label < 2 ^ 32) × (ttl < 2 ^ 8) × (number < 2 ^ 64)
HasTypeBounds (lines.Land from to label number) = (label < 2 ^ 32) × (number < 2 ^ 64)
