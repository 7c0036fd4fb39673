-- Reports without the lines of the wire.
use Rattle.std.specs.Prelude.{Bool, true, false, List, map, filter}
use Rattle.scenario_defs.specs.declared.report.ReportLine.{ReportLine}
use Rattle.scenario_defs.specs.declared.report.ReportLine.TheVariants as lines
use Rattle.mvpn_model.specs.Report.{Entry}

-- All lines but those of the wire: octets that a node puts or takes, copies that hop or land.
abbrev pub is_plain : ReportLine → Bool
is_plain (lines.Put kind from to bytes) = false
is_plain (lines.Take kind from to bytes) = false
is_plain (lines.Hop from to label ttl number) = false
is_plain (lines.Land from to label number) = false
is_plain other = true

abbrev pub plain_entry : Entry → Entry
plain_entry entry = record { event = entry.event; lines = filter is_plain entry.lines }

-- the report without the lines of the wire, act by act
abbrev pub plain : List Entry → List Entry
plain report = map plain_entry report
