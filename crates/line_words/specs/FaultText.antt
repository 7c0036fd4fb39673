-- The text of a fault.
use Rattle.std.specs.Prelude.{ℕ, List, ◌++◌, codes}
use Rattle.std.specs.Fmt.{decimal}
use Rattle.line_words.specs.declared.fault.Reason.{Reason}
use Rattle.line_words.specs.declared.fault.Reason.TheVariants as reasons
use Rattle.line_words.specs.declared.fault.TextFault.{TextFault}

-- the word of a reason
abbrev pub reason_word : Reason → List ℕ
reason_word reasons.Line = codes "line"
reason_word reasons.Byte = codes "byte"
reason_word reasons.Word = codes "word"
reason_word reasons.Limit = codes "limit"
reason_word reasons.Count = codes "count"
reason_word reasons.Number = codes "number"
reason_word reasons.Name = codes "name"
reason_word reasons.Again = codes "again"
reason_word reasons.Unknown = codes "unknown"
reason_word reasons.Address = codes "address"
reason_word reasons.Rd = codes "rd"
reason_word reasons.Targets = codes "targets"
reason_word reasons.Choice = codes "choice"
reason_word reasons.Prefix = codes "prefix"
reason_word reasons.Source = codes "source"
reason_word reasons.Group = codes "group"
reason_word reasons.Hex = codes "hex"
reason_word reasons.Overlap = codes "overlap"
reason_word reasons.Vpn = codes "vpn"
reason_word reasons.Mixed = codes "mixed"
reason_word reasons.Taken = codes "taken"
reason_word reasons.Same = codes "self"
reason_word reasons.Link = codes "link"
reason_word reasons.Family = codes "family"
reason_word reasons.Apart = codes "apart"
reason_word reasons.Events = codes "events"
reason_word reasons.Report = codes "report"
reason_word reasons.Probe = codes "probe"
reason_word reasons.Root = codes "root"
reason_word reasons.Long = codes "long"

-- the line that tells a fault
abbrev pub fault_text : TextFault → List ℕ
fault_text fault =
    codes "fault " ++ decimal fault.line ++ codes ":" ++ decimal fault.column ++ codes " " ++ reason_word fault.reason ++ codes "\n"
