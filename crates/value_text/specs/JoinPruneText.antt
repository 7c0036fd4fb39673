-- The text of Join/Prune messages: a line for the message, each group and each source; and the words of faults.
use Rattle.std.specs.Prelude.{List, ℕ, ◌++◌, codes}
use Rattle.std.specs.List.{flat_map}
use Rattle.std.specs.Fmt.{decimal}
use Rattle.pim_joinprune.specs.declared.fault.PimFault.{PimFault}
use Rattle.pim_joinprune.specs.declared.fault.PimFault.TheVariants as faults
use Rattle.pim_joinprune.specs.declared.source.SourceKind.{SourceKind}
use Rattle.pim_joinprune.specs.declared.source.SourceKind.TheVariants.{Sg, Star, Rpt}
use Rattle.pim_joinprune.specs.declared.source.JpSource.{JpSource}
use Rattle.pim_joinprune.specs.declared.group.Group.{Group}
use Rattle.pim_joinprune.specs.declared.message.JoinPrune.{JoinPrune}
use Rattle.value_text.specs.ValueText.{addr_text}

-- the word of a kind of source
abbrev pub source_kind_text : SourceKind → List ℕ
source_kind_text Sg = codes "sg"
source_kind_text Star = codes "star"
source_kind_text Rpt = codes "rpt"

-- the line of a source, after the word `join` or `prune`
abbrev pub source_line : List ℕ → JpSource → List ℕ
source_line word source = word ++ source_kind_text source.kind ++ codes " " ++ addr_text source.addr ++ codes "\n"

-- the line of a group, and then those of its joins and of its prunes
abbrev pub group_lines : Group → List ℕ
group_lines group =
    codes "group " ++ addr_text group.group ++ codes "\n" ++ flat_map (source_line (codes "join ")) group.joins ++
    flat_map (source_line (codes "prune ")) group.prunes

-- the line of the neighbour and the holdtime, and then those of the groups
abbrev pub joinprune_lines : JoinPrune → List ℕ
joinprune_lines message =
    codes "joinprune " ++ addr_text message.neighbour ++ codes " " ++ decimal message.holdtime ++ codes "\n" ++
    flat_map group_lines message.groups

-- the word of a fault
abbrev pub pim_word : PimFault → List ℕ
pim_word faults.Short = codes "short"
pim_word faults.Version = codes "version"
pim_word faults.PimType = codes "pim-type"
pim_word faults.Checksum = codes "checksum"
pim_word faults.Family = codes "family"
pim_word faults.Encoding = codes "encoding"
pim_word faults.MaskLength = codes "mask-length"
pim_word faults.Flags = codes "flags"
pim_word faults.NotMulticast = codes "not-multicast"
pim_word faults.Trailing = codes "trailing"
