use Rattle.std.proofs.Common.{◌≡◌, ◌++◌, take}
use Rattle.std.specs.List.{flat_map}
use Rattle.value_text.specs.JoinPruneText.{source_line}
use Rattle.value_text.proofs.pim_lines.put_sources.Given as goal

abbrev pub invariant-loop-source : goal.invariant-loop-source
invariant-loop-source l = l.out ≡ l.initial.out ++ flat_map (source_line l.word) (take l.source-index l.sources)
