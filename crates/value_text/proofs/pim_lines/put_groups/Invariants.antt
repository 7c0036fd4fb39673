use Rattle.std.proofs.Common.{◌≡◌, ◌++◌, take}
use Rattle.std.specs.List.{flat_map}
use Rattle.value_text.specs.JoinPruneText.{group_lines}
use Rattle.value_text.proofs.pim_lines.put_groups.Given as goal

abbrev pub invariant-loop-group : goal.invariant-loop-group
invariant-loop-group l = l.out ≡ l.initial.out ++ flat_map group_lines (take l.group-index l.groups)
